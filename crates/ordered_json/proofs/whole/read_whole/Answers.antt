-- The fault of one byte is the whole text's.
use Rattle.std.proofs.lemmas.Result.{err_from_is_err_and}
use Rattle.ordered_json.proofs.RunLemmas.{answer_from-fault}
use Rattle.ordered_json.proofs.whole.read_whole.Goals as goal

pub returns-in_err-take_byte-clause-err : goal.returns-in_err-take_byte-clause-err
returns-in_err-take_byte-clause-err c =
    let p = err_from_is_err_and c.from_residual.result c.from_residual.ensures.1 in
    rw (p.1, p.2) (λ is_fault.
    answer_from-fault c.loop-place.place c.args.text.now c.loop-place.reader _ _ c.loop-place-test.true c.loop-place.invariant (c.in_err-take_byte.ensures.err is_fault))
