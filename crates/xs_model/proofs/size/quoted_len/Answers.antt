use Rattle.std.proofs.Common.{◌≡◌, arith, take, refl}
use Rattle.std.proofs.lemmas.List.{take_all}
use Rattle.xs_model.proofs.SizeLemmas.{length-quoted}
use Rattle.xs_model.proofs.size.quoted_len.Goals as goal

pub returns : goal.returns
returns c =
    let all : take c.loop-byte.byte-index c.args.text.now ≡ c.args.text.now = take_all _ _ (omega arith) in
    rw (c.loop-byte.invariant, all, length-quoted) refl
