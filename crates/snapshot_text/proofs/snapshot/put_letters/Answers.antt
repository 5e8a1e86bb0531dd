use Rattle.std.proofs.Common.{refl}
use Rattle.std.specs.Prelude.{codes}
use Rattle.snapshot_text.specs.Snapshots.{letter_data}
use Rattle.snapshot_text.proofs.TokenLemmas.{keyed_list_written, on_ok}
use Rattle.snapshot_text.proofs.snapshot.put_letters.Goals as goal

pub returns-clause-tokens : goal.returns-clause-tokens
returns-clause-tokens c =
    on_ok c.end_array.result
    (λ ended. keyed_list_written letter_data (codes "letters") c.args.letters.now c.args.letters.now c.loop-letter.letter-index c.args.writer.now.tokens c.loop-letter.writer.tokens c.end_array.new.self.tokens
    ended c.loop-letter.invariant.1 refl c.loop-letter-test.false)
    c.end_array.ensures.ok
