use Rattle.std.proofs.Common.{refl}
use Rattle.std.specs.Prelude.{codes}
use Rattle.snapshot_text.specs.BaseText.{caller_data}
use Rattle.snapshot_text.proofs.TokenLemmas.{keyed_list_written, on_ok}
use Rattle.snapshot_text.proofs.base_text.put_callers.Goals as goal

pub returns-clause-tokens : goal.returns-clause-tokens
returns-clause-tokens c =
    on_ok c.end_array.result
    (λ ended. keyed_list_written caller_data (codes "callers") c.args.callers.now c.args.callers.now c.loop-caller.caller-index c.args.writer.now.tokens c.loop-caller.writer.tokens c.end_array.new.self.tokens
    ended c.loop-caller.invariant.1 refl c.loop-caller-test.false)
    c.end_array.ensures.ok
