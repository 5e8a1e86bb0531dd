use Rattle.std.proofs.Common.{refl}
use Rattle.std.specs.Prelude.{codes}
use Rattle.snapshot_text.specs.BaseText.{timer_data}
use Rattle.snapshot_text.proofs.TokenLemmas.{keyed_list_written, on_ok}
use Rattle.snapshot_text.proofs.base_text.put_timers.Goals as goal

pub returns-clause-tokens : goal.returns-clause-tokens
returns-clause-tokens c =
    on_ok c.end_array.result
    (λ ended. keyed_list_written timer_data (codes "timers") c.args.timers.now c.args.timers.now c.loop-timer.timer-index c.args.writer.now.tokens c.loop-timer.writer.tokens c.end_array.new.self.tokens
    ended c.loop-timer.invariant.1 refl c.loop-timer-test.false)
    c.end_array.ensures.ok
