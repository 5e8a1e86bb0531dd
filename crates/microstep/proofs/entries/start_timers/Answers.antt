use Rattle.std.proofs.Common.{ℕ, List}
use Rattle.xs_model.specs.declared.expr.Expr.{Expr}
use Rattle.microstep.specs.Acts.{Act, after_act}
use Rattle.microstep.proofs.TurnLemmas.{turn-map}
use Rattle.microstep.proofs.entries.start_timers.Goals as goal

pub loop-timer-init : goal.loop-timer-init
loop-timer-init c = turn-map (after_act c.args.event.now) (λ (timer : List ℕ × Expr). Act.StartTimer timer.0 timer.1) c.args.timers.now c.args.progress.now
