use Rattle.std.proofs.Common.{ℕ, List}
use Rattle.xs_model.specs.declared.expr.Expr.{Expr}
use Rattle.microstep.specs.Acts.{Act, after_act, after_acts, starts}
use Rattle.std.proofs.Common.{◌≡◌}
use Rattle.microstep.proofs.TurnLemmas.{turn_from}
use Rattle.microstep.proofs.entries.start_timers.Given as goal

-- what is done so far, and what is left to do
abbrev pub invariant-loop-timer : goal.invariant-loop-timer
invariant-loop-timer l = after_acts l.event (starts l.timers) l.fn.progress ≡ turn_from (λ (timer : List ℕ × Expr). after_act l.event (Act.StartTimer timer.0 timer.1)) l.timers l.timer-index l.progress
