use Rattle.std.proofs.Common.{◌≡◌}
use Rattle.microstep.specs.Actions.{in_turn}
use Rattle.microstep.specs.Working.{cancel_timer}
use Rattle.microstep.proofs.TurnLemmas.{turn_from}
use Rattle.microstep.proofs.acts.cancel_timers.Given as goal

-- what is done so far, and what is left to do
abbrev pub invariant-loop-timer : goal.invariant-loop-timer
invariant-loop-timer l = in_turn cancel_timer l.timers l.fn.progress ≡ turn_from cancel_timer l.timers l.timer-index l.progress
