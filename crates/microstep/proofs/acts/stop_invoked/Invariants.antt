use Rattle.std.proofs.Common.{◌≡◌}
use Rattle.microstep.specs.Actions.{in_turn}
use Rattle.microstep.specs.Working.{stop_invocation}
use Rattle.microstep.proofs.TurnLemmas.{turn_from}
use Rattle.microstep.proofs.acts.stop_invoked.Given as goal

-- what is done so far, and what is left to do
abbrev pub invariant-loop-invocation : goal.invariant-loop-invocation
invariant-loop-invocation l = in_turn stop_invocation l.invocations l.fn.progress ≡ turn_from stop_invocation l.invocations l.invocation-index l.progress
