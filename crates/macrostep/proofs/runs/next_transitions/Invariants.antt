use Rattle.std.proofs.Common.{length}
use Rattle.macrostep.specs.Trails.{run_with}
use Rattle.macrostep.proofs.RunLemmas.{IsOnward}
use Rattle.macrostep.proofs.runs.next_transitions.Given as goal

-- the raised events that were taken took no transitions
abbrev pub invariant-loop-eventless : goal.invariant-loop-eventless
invariant-loop-eventless l = IsOnward l.def (run_with l.own l.first l.fn.trail) (run_with l.own l.first l.trail)

abbrev pub decreases-loop-eventless : goal.decreases-loop-eventless
decreases-loop-eventless l = length l.trail.raised.items
