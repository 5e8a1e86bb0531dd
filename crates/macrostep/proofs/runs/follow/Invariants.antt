use Rattle.std.proofs.Common.{◌-◌, length}
use Rattle.office_types.specs.declared.limits.TheConstants.{MAX_MICROSTEPS}
use Rattle.macrostep.specs.Trails.{run_with}
use Rattle.macrostep.proofs.RunLemmas.{IsFollowed}
use Rattle.macrostep.proofs.runs.follow.Given as goal

-- what follows is what followed at first
abbrev pub invariant-loop-made : goal.invariant-loop-made
invariant-loop-made l =
    IsFollowed l.def (run_with l.fn.made.own l.first l.fn.trail) l.fn.made.finished (run_with l.made.own l.first l.trail) l.made.finished

abbrev pub decreases-loop-made : goal.decreases-loop-made
decreases-loop-made l = MAX_MICROSTEPS - length l.trail.read.items
