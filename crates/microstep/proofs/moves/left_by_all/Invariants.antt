use Rattle.std.proofs.Common.{take}
use Rattle.std.specs.List.{filter_map}
use Rattle.step_sets.specs.Sets.{IsSetOf}
use Rattle.microstep.specs.Micro.{IsMovedByOne, Leaves}
use Rattle.microstep.specs.Selection.{transition_at}
use Rattle.microstep.proofs.moves.left_by_all.Given as goal

-- what the transitions so far leave
abbrev pub invariant-loop-place : goal.invariant-loop-place
invariant-loop-place l =
    IsSetOf (IsMovedByOne (Leaves l.def l.active) (filter_map (transition_at l.def l.eventless) (take l.place-index l.places))) l.left.items
