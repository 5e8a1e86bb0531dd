use Rattle.std.proofs.Common.{◌≡◌, take}
use Rattle.std.specs.List.{flat_map}
use Rattle.action_table.specs.Unnamed.{least_unnamed}
use Rattle.action_table.specs.Uses.{uses_of_transition}
use Rattle.action_table.proofs.unnamed.unnamed_in_transitions.Given as goal

abbrev pub invariant-loop-transition : goal.invariant-loop-transition
invariant-loop-transition l = l.least ≡ least_unnamed l.ids l.table (flat_map uses_of_transition (take l.transition-index l.transitions))
