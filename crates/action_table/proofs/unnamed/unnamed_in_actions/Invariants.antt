use Rattle.std.proofs.Common.{◌≡◌, take}
use Rattle.std.specs.List.{flat_map}
use Rattle.action_table.specs.Unnamed.{least_unnamed}
use Rattle.action_table.specs.Uses.{uses_of_action}
use Rattle.action_table.proofs.unnamed.unnamed_in_actions.Given as goal

abbrev pub invariant-loop-one : goal.invariant-loop-one
invariant-loop-one l = l.least ≡ least_unnamed l.ids l.table (flat_map uses_of_action (take l.one-index l.used))
