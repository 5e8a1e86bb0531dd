use Rattle.std.proofs.Common.{◌≡◌, take}
use Rattle.std.specs.List.{flat_map}
use Rattle.action_table.specs.Unnamed.{least_unnamed}
use Rattle.action_table.specs.Uses.{uses_of_action_row}
use Rattle.action_table.proofs.unnamed_forms.unnamed_in_action_rows.Given as goal

abbrev pub invariant-loop-place : goal.invariant-loop-place
invariant-loop-place l = l.least ≡ least_unnamed l.ids l.table (flat_map uses_of_action_row (take l.place l.table.actions))
