use Rattle.std.proofs.Common.{◌≡◌, take}
use Rattle.std.specs.List.{flat_map}
use Rattle.action_table.specs.Unnamed.{least_unnamed}
use Rattle.action_table.specs.Uses.{uses_of_item}
use Rattle.action_table.proofs.unnamed_forms.+unnamed_form.Given as goal

abbrev pub invariant-unnamed_in_items-loop-item : goal.invariant-unnamed_in_items-loop-item
invariant-unnamed_in_items-loop-item l = l.least ≡ least_unnamed l.ids l.table (flat_map uses_of_item (take l.item-index l.items))
