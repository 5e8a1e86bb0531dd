use Rattle.std.proofs.Common.{◌≡◌, Some, map, take}
use Rattle.action_table.specs.Linking.{all_there, linked_item}
use Rattle.action_table.proofs.linked_forms.+linked_form.Given as goal

abbrev pub invariant-linked_items-loop-item : goal.invariant-linked_items-loop-item
invariant-linked_items-loop-item l = all_there (map (linked_item l.table) (take l.item-index l.items)) ≡ Some l.linked.items
