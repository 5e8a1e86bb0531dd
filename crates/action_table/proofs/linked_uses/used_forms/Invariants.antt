use Rattle.std.proofs.Common.{◌≡◌, Some, map, take}
use Rattle.action_table.specs.Linking.{all_there, linked_use}
use Rattle.action_table.proofs.linked_uses.used_forms.Given as goal

abbrev pub invariant-loop-form : goal.invariant-loop-form
invariant-loop-form l = all_there (map (linked_use l.table l.params) (take l.form-index l.forms)) ≡ Some l.uses.items
