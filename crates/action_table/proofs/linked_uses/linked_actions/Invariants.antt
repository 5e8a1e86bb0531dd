use Rattle.std.proofs.Common.{◌≡◌, Some, take}
use Rattle.action_table.specs.Linking.{linked_actions}
use Rattle.action_table.proofs.linked_uses.linked_actions.Given as goal

abbrev pub invariant-loop-one : goal.invariant-loop-one
invariant-loop-one l = linked_actions l.table (take l.one-index l.used) ≡ Some l.uses.items
