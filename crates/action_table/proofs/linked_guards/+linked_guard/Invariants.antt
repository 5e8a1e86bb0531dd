use Rattle.std.proofs.Common.{◌≡◌, Some, map, take}
use Rattle.action_table.specs.Linking.{all_there, linked_guard}
use Rattle.action_table.proofs.linked_guards.+linked_guard.Given as goal

abbrev pub invariant-linked_guards-loop-guard : goal.invariant-linked_guards-loop-guard
invariant-linked_guards-loop-guard l = all_there (map (linked_guard l.table) (take l.guard-index l.guards)) ≡ Some l.linked.items
