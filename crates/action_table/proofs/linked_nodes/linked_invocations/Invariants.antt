use Rattle.std.proofs.Common.{◌≡◌, Some, map, take}
use Rattle.action_table.specs.Linking.{all_there, linked_invocation}
use Rattle.action_table.proofs.linked_nodes.linked_invocations.Given as goal

abbrev pub invariant-loop-invocation : goal.invariant-loop-invocation
invariant-loop-invocation l = all_there (map (linked_invocation l.table) (take l.invocation-index l.invocation-items)) ≡ Some l.linked.items
