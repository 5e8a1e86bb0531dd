use Rattle.std.proofs.Common.{◌≡◌, Some, map, take}
use Rattle.action_table.specs.Linking.{all_there, linked_transition}
use Rattle.action_table.proofs.linked_nodes.linked_transitions.Given as goal

abbrev pub invariant-loop-transition : goal.invariant-loop-transition
invariant-loop-transition l = all_there (map (linked_transition l.table) (take l.transition-index l.transition-items)) ≡ Some l.linked.items
