use Rattle.std.proofs.Common.{◌≡◌, Some, map, take}
use Rattle.action_table.specs.Linking.{all_there, linked_after}
use Rattle.action_table.proofs.linked_nodes.linked_delays.Given as goal

abbrev pub invariant-loop-after : goal.invariant-loop-after
invariant-loop-after l = all_there (map (linked_after l.table) (take l.after-index l.after-items)) ≡ Some l.linked.items
