use Rattle.std.proofs.Common.{take}
use Rattle.std.specs.List.{AllZip}
use Rattle.action_table.specs.Linking.{IsLinkedNode}
use Rattle.action_table.proofs.linked_nodes.linked_nodes.Given as goal

abbrev pub invariant-loop-node : goal.invariant-loop-node
invariant-loop-node l = AllZip (IsLinkedNode l.table) (take l.node-index l.nodes) l.linked.items
