use Rattle.std.proofs.Common.{◌≡◌, take}
use Rattle.std.specs.List.{flat_map}
use Rattle.action_table.specs.Unnamed.{least_unnamed}
use Rattle.action_table.specs.Uses.{uses_of_node}
use Rattle.action_table.proofs.unnamed.unnamed_in_nodes.Given as goal

abbrev pub invariant-loop-node : goal.invariant-loop-node
invariant-loop-node l = l.least ≡ least_unnamed l.ids l.table (flat_map uses_of_node (take l.node-index l.nodes))
