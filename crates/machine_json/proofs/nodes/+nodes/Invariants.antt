use Rattle.std.proofs.Common.{◌≡◌, None, length, map, take}
use Rattle.std.specs.Prelude.{codes}
use Rattle.ordered_json.specs.Words.{get, member_parts}
use Rattle.machine_json.specs.Nodes.{AddsNodes, AreNodesBelow, node_parts}
use Rattle.machine_json.proofs.nodes.+nodes.Given as goal

abbrev pub invariant-add_children-loop-child : goal.invariant-add_children-loop-child
invariant-add_children-loop-child l =
    AddsNodes (map node_parts l.fn.nodes.items) (map node_parts l.nodes.items)
    (AreNodesBelow (length l.fn.nodes.items) l.parent (take l.child-index (map member_parts l.child-items)))

abbrev pub invariant-add_states-loop-member : goal.invariant-add_states-loop-member
invariant-add_states-loop-member l = record {
  same : l.nodes.items ≡ l.fn.nodes.items;
  none : get (codes "states") (take l.member-index (map member_parts l.members)) ≡ None;
}
