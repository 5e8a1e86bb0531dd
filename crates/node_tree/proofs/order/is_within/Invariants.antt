use Rattle.std.proofs.Common.{◌≤◌}
use Rattle.node_tree.specs.Nodes.{IsWithin}
use Rattle.node_tree.proofs.order.is_within.Given as goal

-- the first row is the one reached so far or below it, and what the first is or is below, that one is or is below
abbrev pub invariant-loop-at : goal.invariant-loop-at
invariant-loop-at l = record {
  inside : l.at ≤ l.low;
  reached : IsWithin l.nodes l.low l.at;
  kept : IsWithin l.nodes l.low l.high → IsWithin l.nodes l.at l.high;
}

abbrev pub decreases-loop-at : goal.decreases-loop-at
decreases-loop-at l = l.at
