use Rattle.std.proofs.Common.{◌↔◌, ◌⊎◌, ℕ}
use Rattle.std.specs.List.{Contains}
use Rattle.node_tree.specs.Nodes.{IsWithin}
use Rattle.snapshot_text.proofs.validity.histories.push_path.Given as goal

-- the nodes from the low one up to this one
abbrev pub invariant-loop-node : goal.invariant-loop-node
invariant-loop-node l = record {
  low : IsWithin l.tree l.low l.node;
  top : IsWithin l.tree l.node l.top;
  same : (n : ℕ) → Contains l.nodes.items n ↔ (Contains l.fn.nodes.items n ⊎ (IsWithin l.tree l.low n × IsWithin l.tree n l.node));
}

abbrev pub decreases-loop-node : goal.decreases-loop-node
decreases-loop-node l = l.node
