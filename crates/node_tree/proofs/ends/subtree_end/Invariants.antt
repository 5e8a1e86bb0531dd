use Rattle.std.proofs.Common.{ℕ, ◌<◌, ◌≤◌, ◌-◌, length}
use Rattle.node_tree.specs.Nodes.{IsBelow}
use Rattle.node_tree.proofs.ends.subtree_end.Given as goal

-- the rows passed over are below the node
abbrev pub invariant-loop-at : goal.invariant-loop-at
invariant-loop-at l = record {
  after : l.n < l.at;
  inside : l.at ≤ length l.nodes;
  below : (k : ℕ) → l.n < k → k < l.at → IsBelow l.nodes k l.n;
}

abbrev pub decreases-loop-at : goal.decreases-loop-at
decreases-loop-at l = length l.nodes - l.at
