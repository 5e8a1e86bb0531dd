use Rattle.std.proofs.Common.{ℕ, ◌≡◌, ◌<◌, ◌≤◌, length, slice_index}
use Rattle.node_tree.specs.Tables.{IsEnd}
use Rattle.node_tree.proofs.ends.subtree_ends.Given as goal

-- the ends of the nodes from here on are found
abbrev pub invariant-loop-n : goal.invariant-loop-n
invariant-loop-n l = record {
  len : length l.ends.items ≡ length l.nodes;
  later : (k : ℕ) → l.n ≤ k → k < length l.nodes → IsEnd l.nodes k (slice_index l.ends.items k);
}
