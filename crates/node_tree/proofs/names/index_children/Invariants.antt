use Rattle.std.proofs.Common.{ℕ, List, ◌≡◌, ◌<◌, take, length, slice_index_or}
use Rattle.node_tree.specs.Nodes.{child_of}
use Rattle.node_tree.specs.Tables.{NodesByName, node_named}
use Rattle.node_tree.proofs.names.index_children.Given as goal

-- the keys of the rows so far are entered at their parents
abbrev pub invariant-loop-n : goal.invariant-loop-n
invariant-loop-n l = record {
  len : length l.children.items ≡ length l.nodes;
  keys : (m : ℕ) (d : NodesByName) (key : List ℕ) → m < length l.nodes → node_named (slice_index_or l.children.items m d) key ≡ child_of (take l.n l.nodes) m key;
}
