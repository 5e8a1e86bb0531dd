use Rattle.std.proofs.Common.{ℕ, ◌<◌}
use Rattle.node_tree.specs.Nodes.{IsRow}
use Rattle.node_tree.proofs.order.first_misplaced.Given as goal

abbrev pub invariant-loop-n : goal.invariant-loop-n
invariant-loop-n l = (k : ℕ) → k < l.n → IsRow l.nodes k
