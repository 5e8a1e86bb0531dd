use Rattle.std.proofs.Common.{ℕ, ◌<◌, length}
use Rattle.node_tree.specs.Nodes.{IsBelow, IsWithin}
use Rattle.step_sets.specs.Domains.{IsCommonAncestor}
use Rattle.step_sets.proofs.transition_domain.innermost_ancestor.Given as goal

-- the node is the source or above it, and each common ancestor is above the node
abbrev pub invariant-loop-above : goal.invariant-loop-above
invariant-loop-above l = record {
  inside : l.node < length l.tree;
  climbed : IsWithin l.tree l.source l.node;
  passed : (a : ℕ) → IsCommonAncestor l.tree l.source l.targets a → IsBelow l.tree l.node a;
}

abbrev pub decreases-loop-above : goal.decreases-loop-above
decreases-loop-above l = l.node
