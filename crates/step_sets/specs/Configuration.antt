-- The legal configurations of a state machine.
use Rattle.std.specs.Prelude.{◌≡◌, ℕ, ◌<◌, Some, length}
use Rattle.node_tree.specs.declared.node.Kind.TheVariants.{Compound, Parallel}
use Rattle.node_tree.specs.Nodes.{IsChild}
use Rattle.node_tree.specs.Kinds.{Nodes, kind_of, IsHistory}

-- one child of the node is a member, and no other child is
abbrev pub HasOneChild : Nodes → (ℕ → Type 0) → ℕ → Type 0
HasOneChild nodes Member c =
    (only : ℕ) × IsChild nodes only c × Member only
    × ((n : ℕ) → IsChild nodes n c → Member n → n ≡ only)

-- each child of the node is a member, but for history nodes
abbrev pub HasAllRegions : Nodes → (ℕ → Type 0) → ℕ → Type 0
HasAllRegions nodes Member p =
    (r : ℕ) → IsChild nodes r p → ¬ IsHistory nodes r → Member r

-- a legal configuration: a set of nodes with the root, each member's parent, exactly one child of
-- each compound member, all children but history nodes of each parallel member, and no history node
pub record IsLegal (nodes : Nodes) (Member : ℕ → Type 0) : Type 0 where
  pub of_tree : (n : ℕ) → Member n → n < length nodes
  pub root : Member 0
  pub parents : (n p : ℕ) → IsChild nodes n p → Member n → Member p
  pub one_child : (c initial : ℕ) → kind_of nodes c ≡ Some (Compound initial) → Member c
      → HasOneChild nodes Member c
  pub all_regions : (p : ℕ) → kind_of nodes p ≡ Some Parallel → Member p
      → HasAllRegions nodes Member p
  pub no_history : (n : ℕ) → Member n → ¬ IsHistory nodes n
