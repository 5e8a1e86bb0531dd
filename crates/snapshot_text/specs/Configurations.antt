-- Legal configurations from one node on down, and how they show at each node of a rising list.
use Rattle.std.specs.Prelude.{◌≡◌, ◌≢◌, ◌⊎◌, ℕ, ◌+◌, ◌<◌, List, Some, length, Contains, slice_index}
use Rattle.node_tree.specs.declared.node.Kind.TheVariants.{Compound, Parallel}
use Rattle.node_tree.specs.Kinds.{Nodes, kind_of, IsHistory}
use Rattle.node_tree.specs.Nodes.{IsChild, IsWithin}
use Rattle.step_sets.specs.Configuration.{HasAllRegions, HasOneChild}

-- what a legal configuration may have from one node on down
pub record IsLegalFrom (nodes : Nodes) (top : ℕ) (Member : ℕ → Type 0) : Type 0 where
  pub of_tree : (n : ℕ) → Member n → n < length nodes
  pub has_top : Member top
  pub within : (n : ℕ) → Member n → IsWithin nodes n top
  pub parents : (n p : ℕ) → IsChild nodes n p → n ≢ top → Member n → Member p
  pub one_child : (c initial : ℕ) → kind_of nodes c ≡ Some (Compound initial) → Member c
      → HasOneChild nodes Member c
  pub all_regions : (p : ℕ) → kind_of nodes p ≡ Some Parallel → Member p
      → HasAllRegions nodes Member p
  pub no_history : (n : ℕ) → Member n → ¬ IsHistory nodes n

-- the one number stands right before the other
abbrev pub IsNextIn : List ℕ → ℕ → ℕ → Type 0
IsNextIn members n next =
    (k : ℕ) × (k + 1 < length members) × (slice_index members k ≡ n) × (slice_index members (k + 1) ≡ next)

-- right after the node stands a child of it
abbrev pub HasNextChild : Nodes → List ℕ → ℕ → Type 0
HasNextChild nodes members n = (next : ℕ) × IsNextIn members n next × IsChild nodes next n

-- the node is the top, or its parent is a member, right before it if that is compound
abbrev pub HasItsParent : Nodes → List ℕ → ℕ → ℕ → Type 0
HasItsParent nodes members top n =
    (n ≡ top)
    ⊎ ((p : ℕ) × IsChild nodes n p × Contains members p
    × ((initial : ℕ) → kind_of nodes p ≡ Some (Compound initial) → IsNextIn members p n))

-- the node is no history node, and has a child right after it or all its regions where it needs them
pub record HasItsChildren (nodes : Nodes) (members : List ℕ) (n : ℕ) : Type 0 where
  pub no_history : ¬ IsHistory nodes n
  pub one_child : (initial : ℕ) → kind_of nodes n ≡ Some (Compound initial) → HasNextChild nodes members n
  pub all_regions : kind_of nodes n ≡ Some Parallel → HasAllRegions nodes (Contains members) n

-- a node of the tree that has its parent and its children among the members
pub record FitsAt (nodes : Nodes) (members : List ℕ) (top n : ℕ) : Type 0 where
  pub of_tree : n < length nodes
  pub parent : HasItsParent nodes members top n
  pub children : HasItsChildren nodes members n
