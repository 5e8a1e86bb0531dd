-- The domain of a transition, after SCXML's getTransitionDomain.
use Rattle.std.specs.Prelude.{◌≡◌, ℕ, ◌<◌, Bool, true, false, List, length, All}
use Rattle.node_tree.specs.Nodes.{IsBelow, IsWithin}
use Rattle.node_tree.specs.Kinds.{Nodes}
use Rattle.step_sets.specs.declared.types.Domain.{Domain}
use Rattle.step_sets.specs.declared.types.Domain.TheVariants.{Node, Whole}

-- the transition does not reenter its source, and each target is the source or below it
abbrev pub IsInternal : Nodes → ℕ → List ℕ → Bool → Type 0
IsInternal nodes source targets reenter =
    (reenter ≡ false) × All (λ t. IsWithin nodes t source) targets

-- a proper ancestor of the source and of each target
abbrev pub IsCommonAncestor : Nodes → ℕ → List ℕ → ℕ → Type 0
IsCommonAncestor nodes source targets a =
    IsBelow nodes source a × All (λ t. IsBelow nodes t a) targets

-- a common ancestor that is each other one or below it
abbrev pub IsInnermostAncestor : Nodes → ℕ → List ℕ → ℕ → Type 0
IsInnermostAncestor nodes source targets a =
    IsCommonAncestor nodes source targets a
    × ((b : ℕ) → IsCommonAncestor nodes source targets b → IsWithin nodes a b)

-- without a common ancestor: the whole tree for a transition that reenters, else the root
abbrev pub outermost_of : Bool → Domain
outermost_of true = Whole
outermost_of false = Node 0

-- a transition as far as its domain goes: its source, its targets, and whether it reenters
pub record Arrow : Type 0 where
  pub source : ℕ
  pub targets : List ℕ
  pub reenter : Bool

-- the domain of a transition: its source if it is internal, else the innermost common ancestor of
-- its source and its targets, and without one the whole tree or the root
pub data IsDomain (nodes : Nodes) (arrow : Arrow) : Domain → Type 0 where
  internal : IsInternal nodes arrow.source arrow.targets arrow.reenter
      → IsDomain nodes arrow (Node arrow.source)
  innermost : {a : ℕ} → ¬ IsInternal nodes arrow.source arrow.targets arrow.reenter
      → IsInnermostAncestor nodes arrow.source arrow.targets a → IsDomain nodes arrow (Node a)
  none : ¬ IsInternal nodes arrow.source arrow.targets arrow.reenter
      → ((a : ℕ) → ¬ IsCommonAncestor nodes arrow.source arrow.targets a)
      → IsDomain nodes arrow (outermost_of arrow.reenter)

-- the domain is a node of the tree or the whole tree
abbrev pub IsDomainOf : Nodes → Domain → Type 0
IsDomainOf nodes (Node n) = n < length nodes
IsDomainOf nodes Whole = Unit {0}

-- the node stands below the domain; each node of the tree stands below the whole tree
abbrev pub IsUnder : Nodes → Domain → ℕ → Type 0
IsUnder nodes (Node d) n = IsBelow nodes n d
IsUnder nodes Whole n = n < length nodes
