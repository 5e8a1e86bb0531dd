-- The nodes that a walk down from the domain may still enter: its prospects.
use Rattle.std.specs.Prelude.{◌≡◌, ◌⊎◌, ℕ, Bool, Some, IsTrue}
use Rattle.node_tree.specs.declared.node.Kind.TheVariants.{Compound, Parallel}
use Rattle.node_tree.specs.Kinds.{Nodes, kind_of}
use Rattle.node_tree.specs.Nodes.{IsBelow, IsChild}
use Rattle.step_sets.specs.Entries.{CanBeEntered}
use Rattle.step_sets.specs.declared.types.Domain.{Domain}
use Rattle.step_sets.specs.declared.types.Domain.TheVariants.{Node, Whole}

-- the domain, or the root of the whole tree
abbrev pub top_of : Domain → ℕ
top_of (Node n) = n
top_of Whole = 0

-- the parent of each member is a member
abbrev pub HasParents : Nodes → (ℕ → Bool) → Type 0
HasParents nodes has = (n p : ℕ) → IsTrue (has n) → IsChild nodes n p → IsTrue (has p)

-- a member is below the node
abbrev pub HasBelow : Nodes → (ℕ → Bool) → ℕ → Type 0
HasBelow nodes has high = (n : ℕ) × IsTrue (has n) × IsBelow nodes n high

-- the parent enters the child by default: it is parallel, or it has the child as its initial one and no
-- member is below it
abbrev pub EntersFrom : Nodes → (ℕ → Bool) → ℕ → ℕ → Type 0
EntersFrom nodes has parent n =
    IsChild nodes n parent
    × ((kind_of nodes parent ≡ Some Parallel)
    ⊎ ((kind_of nodes parent ≡ Some (Compound n)) × ¬ HasBelow nodes has parent))

-- the node can be entered, or is the root of the whole tree
abbrev pub CanBeEnteredOrWhole : Nodes → Domain → ℕ → Type 0
CanBeEnteredOrWhole nodes domain n =
    ((n ≡ 0) × (domain ≡ Whole)) ⊎ CanBeEntered nodes domain n
