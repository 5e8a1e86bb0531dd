-- What the list of a history node that fits is, in terms of the tree alone.
use Rattle.std.specs.Prelude.{◌≡◌, ◌⊎◌, ℕ, List, [], ◌∷◌, Some, All, Contains}
use Rattle.std.specs.List.Sorted.{IsStrictlyIncreasing}
use Rattle.node_tree.specs.declared.node.Kind.TheVariants.{Compound, Parallel}
use Rattle.node_tree.specs.Kinds.{Nodes, kind_of, IsHistory, IsLeaf}
use Rattle.node_tree.specs.Nodes.{IsBelow, IsChild, IsWithin}
use Rattle.step_sets.specs.Sets.{IsSetOf}
use Rattle.snapshot_text.specs.Configurations.{IsLegalFrom}

-- a child that is no history node
abbrev pub IsRegion : Nodes → ℕ → ℕ → Type 0
IsRegion nodes parent n = IsChild nodes n parent × ¬ IsHistory nodes n

-- the list is one child of the node
abbrev pub IsOneChild : Nodes → ℕ → List ℕ → Type 0
IsOneChild nodes parent list = (child : ℕ) × (list ≡ child ∷ []) × IsRegion nodes parent child

-- children of a node that may be active together: one of a compound node, all of a parallel one
abbrev pub IsFitShallow : Nodes → ℕ → List ℕ → Type 0
IsFitShallow nodes parent list =
    ((initial : ℕ) × (kind_of nodes parent ≡ Some (Compound initial)) × IsOneChild nodes parent list)
    ⊎ ((kind_of nodes parent ≡ Some Parallel) × IsSetOf (IsRegion nodes parent) list)

-- each is a leaf below the top
abbrev pub AreLeavesBelow : Nodes → ℕ → List ℕ → Type 0
AreLeavesBelow nodes top list = All (λ n. IsBelow nodes n top × IsLeaf nodes n) list

-- a node from the top down that is one of the list or above one
abbrev pub LeadsToSome : Nodes → List ℕ → ℕ → ℕ → Type 0
LeadsToSome nodes list top n = IsWithin nodes n top × (low : ℕ) × Contains list low × IsWithin nodes low n

-- leaves below the top that may be active together: with all above them they are legal from the top down
pub record IsFitDeep (nodes : Nodes) (top : ℕ) (list : List ℕ) : Type 0 where
  pub in_order : IsStrictlyIncreasing list
  pub leaves : AreLeavesBelow nodes top list
  pub legal : IsLegalFrom nodes top (LeadsToSome nodes list top)
