-- Which trees are statecharts, and which targets and histories fit one.
use Rattle.std.specs.Prelude.{◌≡◌, ◌⊎◌, ℕ, List, Some, Contains, AllPairs}
use Rattle.node_tree.specs.declared.node.Kind.{Kind}
use Rattle.node_tree.specs.declared.node.Kind.TheVariants.{Atomic, Compound, Parallel, Final, Shallow, Deep}
use Rattle.node_tree.specs.Nodes.{IsBelow, IsChild, IsWithin}
use Rattle.step_sets.specs.Configuration.{IsLegal}
use Rattle.step_sets.specs.Goals.{History, record_of}
use Rattle.step_sets.specs.History.{IsRemembered}
use Rattle.node_tree.specs.Kinds.{Nodes, kind_of, IsHistory}
use Rattle.step_sets.specs.Sets.{IsSetOf}

-- the kind is compound or parallel
abbrev pub IsParentKind : Kind → Type 0
IsParentKind (Compound initial) = Unit {0}
IsParentKind Parallel = Unit {0}
IsParentKind Atomic = ⊥
IsParentKind Final = ⊥
IsParentKind (Shallow default) = ⊥
IsParentKind (Deep default) = ⊥

-- the kind is that of a history node with this default
abbrev pub HasDefault : Kind → ℕ → Type 0
HasDefault (Shallow default) d = default ≡ Some d
HasDefault (Deep default) d = default ≡ Some d
HasDefault Atomic d = ⊥
HasDefault (Compound initial) d = ⊥
HasDefault Parallel d = ⊥
HasDefault Final d = ⊥

-- a statechart: the root is no history node; only compound and parallel nodes have children; a parallel
-- node has a child that is no history node; no initial child and no history default is a history node,
-- and each default is below its history node's parent
pub record IsStatechart (nodes : Nodes) : Type 0 where
  pub root : ¬ IsHistory nodes 0
  pub parents : (n p : ℕ) → IsChild nodes n p
      → (kind : Kind) × (kind_of nodes p ≡ Some kind) × IsParentKind kind
  pub regions : (p : ℕ) → kind_of nodes p ≡ Some Parallel
      → (r : ℕ) × IsChild nodes r p × ¬ IsHistory nodes r
  pub initials : (c initial : ℕ) → kind_of nodes c ≡ Some (Compound initial)
      → ¬ IsHistory nodes initial
  pub defaults : (h d p : ℕ) (kind : Kind) → kind_of nodes h ≡ Some kind → HasDefault kind d
      → IsChild nodes h p → IsBelow nodes d p × ¬ IsHistory nodes d

-- the node that counts for a target where two are compared: the parent of a history node, or the
-- target itself
abbrev pub CountsFor : Nodes → ℕ → ℕ → Type 0
CountsFor nodes target n =
    ((target ≡ n) × ¬ IsHistory nodes target) ⊎ (IsHistory nodes target × IsChild nodes target n)

-- two nodes in different regions: neither is the other or above it, and the innermost node above both
-- is parallel
pub record AreOrthogonal (nodes : Nodes) (a b : ℕ) : Type 0 where
  pub apart : ¬ IsWithin nodes a b
  pub apart_too : ¬ IsWithin nodes b a
  pub parallel : (p : ℕ) × IsBelow nodes a p × IsBelow nodes b p × (kind_of nodes p ≡ Some Parallel)
      × ((q : ℕ) → IsBelow nodes a q → IsBelow nodes b q → IsWithin nodes p q)

-- no two of the targets clash
abbrev pub DoNotClash : Nodes → List ℕ → Type 0
DoNotClash nodes targets =
    AllPairs
    (λ s t. (a b : ℕ) → CountsFor nodes s a → CountsFor nodes t b → AreOrthogonal nodes a b) targets

-- the list is what a history node remembers of a legal configuration that has its parent
pub record IsFitRecord (nodes : Nodes) (h : ℕ) (list : List ℕ) : Type 0 where
  pub history : IsHistory nodes h
  pub parent : ℕ
  pub child : IsChild nodes h parent
  pub active : List ℕ
  pub legal : IsLegal nodes (Contains active)
  pub has_parent : Contains active parent
  pub remembered : IsSetOf (IsRemembered nodes active h) list

-- each record of the history fits a legal configuration of its own
abbrev pub IsFitHistory : Nodes → History → Type 0
IsFitHistory nodes history =
    (h : ℕ) (list : List ℕ) → record_of history h ≡ Some list → IsFitRecord nodes h list
