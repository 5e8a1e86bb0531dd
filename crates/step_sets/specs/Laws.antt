-- What follows from the definitions of the sets.
use Rattle.std.specs.Prelude.{◌≡◌, ◌≢◌, ◌⊎◌, ◌<◌, ℕ, Bool, true, false, List, [], Option, Some, length, All, AllPairs, Contains, slice_index_or}
use Rattle.node_tree.specs.declared.node.Kind.TheVariants.{Shallow, Deep}
use Rattle.node_tree.specs.Nodes.{IsBelow, IsChild}
use Rattle.step_sets.specs.Configuration.{IsLegal}
use Rattle.step_sets.specs.Domains.{Arrow, IsDomain}
use Rattle.step_sets.specs.Entries.{IsEntered}
use Rattle.step_sets.specs.Exits.{IsExited}
use Rattle.step_sets.specs.Goals.{History, goals_of, record_of}
use Rattle.step_sets.specs.History.{Departure, RecordsHistory}
use Rattle.node_tree.specs.Kinds.{Nodes, kind_of, IsLeaf}
use Rattle.step_sets.specs.Preemption.{KeepsUnpreempted, Meets}
use Rattle.step_sets.specs.Statechart.{DoNotClash, IsFitHistory}
use Rattle.step_sets.specs.declared.types.Domain.{Domain}
use Rattle.step_sets.specs.declared.types.Domain.TheVariants.{Whole}

-- the transition at this place stays
abbrev pub Stays : List Bool → ℕ → Type 0
Stays stays i = slice_index_or stays i false ≡ true

-- two transitions that stay leave no node in common, and one that is dropped leaves a node that one
-- that stays before it leaves
pub record AreApart (exits : List (List ℕ)) (stays : List Bool) : Type 0 where
  pub disjoint : (i j : ℕ) → i < length exits → j < length exits → i ≢ j
      → Stays stays i → Stays stays j
      → ¬ Meets (slice_index_or exits i []) (slice_index_or exits j [])
  pub dropped : (i : ℕ) → i < length exits → ¬ Stays stays i
      → (j : ℕ) × (j < i) × Stays stays j
      × Meets (slice_index_or exits j []) (slice_index_or exits i [])

-- preemption keeps transitions apart
abbrev pub PreemptionKeepsApart : Type 0
PreemptionKeepsApart =
    (exits : List (List ℕ)) (stays : List Bool)
    → KeepsUnpreempted exits stays → AreApart exits stays

-- what is recorded for the history nodes of the parents that are left: children for a shallow one,
-- leaves below the parent for a deep one
pub record HoldsChildrenOrLeaves (nodes : Nodes) (exits : List ℕ) (history : History) : Type 0 where
  pub shallow : (h parent : ℕ) (default : Option ℕ) (list : List ℕ)
      → kind_of nodes h ≡ Some (Shallow default) → IsChild nodes h parent → Contains exits parent
      → record_of history h ≡ Some list → All (λ n. IsChild nodes n parent) list
  pub deep : (h parent : ℕ) (default : Option ℕ) (list : List ℕ)
      → kind_of nodes h ≡ Some (Deep default) → IsChild nodes h parent → Contains exits parent
      → record_of history h ≡ Some list → All (λ n. IsBelow nodes n parent × IsLeaf nodes n) list

-- a recorded history holds children or leaves
abbrev pub RecordsHoldChildrenOrLeaves : Nodes → Type 0
RecordsHoldChildrenOrLeaves nodes =
    (departure : Departure) (new : History) → RecordsHistory nodes departure new
    → HoldsChildrenOrLeaves nodes departure.exits new

-- a history that fits stays so when active nodes of a legal configuration are left
abbrev pub HistoryStaysFit : Nodes → Type 0
HistoryStaysFit nodes =
    (departure : Departure) (new : History) → IsLegal nodes (Contains departure.active)
    → All (Contains departure.active) departure.exits → IsFitHistory nodes departure.recorded
    → RecordsHistory nodes departure new → IsFitHistory nodes new

-- a transition with targets, and its domain
pub record TakenTransition : Type 0 where
  pub arrow : Arrow
  pub domain : Domain

-- the source is active, the domain is that of the transition, and no two targets clash
pub record IsEnabled (nodes : Nodes) (active : List ℕ) (taken : TakenTransition) : Type 0 where
  pub source : Contains active taken.arrow.source
  pub domain : IsDomain nodes taken.arrow taken.domain
  pub targets : DoNotClash nodes taken.arrow.targets

-- the two transitions leave no node in common
abbrev pub LeaveApart : Nodes → List ℕ → TakenTransition → TakenTransition → Type 0
LeaveApart nodes active a b =
    (n : ℕ) → IsExited nodes active a.domain n → ¬ IsExited nodes active b.domain n

-- the active nodes, what is recorded, and the transitions that are taken together
pub record TakenStep : Type 0 where
  pub active : List ℕ
  pub history : History
  pub transitions : List TakenTransition

-- an active node that none of the transitions leaves
abbrev pub IsKept : Nodes → TakenStep → ℕ → Type 0
IsKept nodes step n =
    Contains step.active n
    × ((taken : TakenTransition) → Contains step.transitions taken
    → ¬ IsExited nodes step.active taken.domain n)

-- a node that one of the transitions enters
abbrev pub IsEnteredByOne : Nodes → TakenStep → ℕ → Type 0
IsEnteredByOne nodes step n =
    (taken : TakenTransition) × Contains step.transitions taken
    × IsEntered nodes (goals_of nodes step.history taken.arrow.targets) taken.domain n

-- the members of the next configuration: what is kept and what is entered
abbrev pub IsNextConfiguration : Nodes → TakenStep → ℕ → Type 0
IsNextConfiguration nodes step n = IsKept nodes step n ⊎ IsEnteredByOne nodes step n

-- transitions that leave no node in common lead from a legal configuration to a legal one
abbrev pub NextIsLegal : Nodes → Type 0
NextIsLegal nodes =
    (step : TakenStep) → IsLegal nodes (Contains step.active) → IsFitHistory nodes step.history
    → All (IsEnabled nodes step.active) step.transitions
    → AllPairs (LeaveApart nodes step.active) step.transitions
    → IsLegal nodes (IsNextConfiguration nodes step)

-- what the root enters with no goals is a legal configuration
abbrev pub FirstIsLegal : Nodes → Type 0
FirstIsLegal nodes = IsLegal nodes (IsEntered nodes [] Whole)
