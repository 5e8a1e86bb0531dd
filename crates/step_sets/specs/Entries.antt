-- The entry set of a transition, after SCXML's computeEntrySet.
use Rattle.std.specs.Prelude.{◌≡◌, ℕ, List, Some, Contains}
use Rattle.node_tree.specs.declared.node.Kind.TheVariants.{Compound, Parallel}
use Rattle.node_tree.specs.Nodes.{IsChild, IsWithin}
use Rattle.node_tree.specs.Kinds.{Nodes, kind_of, IsHistory}
use Rattle.step_sets.specs.Domains.{IsUnder}
use Rattle.step_sets.specs.declared.types.Domain.{Domain}
use Rattle.step_sets.specs.declared.types.Domain.TheVariants.{Node, Whole}

-- the node is a goal or an ancestor of one
abbrev pub LeadsToGoal : Nodes → List ℕ → ℕ → Type 0
LeadsToGoal nodes goals n = (goal : ℕ) × Contains goals goal × IsWithin nodes goal n

-- a child of the node is a goal or an ancestor of one
abbrev pub HasGoalBelow : Nodes → List ℕ → ℕ → Type 0
HasGoalBelow nodes goals p = (child : ℕ) × IsChild nodes child p × LeadsToGoal nodes goals child

-- the node is below the domain and is no history node
abbrev pub CanBeEntered : Nodes → Domain → ℕ → Type 0
CanBeEntered nodes domain n = IsUnder nodes domain n × ¬ IsHistory nodes n

mutual
  -- a node that can be entered is entered in three cases: it leads to a goal; its parent is parallel
  -- and opens; its parent is compound and opens, no child of it leads to a goal, and the node is its
  -- initial child. For the whole tree the root is entered as well
  pub data IsEntered (nodes : Nodes) (goals : List ℕ) (domain : Domain) : ℕ → Type 0 where
    towards_goal : {n : ℕ} → CanBeEntered nodes domain n → LeadsToGoal nodes goals n
        → IsEntered nodes goals domain n
    region : {n p : ℕ} → CanBeEntered nodes domain n → IsChild nodes n p
        → kind_of nodes p ≡ Some Parallel → Opens nodes goals domain p
        → IsEntered nodes goals domain n
    initial : {n p : ℕ} → CanBeEntered nodes domain n → IsChild nodes n p
        → kind_of nodes p ≡ Some (Compound n) → ¬ HasGoalBelow nodes goals p
        → Opens nodes goals domain p → IsEntered nodes goals domain n
    root : domain ≡ Whole → IsEntered nodes goals domain 0

  -- a node opens if it is the domain or is entered
  pub data Opens (nodes : Nodes) (goals : List ℕ) (domain : Domain) : ℕ → Type 0 where
    as_domain : {p : ℕ} → domain ≡ Node p → Opens nodes goals domain p
    as_entered : {p : ℕ} → IsEntered nodes goals domain p → Opens nodes goals domain p
