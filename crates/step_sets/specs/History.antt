-- What a microstep records for history nodes.
use Rattle.std.specs.Prelude.{◌≡◌, ℕ, ◌<◌, length, All, List, Option, Some, map, Contains, IsSomeAnd}
use Rattle.std.specs.List.Sorted.{IsStrictlyIncreasing}
use Rattle.node_tree.specs.declared.node.Kind.TheVariants.{Shallow, Deep}
use Rattle.node_tree.specs.Nodes.{IsChild, IsBelow, AreNodes}
use Rattle.step_sets.specs.Goals.{History, record_of}
use Rattle.node_tree.specs.Kinds.{Nodes, kind_of, IsHistory, IsLeaf}
use Rattle.step_sets.specs.Sets.{IsSetOf}

-- what a history node may remember: a shallow one the children of its parent, a deep one the leaves
-- below its parent
pub data CanBeRemembered (nodes : Nodes) (h n : ℕ) : Type 0 where
  as_child : {default : Option ℕ} {parent : ℕ} → kind_of nodes h ≡ Some (Shallow default)
      → IsChild nodes h parent → IsChild nodes n parent → CanBeRemembered nodes h n
  as_leaf : {default : Option ℕ} {parent : ℕ} → kind_of nodes h ≡ Some (Deep default)
      → IsChild nodes h parent → IsBelow nodes n parent → IsLeaf nodes n → CanBeRemembered nodes h n

-- a history node remembers the active ones of these nodes
abbrev pub IsRemembered : Nodes → List ℕ → ℕ → ℕ → Type 0
IsRemembered nodes active h n = Contains active n × CanBeRemembered nodes h n

-- a history node whose parent is left
abbrev pub IsRecordedNow : Nodes → List ℕ → ℕ → Type 0
IsRecordedNow nodes exits h =
    IsHistory nodes h × (parent : ℕ) × IsChild nodes h parent × Contains exits parent

-- the active nodes, those of them that are left, and what was recorded before
pub record Departure : Type 0 where
  pub active : List ℕ
  pub exits : List ℕ
  pub recorded : History

-- what is recorded for a node afterwards: for a history node whose parent is left, what it
-- remembers; for each other node, what was recorded before
pub record IsNewRecord (nodes : Nodes) (departure : Departure) (h : ℕ) (new : Option (List ℕ)) : Type 0 where
  pub recorded : IsRecordedNow nodes departure.exits h
      → IsSomeAnd new (IsSetOf (IsRemembered nodes departure.active h))
  pub kept : ¬ IsRecordedNow nodes departure.exits h → new ≡ record_of departure.recorded h

-- the history nodes of the records
abbrev pub history_nodes : History → List ℕ
history_nodes history = map (λ (r : ℕ × List ℕ). r.0) history

-- the new history has for each node what is recorded for it, in document order
pub record RecordsHistory (nodes : Nodes) (departure : Departure) (new : History) : Type 0 where
  pub in_order : IsStrictlyIncreasing (history_nodes new)
  pub each : (h : ℕ) → IsNewRecord nodes departure h (record_of new h)

-- each node that a history names is one of the tree
abbrev pub RecordsNodes : Nodes → History → Type 0
RecordsNodes nodes history =
    All (λ (r : ℕ × List ℕ). (r.0 < length nodes) × AreNodes nodes r.1) history

-- one history beside another: these history nodes have what they remember recorded, and each other node
-- what it had
pub record AreRenewed (nodes : Nodes) (active : List ℕ) (Now : ℕ → Type 0) (old new : History) : Type 0 where
  pub renewed : (h : ℕ) → Now h
      → IsSomeAnd (record_of new h) (IsSetOf (IsRemembered nodes active h))
  pub kept : (h : ℕ) → ¬ Now h → record_of new h ≡ record_of old h
