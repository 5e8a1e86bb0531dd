-- How it is told from a legal configuration which nodes are done.
use Rattle.std.specs.Prelude.{◌≡◌, ◌≢◌, ℕ, Bool, true, false, List, Some, Contains, map}
use Rattle.node_tree.specs.declared.node.Kind.{Kind}
use Rattle.node_tree.specs.declared.node.Kind.TheVariants.{Atomic, Compound, Final, Parallel}
use Rattle.node_tree.specs.Kinds.{Nodes, kind_of}
use Rattle.node_tree.specs.Nodes.{IsChild}
use Rattle.xs_model.specs.declared.expr.Expr.TheVariants as expr
use Rattle.guard_eval.specs.declared.def.Def.{Def}
use Rattle.microstep.specs.Acts.{Act}
use Rattle.microstep.specs.DoneEvents.{IsDone, node_id}

-- whether a node of this kind below one of that kind lets those above it be done, where it is active or not yet
abbrev pub lets_end : Kind → Kind → Bool → Bool
lets_end Parallel Atomic active = false
lets_end Parallel _ active = true
lets_end (Compound initial) Final active = active
lets_end _ _ _ = false

-- a final node below a compound one
abbrev pub EndsKind : Kind → Kind → Type 0
EndsKind (Compound initial) Final = Unit {0}
EndsKind _ _ = ⊥

-- an active node lets those above it be done: it is a region that isn't atomic, or a final child of a compound node that was not
-- entered later
pub data IsAtEnd (nodes : Nodes) (later : List ℕ) (n : ℕ) : Type 0 where
  region : {parent : ℕ} → IsChild nodes n parent → kind_of nodes parent ≡ Some Parallel → kind_of nodes n ≢ Some Atomic
      → IsAtEnd nodes later n
  final : {parent initial : ℕ} → IsChild nodes n parent → kind_of nodes parent ≡ Some (Compound initial)
      → kind_of nodes n ≡ Some Final → ¬ Contains later n → IsAtEnd nodes later n

-- a node that is in the configuration, and was not entered later
abbrev pub IsActiveYet : List ℕ → List ℕ → ℕ → Type 0
IsActiveYet configuration later n = Contains configuration n × ¬ Contains later n

-- a parallel node that is done, and not the root
abbrev pub CanClimbTo : Nodes → List ℕ → List ℕ → ℕ → Type 0
CanClimbTo nodes configuration later high =
    (high ≢ 0) × (kind_of nodes high ≡ Some Parallel) × IsDone nodes (IsActiveYet configuration later) high

-- the done events of these parallel nodes
abbrev pub parallel_done : Def → List ℕ → List Act
parallel_done def nodes = map (λ n. Act.RaiseDone (node_id def.tree n) expr.Null) nodes
