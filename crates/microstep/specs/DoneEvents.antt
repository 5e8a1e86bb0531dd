-- Which nodes are done, and the done events that the entry of a final node raises.
use Rattle.std.specs.Prelude.{◌≡◌, ◌≢◌, ℕ, List, [], ◌∷◌, Some, slice_get, unwrap_or}
use Rattle.std.specs.Option.{option_map_or}
use Rattle.node_tree.specs.declared.node.Kind.TheVariants.{Compound, Final, Parallel}
use Rattle.node_tree.specs.Kinds.{Nodes, kind_of, IsHistory}
use Rattle.node_tree.specs.Nodes.{IsChild, id_of}
use Rattle.xs_model.specs.declared.expr.Expr.{Expr}
use Rattle.xs_model.specs.declared.expr.Expr.TheVariants as expr
use Rattle.guard_eval.specs.declared.def.Def.{Def}
use Rattle.guard_eval.specs.declared.def.NodeDef.{NodeDef}
use Rattle.microstep.specs.Acts.{Act}

-- a node is done: it is final; or it is compound, with an active final child; or it is parallel, and all its regions are done
pub data IsDone (nodes : Nodes) (Active : ℕ → Type 0) : ℕ → Type 0 where
  final : {n : ℕ} → kind_of nodes n ≡ Some Final → IsDone nodes Active n
  child : {n initial child : ℕ} → kind_of nodes n ≡ Some (Compound initial) → IsChild nodes child n → Active child
      → kind_of nodes child ≡ Some Final → IsDone nodes Active n
  regions : {n : ℕ} → kind_of nodes n ≡ Some Parallel
      → ((region : ℕ) → IsChild nodes region n → ¬ IsHistory nodes region → IsDone nodes Active region) → IsDone nodes Active n

-- the id of a node
abbrev pub node_id : Nodes → ℕ → List ℕ
node_id nodes n = unwrap_or (id_of nodes n) []

-- the output of a final node
abbrev pub output_of : Def → ℕ → Expr
output_of def n = option_map_or (λ (node : NodeDef). node.output) (slice_get def.nodes n) expr.Null

-- the done event of a parallel node above one whose done event is raised is raised too
pub record Climbs (def : Def) (Active : ℕ → Type 0) (low high : ℕ) : Type 0 where
  pub parent : IsChild def.tree low high
  pub parallel : kind_of def.tree high ≡ Some Parallel
  pub inner : high ≢ 0
  pub done : IsDone def.tree Active high

-- the done events above a node, the innermost first, up to the first ancestor that raises none
pub data IsClimb (def : Def) (Active : ℕ → Type 0) : ℕ → List Act → Type 0 where
  end : {low : ℕ} → ((high : ℕ) → ¬ Climbs def Active low high) → IsClimb def Active low []
  further : {low high : ℕ} {above : List Act} → Climbs def Active low high → IsClimb def Active high above
      → IsClimb def Active low (Act.RaiseDone (node_id def.tree high) expr.Null ∷ above)

-- a final child of a compound node other than the root
pub record EndsParent (nodes : Nodes) (n parent initial : ℕ) : Type 0 where
  pub final : kind_of nodes n ≡ Some Final
  pub child : IsChild nodes n parent
  pub compound : kind_of nodes parent ≡ Some (Compound initial)
  pub inner : parent ≢ 0

-- the done events that the entry of a node raises: that of the parent whose final child it is, and those above; else none
pub data AreDoneActs (def : Def) (Active : ℕ → Type 0) (n : ℕ) : List Act → Type 0 where
  ends : {parent initial : ℕ} {above : List Act} → EndsParent def.tree n parent initial → IsClimb def Active parent above
      → AreDoneActs def Active n (Act.RaiseDone (node_id def.tree parent) (output_of def n) ∷ above)
  none : ((parent initial : ℕ) → ¬ EndsParent def.tree n parent initial) → AreDoneActs def Active n []
