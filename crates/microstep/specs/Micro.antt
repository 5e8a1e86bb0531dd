-- A microstep: what is left and entered, what is done in which order, and what it gives.
use Rattle.std.specs.Prelude.{◌≡◌, ◌⊎◌, ◌≤◌, ◌&&◌, ℕ, Bool, true, false, List, [], ◌++◌, Option, None, Some, Ok, Err, Contains, codes, nat_eq, reverse, unwrap_or, if◌then◌else◌}
use Rattle.std.specs.List.{flat_map, find, AllZip}
use Rattle.std.specs.Option.{option_eq, option_map_or}
use Rattle.node_tree.specs.declared.node.Kind.{Kind}
use Rattle.node_tree.specs.declared.node.Kind.TheVariants.{Compound, Final}
use Rattle.node_tree.specs.Kinds.{Nodes, kind_of}
use Rattle.node_tree.specs.Nodes.{parent_of}
use Rattle.step_sets.specs.declared.types.Domain.{Domain}
use Rattle.step_sets.specs.declared.types.Domain.TheVariants.{Whole}
use Rattle.step_sets.specs.Entries.{IsEntered}
use Rattle.step_sets.specs.Exits.{IsExited}
use Rattle.step_sets.specs.Goals.{History, goals_of}
use Rattle.step_sets.specs.History.{RecordsHistory}
use Rattle.step_sets.specs.Sets.{IsSetOf}
use Rattle.xs_model.specs.declared.expr.Expr.{Expr}
use Rattle.xs_model.specs.declared.expr.Expr.TheVariants as expr
use Rattle.xs_model.specs.declared.value.Value.{Value, out-Value}
use Rattle.xs_model.specs.declared.value.Value.TheVariants as value
use Rattle.guard_eval.specs.declared.def.Def.{Def}
use Rattle.guard_eval.specs.declared.transition.Transition.{Transition}
use Rattle.office_types.specs.declared.outcome.FaultName.{FaultName}
use Rattle.office_types.specs.declared.outcome.FaultName.TheVariants as fault
use Rattle.office_types.specs.declared.outcome.Own.{Own}
use Rattle.office_types.specs.Events.{under}
use Rattle.office_types.specs.OwnParts.{is_map_layer}
use Rattle.microstep.specs.Actions.{checked_context}
use Rattle.microstep.specs.declared.micro.Micro.{Micro}
use Rattle.microstep.specs.declared.moves.Move.{Move}
use Rattle.microstep.specs.Acts.{Act, after_acts, entry_acts, exit_acts, last_acts, plain_scope, runs, done_state_event}
use Rattle.microstep.specs.DoneEvents.{AreDoneActs, IsDone, node_id, output_of}
use Rattle.microstep.specs.Parts.{Stepped, and_then, short_in, value_in}
use Rattle.microstep.specs.declared.progress.Progress.{Progress}
use Rattle.microstep.specs.Progress.{progress_of}
use Rattle.microstep.specs.Selection.{MovesIn}

-- ---- what is left and entered

-- a transition leaves the node, where these nodes are active
abbrev pub Leaves : Def → List ℕ → Transition → ℕ → Type 0
Leaves def active transition n = (domain : Domain) × MovesIn def transition domain × IsExited def.tree active domain n

-- one of the transitions does this to the node
abbrev pub IsMovedByOne : (Transition → ℕ → Type 0) → List Transition → ℕ → Type 0
IsMovedByOne Moves transitions n = (transition : Transition) × Contains transitions transition × Moves transition n

-- one of the transitions leaves the node
abbrev pub IsLeft : Def → Own → List Transition → ℕ → Type 0
IsLeft def own = IsMovedByOne (Leaves def own.nodes)

-- a transition enters the node, where this history is recorded
abbrev pub Enters : Def → History → Transition → ℕ → Type 0
Enters def history transition n =
    (domain : Domain) × MovesIn def transition domain × IsEntered def.tree (goals_of def.tree history transition.targets) domain n

-- one of the transitions enters the node
abbrev pub IsEnteredByOne : Def → History → List Transition → ℕ → Type 0
IsEnteredByOne def history = IsMovedByOne (Enters def history)

-- the node stays active, or is entered
abbrev pub IsActiveAfter : Own → Move → ℕ → Type 0
IsActiveAfter own move n = (Contains own.nodes n × ¬ Contains move.left n) ⊎ Contains move.entered n

-- the move that these transitions make of an own part: history is recorded before the nodes are left
pub record IsMove (def : Def) (own : Own) (transitions : List Transition) (move : Move) : Type 0 where
  pub left : IsSetOf (IsLeft def own transitions) move.left
  pub history : RecordsHistory def.tree (record { active = own.nodes; exits = move.left; recorded = own.history }) move.history
  pub entered : IsSetOf (IsEnteredByOne def move.history transitions) move.entered
  pub configuration : IsSetOf (IsActiveAfter own move) move.configuration

-- the first move: the root is entered with no goals
pub record IsFirstMove (def : Def) (move : Move) : Type 0 where
  pub left : move.left ≡ []
  pub history : move.history ≡ []
  pub entered : IsSetOf (IsEntered def.tree [] Whole) move.entered
  pub configuration : move.configuration ≡ move.entered

-- ---- what is done, in order

-- the nodes that are active when a node has just been entered: those that weren't left, and those entered so far
abbrev pub IsActiveAt : Own → Move → ℕ → ℕ → Type 0
IsActiveAt own move entered n =
    (Contains own.nodes n × ¬ Contains move.left n) ⊎ (Contains move.entered n × (n ≤ entered))

-- a node is entered: what its definition says, and then the done events
pub record AreEntryActs (def : Def) (own : Own) (move : Move) (n : ℕ) (acts : List Act) : Type 0 where
  pub done : List Act
  pub done_events : AreDoneActs def (IsActiveAt own move n) n done
  pub acts_are : acts ≡ entry_acts def n ++ done

-- the acts up to the new configuration: each node left in reverse document order, the actions of the transitions in document order of
-- their sources, each node entered in document order
pub record AreActs (def : Def) (own : Own) (transitions : List Transition) (move : Move) (acts : List Act) : Type 0 where
  pub entries : List (List Act)
  pub each_entry : AllZip (AreEntryActs def own move) move.entered entries
  pub acts_are : acts
      ≡ flat_map (exit_acts def) (reverse move.left)
      ++ flat_map (λ (transition : Transition). runs transition.actions) transitions
      ++ flat_map (λ (entry : List Act). entry) entries

-- ---- completion

abbrev pub is_final_kind : Kind → Bool
is_final_kind Final = true
is_final_kind _ = false

-- the node is a final child of the root
abbrev pub is_final_below_root : Nodes → ℕ → Bool
is_final_below_root nodes n = option_eq nat_eq (parent_of nodes n) (Some 0) && option_map_or is_final_kind (kind_of nodes n) false

-- the active final child of a compound root; a root of another kind has none
abbrev pub last_final : Nodes → List ℕ → Option Kind → Option ℕ
last_final nodes configuration (Some (Compound initial)) = find (is_final_below_root nodes) configuration
last_final nodes configuration _ = None

-- the output of the active final child of the root, if there is one: else null
abbrev pub last_output : Def → List ℕ → Expr
last_output def configuration = option_map_or (output_of def) (last_final def.tree configuration (kind_of def.tree 0)) expr.Null

-- the event that the machine's output reads: that the root is done, with the output of its final child
abbrev pub root_done : Def → List ℕ → Value → Progress → Stepped Value
root_done def configuration event progress =
    and_then (short_in (plain_scope event progress) (last_output def configuration))
    (λ output. Ok (done_state_event (node_id def.tree 0) output))

-- what the machine gives at its end
abbrev pub machine_output : Def → List ℕ → Value → Progress → Stepped Value
machine_output def configuration event progress =
    and_then (root_done def configuration event progress) (λ done. short_in (plain_scope done progress) def.output)

-- the exit actions of all active nodes, in reverse document order, and then the outputs; raised events are dropped
abbrev pub after_end : Def → List ℕ → Value → Progress → Stepped Progress
after_end def configuration event progress =
    and_then (after_acts event (flat_map (last_acts def) (reverse configuration)) progress)
    (λ last. and_then (machine_output def configuration event last) (λ output. Ok (record last { raised = [] })))

-- ---- what it gives

-- the own part after a move
abbrev pub own_after : Own → Move → Progress → Own
own_after own move progress = record {
  def = own.def;
  begun = true;
  nodes = move.configuration;
  history = move.history;
  context = progress.context;
  children = progress.children;
  unnamed = progress.unnamed;
}

abbrev pub micro_of : Own → Move → Bool → Progress → Micro
micro_of own move finished progress = record {
  own = own_after own move progress;
  raised = progress.raised;
  effects = progress.effects;
  actions = progress.actions;
  finished = finished;
}

-- what a move with these acts gives: the machine is done where its root is
pub data Ends (def : Def) (own : Own) (move : Move) (event : Value) (done : Stepped Progress) : Stepped Micro → Type 0 where
  goes_on : ¬ IsDone def.tree (Contains move.configuration) 0
      → Ends def own move event done (and_then done (λ progress. Ok (micro_of own move false progress)))
  ends : IsDone def.tree (Contains move.configuration) 0
      → Ends def own move event done
      (and_then done (λ progress. and_then (after_end def move.configuration event progress) (λ last. Ok (micro_of own move true last))))

-- the microstep of an own part that takes these transitions together, in document order of their sources, and reads this event
pub record IsMicrostep (def : Def) (own : Own) (transitions : List Transition) (event : Value) (result : Stepped Micro) : Type 0 where
  pub move : Move
  pub moves : IsMove def own transitions move
  pub acts : List Act
  pub acts_are : AreActs def own transitions move acts
  pub ends : Ends def own move event (after_acts event acts (progress_of own)) result

-- ---- the first microstep

-- a map; another kind is Kind
abbrev pub as_map : Value → Stepped Value
as_map x = if is_map_layer (out-Value x) then Ok x else Err fault.Kind

-- the context of an actor that begins: it reads the input of the event
abbrev pub first_context : Def → Value → Stepped Value
first_context def event =
    and_then (value_in (record { context = value.Null; event = event; params = value.Null; input = unwrap_or (under (codes "input") event) value.Null }) def.context)
    (λ x. and_then (as_map x) checked_context)

-- the first microstep of an own part that hasn't begun: the context, and then the root is entered
pub data IsFirstMicrostep (def : Def) (own : Own) (event : Value) : Stepped Micro → Type 0 where
  no_context : {name : FaultName} → first_context def event ≡ Err name → IsFirstMicrostep def own event (Err name)
  begins : {context : Value} {move : Move} {acts : List Act} {result : Stepped Micro} → first_context def event ≡ Ok context
      → IsFirstMove def move → AreActs def own [] move acts
      → Ends def own move event (after_acts event acts (record (progress_of own) { context = context })) result
      → IsFirstMicrostep def own event result
