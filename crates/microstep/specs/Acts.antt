-- What a microstep does, act by act, after SCXML's exitStates, executeTransitionContent and enterStates.
use Rattle.std.specs.Prelude.{ℕ, List, [], ◌∷◌, ◌++◌, Option, None, Some, Ok, codes, map, slice_get}
use Rattle.std.specs.Option.{option_map_or}
use Rattle.xs_model.specs.declared.expr.Expr.{Expr}
use Rattle.xs_model.specs.declared.value.Value.{Value}
use Rattle.xs_model.specs.declared.value.Value.TheVariants as value
use Rattle.xs_model.specs.Eval.{Scope}
use Rattle.guard_eval.specs.declared.def.Def.{Def}
use Rattle.guard_eval.specs.declared.def.Invocation.{Invocation}
use Rattle.guard_eval.specs.declared.def.NodeDef.{NodeDef}
use Rattle.guard_eval.specs.declared.transition.ActionUse.{ActionUse}
use Rattle.office_types.specs.declared.outcome.Effect.TheVariants as effect
use Rattle.office_types.specs.declared.outcome.To.TheVariants as to
use Rattle.microstep.specs.Actions.{after_action, in_turn}
use Rattle.microstep.specs.Parts.{Stepped, and_then, checked_name, delay_in, short_in}
use Rattle.microstep.specs.declared.progress.Progress.{Progress}
use Rattle.microstep.specs.Progress.{with_child, with_effect, with_raised, with_stop}

-- one thing that a microstep does
pub data Act : Type 0 where
  -- an action runs
  Run : ActionUse → Act
  -- the timer of an `after` is cancelled
  CancelTimer : List ℕ → Act
  -- the child of an invocation is stopped
  StopInvoked : List ℕ → Act
  -- the timer of an `after` begins
  StartTimer : List ℕ → Expr → Act
  -- an invocation begins
  Invoke : Invocation → Act
  -- the done event of the node with this id is raised, with what the expression gives
  RaiseDone : List ℕ → Expr → Act

-- what expressions read that no action has: no params
abbrev pub plain_scope : Value → Progress → Scope
plain_scope event progress = record { context = progress.context; event = event; params = value.Null; input = value.Null }

-- ---- what each act does

-- the event of an `after`
abbrev pub after_event : List ℕ → Value
after_event type = value.Map ((codes "type", value.Text type) ∷ [])

-- a timer under the type of its event, which is its id
abbrev pub start_timer : Scope → List ℕ → Expr → Progress → Stepped Progress
start_timer scope type delay progress =
    and_then (delay_in scope delay) (λ milliseconds. and_then (checked_name type)
    (λ id. Ok (with_effect progress (effect.Schedule (Some id) milliseconds to.Own (after_event type)))))

-- the system name of an invocation
abbrev pub checked_system : Option (List ℕ) → Stepped (Option (List ℕ))
checked_system None = Ok None
checked_system (Some name) = and_then (checked_name name) (λ checked. Ok (Some checked))

-- a child under the id of its invocation
abbrev pub invoke : Scope → Invocation → Progress → Stepped Progress
invoke scope invocation progress =
    and_then (checked_name invocation.id) (λ id. and_then (short_in scope invocation.input) (λ input. and_then (checked_system invocation.system)
    (λ system. Ok (with_child progress id invocation.src input system))))

-- the event that a node is done
abbrev pub done_state_event : List ℕ → Value → Value
done_state_event id output =
    value.Map ((codes "output", output) ∷ (codes "type", value.Text (codes "xstate.done.state." ++ id)) ∷ [])

abbrev pub raise_done : Scope → List ℕ → Expr → Progress → Stepped Progress
raise_done scope id output progress = and_then (short_in scope output) (λ x. Ok (with_raised progress (done_state_event id x)))

-- what an act does where the microstep reads this event
abbrev pub after_act : Value → Act → Progress → Stepped Progress
after_act event (Act.Run action_use) progress = after_action event action_use progress
after_act event (Act.CancelTimer id) progress = Ok (with_effect progress (effect.Cancel id))
after_act event (Act.StopInvoked id) progress = Ok (with_stop progress id)
after_act event (Act.StartTimer type delay) progress = start_timer (plain_scope event progress) type delay progress
after_act event (Act.Invoke invocation) progress = invoke (plain_scope event progress) invocation progress
after_act event (Act.RaiseDone id output) progress = raise_done (plain_scope event progress) id output progress

-- acts one after the other, up to the first fault
abbrev pub after_acts : Value → List Act → Progress → Stepped Progress
after_acts event = in_turn (after_act event)

-- ---- the acts of a node

-- what is said of a node
abbrev pub of_node : Def → ℕ → (NodeDef → List Act) → List Act
of_node def n acts = option_map_or acts (slice_get def.nodes n) []

abbrev pub runs : List ActionUse → List Act
runs actions = map Act.Run actions

abbrev pub cancels : List (List ℕ × Expr) → List Act
cancels timers = map (λ (timer : List ℕ × Expr). Act.CancelTimer timer.0) timers

abbrev pub stops : List Invocation → List Act
stops invocations = map (λ (invocation : Invocation). Act.StopInvoked invocation.id) invocations

abbrev pub starts : List (List ℕ × Expr) → List Act
starts timers = map (λ (timer : List ℕ × Expr). Act.StartTimer timer.0 timer.1) timers

abbrev pub invokes : List Invocation → List Act
invokes invocations = map Act.Invoke invocations

-- where a node is left: its exit actions, then its timers are cancelled, then its invocations are stopped
abbrev pub exits_of : NodeDef → List Act
exits_of node = runs node.exit ++ cancels node.after ++ stops node.invoke

-- where a node is entered: its entry actions, then its timers begin, then its invocations
abbrev pub entries_of : NodeDef → List Act
entries_of node = runs node.entry ++ starts node.after ++ invokes node.invoke

-- a node is left
abbrev pub exit_acts : Def → ℕ → List Act
exit_acts def n = of_node def n exits_of

-- a node is entered
abbrev pub entry_acts : Def → ℕ → List Act
entry_acts def n = of_node def n entries_of

-- the exit actions of a node alone, when the machine is done
abbrev pub last_acts : Def → ℕ → List Act
last_acts def n = of_node def n (λ (node : NodeDef). runs node.exit)
