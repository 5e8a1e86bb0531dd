-- What an action does: one equation for each form.
use Rattle.std.specs.Prelude.{ℕ, ◌+◌, List, [], ◌∷◌, ◌++◌, Option, None, Some, Result, Ok, Err, codes, fold, map, nat_lt, decimal, if◌then◌else◌}
use Rattle.std.specs.List.{list_any}
use Rattle.std.specs.Str.{bytes_eq}
use Rattle.xs_model.specs.declared.action.Action.{Action}
use Rattle.xs_model.specs.declared.action.Action.TheFolds.{fold-Action}
use Rattle.xs_model.specs.declared.action.Action.TheOpen.{Action-F, ActionItem-F}
use Rattle.xs_model.specs.declared.action.Target.{Target}
use Rattle.xs_model.specs.declared.action.Target.TheVariants as target
use Rattle.xs_model.specs.declared.env.EvalFault.{EvalFault}
use Rattle.xs_model.specs.declared.expr.Expr.{Expr}
use Rattle.xs_model.specs.declared.value.Value.{Value, out-Value}
use Rattle.xs_model.specs.declared.value.Value.TheVariants as value
use Rattle.xs_model.specs.declared.value.Value.TheOpen.{Value-F}
use Rattle.xs_model.specs.Eval.{Scope, collect, evaluated_member, outcome}
use Rattle.xs_model.specs.Rising.{put}
use Rattle.guard_eval.specs.declared.transition.ActionUse.{ActionUse}
use Rattle.office_types.specs.declared.limits.TheConstants.{MAX_NEXT_NUMBER}
use Rattle.office_types.specs.declared.outcome.Effect.TheVariants as effect
use Rattle.office_types.specs.declared.outcome.FaultName.TheVariants as fault
use Rattle.office_types.specs.declared.outcome.To.{To}
use Rattle.office_types.specs.declared.outcome.To.TheVariants as to
use Rattle.office_types.specs.Limits.{is_context}
use Rattle.microstep.specs.Parts.{Stepped, and_then, named, name_in, optional, delay_in, test_in, input_in, event_in}
use Rattle.microstep.specs.declared.progress.Progress.{Progress}
use Rattle.microstep.specs.Progress.{counted, with_effect, with_raised, with_stop, with_child}

-- what an action reads beside the context of its own time: the event that was taken last, and the params that it is used with
pub record Given : Type 0 where
  pub event : Value
  pub params : Value

-- what the expressions of an action read
abbrev pub scope_at : Given → Progress → Scope
scope_at given progress = record { context = progress.context; event = given.event; params = given.params; input = value.Null }

-- what an action does
abbrev pub Doing : Type 0
Doing = Given → Progress → Stepped Progress

-- actions one after the other, up to the first fault
abbrev pub in_turn : {X : Type 0} → (X → Progress → Stepped Progress) → List X → Progress → Stepped Progress
in_turn one [] progress = Ok progress
in_turn one (first ∷ others) progress = and_then (one first progress) (in_turn one others)

-- ---- assign

abbrev pub members_in : Value-F Value → List (List ℕ × Value)
members_in (Value-F.Map members) = members
members_in _ = []

-- the context with these members put in
abbrev pub with_members : Value → List (List ℕ × Value) → Value
with_members context members =
    value.Map (fold (λ (done : List (List ℕ × Value)) (member : List ℕ × Value). put done member.0 member.1) (members_in (out-Value context)) members)

-- a context within its limits
abbrev pub checked_context : Value → Stepped Value
checked_context context = if is_context context then Ok context else Err fault.TooLarge

-- what the expressions of an assignment give, each with its key
abbrev pub members_assigned : Scope → List (List ℕ × Expr) → Result (List (List ℕ × Value)) EvalFault
members_assigned scope values = collect (map (λ (part : List ℕ × Expr). evaluated_member (part.0, outcome scope part.1)) values)

-- the context after an assignment, whose expressions all read the one before it
abbrev pub assigned : Scope → List (List ℕ × Expr) → Stepped Value
assigned scope values = and_then (named (members_assigned scope values)) (λ members. checked_context (with_members scope.context members))

-- the context is that after the assignment
abbrev pub assign : Scope → List (List ℕ × Expr) → Progress → Stepped Progress
assign scope values progress = and_then (assigned scope values) (λ context. Ok (record progress { context = context }))

-- ---- sending

-- a child that is there
abbrev pub held_child : Progress → List ℕ → Stepped To
held_child progress id = if list_any (bytes_eq id) progress.children then Ok (to.Child id) else Err fault.NoChild

-- to whom `sendTo` sends
abbrev pub target_in : Scope → Progress → Target → Stepped To
target_in scope progress target.Own = Ok to.Own
target_in scope progress target.Parent = Ok to.Parent
target_in scope progress (target.Child expr) = and_then (name_in scope expr) (held_child progress)
target_in scope progress (target.System expr) = and_then (name_in scope expr) (λ name. Ok (to.System name))

-- an event after a delay: a timer
abbrev pub delayed : Scope → To → Value → Expr → Option Expr → Progress → Stepped Progress
delayed scope receiver event delay id progress =
    and_then (delay_in scope delay) (λ milliseconds. and_then (optional (name_in scope) id)
    (λ name. Ok (with_effect progress (effect.Schedule name milliseconds receiver event))))

-- an event now, or a timer where a delay is given; without a delay the id isn't evaluated
abbrev pub sent_or_delayed : Scope → To → (Value → Progress) → Value → Option Expr → Option Expr → Progress → Stepped Progress
sent_or_delayed scope receiver now event None id progress = Ok (now event)
sent_or_delayed scope receiver now event (Some delay) id progress = delayed scope receiver event delay id progress

-- an event to the actor itself: without a delay it is raised
abbrev pub raise : Scope → Expr → Option Expr → Option Expr → Progress → Stepped Progress
raise scope event delay id progress =
    and_then (event_in scope event) (λ made. sent_or_delayed scope to.Own (with_raised progress) made delay id progress)

-- an event to another
abbrev pub send : Scope → To → Expr → Option Expr → Option Expr → Progress → Stepped Progress
send scope receiver event delay id progress =
    and_then (event_in scope event)
    (λ made. sent_or_delayed scope receiver (λ sent. with_effect progress (effect.Send receiver sent)) made delay id progress)

-- no letter any more of the timer with this id
abbrev pub cancel : Scope → Expr → Progress → Stepped Progress
cancel scope id progress = and_then (name_in scope id) (λ name. Ok (with_effect progress (effect.Cancel name)))

-- ---- children

-- the id of an unnamed child, if a number is left for it, and the count of unnamed children after it
abbrev pub unnamed_id : ℕ → Stepped (List ℕ × ℕ)
unnamed_id unnamed = if nat_lt unnamed MAX_NEXT_NUMBER then Ok (codes "x:" ++ decimal unnamed, unnamed + 1) else Err fault.ActorsFull

-- the id of a child that is spawned, and the count of unnamed children after it
abbrev pub child_id_in : Scope → Option Expr → ℕ → Stepped (List ℕ × ℕ)
child_id_in scope None unnamed = unnamed_id unnamed
child_id_in scope (Some expr) unnamed = and_then (name_in scope expr) (λ id. Ok (id, unnamed))

-- a child is spawned
abbrev pub spawn : Scope → ℕ → Option Expr → Option Expr → Option Expr → Progress → Stepped Progress
spawn scope src id input system progress =
    and_then (child_id_in scope id progress.unnamed) (λ identified. and_then (input_in scope input) (λ given. and_then (optional (name_in scope) system)
    (λ name. Ok (with_child (record progress { unnamed = identified.1 }) identified.0 src given name))))

-- a child is stopped
abbrev pub stop_child : Scope → Expr → Progress → Stepped Progress
stop_child scope id progress = and_then (name_in scope id) (λ name. Ok (with_stop progress name))

-- ---- the table

-- What the items of `enqueueActions` choose: the actions, in order. Every `if` reads the context and the event that stood when it began.
abbrev pub Choice : Type 0
Choice = Scope → Stepped (List Doing)

-- the choices of items one after the other
abbrev pub chosen : Scope → List Choice → Stepped (List Doing)
chosen scope [] = Ok []
chosen scope (item ∷ items) = and_then (item scope) (λ first. and_then (chosen scope items) (λ others. Ok (first ++ others)))

abbrev pub choose : ActionItem-F Doing Choice → Choice
choose (ActionItem-F.Do action) scope = Ok (action ∷ [])
choose (ActionItem-F.If test items others) scope =
    and_then (test_in scope test) (λ holds. if holds then chosen scope items else chosen scope others)

-- the chosen actions one after the other
abbrev pub enqueued : Scope → List Choice → Given → Progress → Stepped Progress
enqueued scope items given progress = and_then (chosen scope items) (λ actions. in_turn (λ (action : Doing). action given) actions progress)

-- what an action of this form does, where its parts do these; the action itself is counted besides
abbrev pub form : Action-F Doing Choice → Scope → Given → Progress → Stepped Progress
form (Action-F.Assign values) scope given progress = assign scope values progress
form (Action-F.Raise event delay id) scope given progress = raise scope event delay id progress
form (Action-F.SendTo target event delay id) scope given progress =
    and_then (target_in scope progress target) (λ receiver. send scope receiver event delay id progress)
form (Action-F.Cancel id) scope given progress = cancel scope id progress
form (Action-F.SpawnChild src id input system) scope given progress = spawn scope src id input system progress
form (Action-F.StopChild id) scope given progress = stop_child scope id progress
form (Action-F.EnqueueActions items) scope given progress = enqueued scope items given progress

-- an action is counted, and does what its form says
abbrev pub counted_form : Action-F Doing Choice → Doing
counted_form layer given progress = form layer (scope_at given progress) given (counted progress)

-- what an action does
abbrev pub doing : Action → Doing
doing = fold-Action Doing Choice counted_form choose

-- an action of the table, with the params that it is used with
abbrev pub after_action : Value → ActionUse → Progress → Stepped Progress
after_action event action_use = doing action_use.action (record { event = event; params = action_use.params })
