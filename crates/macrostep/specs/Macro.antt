-- A macrostep, SCXML's run to completion: microsteps until nothing is left to do for one event.
use Rattle.std.specs.Prelude.{◌≡◌, ◌<◌, ◌≤◌, ◌+◌, ℕ, Bool, true, false, List, [], ◌∷◌, ◌++◌, length, Result, Ok, Err, codes, nat_eq, unwrap_or}
use Rattle.std.specs.List.{starts_with}
use Rattle.xs_model.specs.declared.env.EvalFault.{EvalFault}
use Rattle.xs_model.specs.declared.value.Value.{Value}
use Rattle.xs_model.specs.declared.value.Value.TheVariants as value
use Rattle.guard_eval.specs.declared.def.Def.{Def}
use Rattle.guard_eval.specs.declared.transition.Transition.{Transition}
use Rattle.office_types.specs.declared.limits.TheConstants.{MAX_MICROSTEPS}
use Rattle.office_types.specs.declared.outcome.Effect.{Effect}
use Rattle.office_types.specs.declared.outcome.End.{End}
use Rattle.office_types.specs.declared.outcome.End.TheVariants as end
use Rattle.office_types.specs.declared.outcome.FaultName.{FaultName}
use Rattle.office_types.specs.declared.outcome.FaultName.TheVariants as name_of
use Rattle.office_types.specs.declared.outcome.Outcome.{Outcome}
use Rattle.office_types.specs.declared.outcome.Own.{Own}
use Rattle.office_types.specs.Effects.{fresh_own}
use Rattle.office_types.specs.Events.{event_type, fault_error, init_event, under}
use Rattle.microstep.specs.declared.micro.Micro.{Micro}
use Rattle.microstep.specs.Micro.{IsFirstMicrostep, IsMicrostep, machine_output}
use Rattle.microstep.specs.Parts.{Stepped, fault_name}
use Rattle.microstep.specs.Progress.{progress_of}
use Rattle.microstep.specs.Selection.{Place, Selects}
use Rattle.microstep.specs.Taking.{transitions_at}
use Rattle.macrostep.specs.declared.limits.TheConstants.{MAX_ACTIONS}

-- how far a macrostep is: the own part now, the raised events that wait, the oldest first, the effects and the count of actions so far,
-- the event that was taken last, and the types of the events that the microsteps so far read
pub record Run : Type 0 where
  pub own : Own
  pub raised : List Value
  pub effects : List Effect
  pub actions : ℕ
  pub event : Value
  pub read : List (List ℕ)

-- the type of an event; each has one
abbrev pub type_of : Value → List ℕ
type_of event = unwrap_or (event_type event) []

-- an event is taken
abbrev pub with_event : Run → Value → List Value → Run
with_event run event later = record run { event = event; raised = later }

-- a microstep was made
abbrev pub with_micro : Run → Micro → Run
with_micro run micro = record {
  own = micro.own;
  raised = run.raised ++ micro.raised;
  effects = run.effects ++ micro.effects;
  actions = run.actions + micro.actions;
  event = run.event;
  read = run.read ++ type_of run.event ∷ [];
}

-- what the event taken last selects, or what is selected without an event
abbrev pub SelectsNow : Def → Run → Bool → Result (List Place) EvalFault → Type 0
SelectsNow def run eventless = Selects (record { def = def; own = run.own; event = run.event; eventless = eventless })

-- how a run ends: where the machine is done with its output, or at rest
pub record Ended : Type 0 where
  pub run : Run
  pub end : End

mutual
  -- after each microstep: transitions without an event first, then the oldest raised event, then rest
  pub data Runs (def : Def) : Run → Stepped Ended → Type 0 where
    rests : {run : Run} → SelectsNow def run true (Ok []) → run.raised ≡ []
        → Runs def run (Ok (record { run = run; end = end.Active }))
    eventless : {run : Run} {first : Place} {others : List Place} {result : Stepped Ended}
        → SelectsNow def run true (Ok (first ∷ others))
        → Makes def run (transitions_at def (record { eventless = true; taken = first ∷ others })) result → Runs def run result
    takes : {run : Run} {event : Value} {later : List Value} {result : Stepped Ended} → SelectsNow def run true (Ok [])
        → run.raised ≡ event ∷ later → Takes def (with_event run event later) result → Runs def run result
    faults_at_rest : {run : Run} {name : EvalFault} → SelectsNow def run true (Err name) → Runs def run (Err (fault_name name))

  -- the event taken last: its transitions make a microstep, if there are any
  pub data Takes (def : Def) : Run → Stepped Ended → Type 0 where
    none : {run : Run} {result : Stepped Ended} → SelectsNow def run false (Ok []) → Runs def run result → Takes def run result
    some : {run : Run} {first : Place} {others : List Place} {result : Stepped Ended}
        → SelectsNow def run false (Ok (first ∷ others))
        → Makes def run (transitions_at def (record { eventless = false; taken = first ∷ others })) result → Takes def run result
    faults : {run : Run} {name : EvalFault} → SelectsNow def run false (Err name) → Takes def run (Err (fault_name name))

  -- a microstep of these transitions: one too many is the fault Steps
  pub data Makes (def : Def) : Run → List Transition → Stepped Ended → Type 0 where
    one_too_many : {run : Run} {transitions : List Transition} → length run.read ≡ MAX_MICROSTEPS
        → Makes def run transitions (Err name_of.Steps)
    one : {run : Run} {transitions : List Transition} {made : Stepped Micro} {result : Stepped Ended}
        → length run.read < MAX_MICROSTEPS → IsMicrostep def run.own transitions run.event made
        → Goes def run made result → Makes def run transitions result

  -- what comes of a microstep: its fault; one action too many; the end of the machine; or what follows
  pub data Goes (def : Def) : Run → Stepped Micro → Stepped Ended → Type 0 where
    fails : {run : Run} {name : FaultName} → Goes def run (Err name) (Err name)
    acts_too_many : {run : Run} {micro : Micro} → MAX_ACTIONS < run.actions + micro.actions → Goes def run (Ok micro) (Err name_of.Actions)
    done : {run : Run} {micro : Micro} {output : Value} → run.actions + micro.actions ≤ MAX_ACTIONS → micro.finished ≡ true
        → machine_output def micro.own.nodes run.event (progress_of micro.own) ≡ Ok output
        → Goes def run (Ok micro) (Ok (record { run = with_micro run micro; end = end.Done output }))
    further : {run : Run} {micro : Micro} {result : Stepped Ended} → run.actions + micro.actions ≤ MAX_ACTIONS
        → micro.finished ≡ false → Runs def (with_micro run micro) result → Goes def run (Ok micro) result

-- ---- outcomes

-- the actor ends in error: its own part is as it was, and there are no effects
abbrev pub error_outcome : Own → Value → Outcome
error_outcome own error = record { own = own; end = end.Error error; effects = []; micros = [] }

-- the outcome of a run, or of its fault
abbrev pub outcome_of : Own → Stepped Ended → Outcome
outcome_of own (Ok ended) = record { own = ended.run.own; end = ended.end; effects = ended.run.effects; micros = ended.run.read }
outcome_of own (Err name) = error_outcome own (fault_error name)

-- nothing is done yet, and an event is taken
abbrev pub run_of : Own → Value → Run
run_of own event = record { own = own; raised = []; effects = []; actions = 0; event = event; read = [] }

-- the event tells that a child ended in error
abbrev pub is_child_error : Value → Bool
is_child_error event = starts_with nat_eq (type_of event) (codes "xstate.error.actor.")

-- the error that the event tells, or null
abbrev pub child_error : Value → Value
child_error event = unwrap_or (under (codes "error") event) value.Null

-- The outcome of an event, for an own part that has begun. That a child ended in error and selects nothing ends the actor in error too,
-- with the child's error.
pub data IsMacrostep (def : Def) (own : Own) (event : Value) : Outcome → Type 0 where
  unhandled : is_child_error event ≡ true → SelectsNow def (run_of own event) false (Ok [])
      → IsMacrostep def own event (error_outcome own (child_error event))
  handled : {ended : Stepped Ended} → (is_child_error event ≡ true → ¬ SelectsNow def (run_of own event) false (Ok []))
      → Takes def (run_of own event) ended → IsMacrostep def own event (outcome_of own ended)

-- The outcome of the first step of an actor of a machine with this number: the first microstep, and then as after any other.
pub record IsFirstMacrostep (def : Def) (number : ℕ) (input : Value) (outcome : Outcome) : Type 0 where
  pub made : Stepped Micro
  pub first : IsFirstMicrostep def (fresh_own number) (init_event input) made
  pub ended : Stepped Ended
  pub goes : Goes def (run_of (fresh_own number) (init_event input)) made ended
  pub outcome_is : outcome ≡ outcome_of (fresh_own number) ended
