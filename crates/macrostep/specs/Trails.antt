-- How far a macrostep is, as the code has it, and what its parts answer.
use Rattle.std.specs.Prelude.{◌≡◌, ◌<◌, ◌≤◌, ◌+◌, ℕ, Bool, true, false, List, [], ◌∷◌, length, unwrap_or, Result, Ok, Err, IsTrue, ⊤}
use Rattle.xs_model.specs.declared.value.Value.{Value}
use Rattle.guard_eval.specs.declared.def.Def.{Def}
use Rattle.guard_eval.specs.declared.transition.Transition.{Transition}
use Rattle.office_types.specs.declared.limits.TheConstants.{MAX_MICROSTEPS}
use Rattle.office_types.specs.declared.outcome.End.TheVariants as end
use Rattle.office_types.specs.declared.outcome.FaultName.TheVariants as name_of
use Rattle.office_types.specs.declared.outcome.Outcome.{Outcome}
use Rattle.office_types.specs.declared.outcome.Own.{Own}
use Rattle.microstep.specs.declared.micro.Micro.{Micro}
use Rattle.office_types.specs.Effects.{fresh_own}
use Rattle.office_types.specs.Limits.{is_event}
use Rattle.office_types.specs.OwnParts.{HasBegun}
use Rattle.microstep.specs.declared.micro.Picked.{Picked}
use Rattle.microstep.specs.declared.micro.StepFault.{StepFault}
use Rattle.microstep.specs.declared.micro.StepFault.TheVariants.{Fault, Memory}
use Rattle.microstep.specs.Micro.{machine_output}
use Rattle.microstep.specs.Parts.{Stepped}
use Rattle.microstep.specs.Progress.{progress_of}
use Rattle.microstep.specs.Selection.{Looking}
use Rattle.microstep.specs.Taking.{CanBeTaken, transitions_at}
use Rattle.macrostep.specs.declared.limits.TheConstants.{MAX_ACTIONS}
use Rattle.macrostep.specs.declared.trail.Made.{Made}
use Rattle.macrostep.specs.declared.trail.Trail.{Trail}
use Rattle.macrostep.specs.Macro.{Ended, IsFirstMacrostep, IsMacrostep, Makes, Run, Runs, SelectsNow, is_child_error, run_of, with_event, with_micro}
use Rattle.macrostep.specs.Allowed.{IsAllowedFor, KeepsAllowed}

-- the event that was taken last: a raised one, or that which the macrostep began with
abbrev pub last_event : Value → Trail → Value
last_event first trail = unwrap_or trail.taken first

-- how far a macrostep is that began with an event
abbrev pub run_with : Own → Value → Trail → Run
run_with own first trail = record {
  own = own;
  raised = trail.raised.items;
  effects = trail.effects.items;
  actions = trail.actions;
  event = last_event first trail;
  read = trail.read.items;
}

-- the oldest raised event is taken
pub record IsOldest (event : Value) (old new : Trail) : Type 0 where
  pub oldest : old.raised.items ≡ event ∷ new.raised.items
  pub run : (own : Own) (first : Value) → run_with own first new ≡ with_event (run_with own first old) event new.raised.items

-- no raised event waits, and the trail stays
pub record HasNoRaised (old new : Trail) : Type 0 where
  pub none : old.raised.items ≡ []
  pub run : (own : Own) (first : Value) → run_with own first new ≡ run_with own first old

-- what a microstep leaves is added
pub record IsAdded (first : Value) (old : Trail) (micro : Micro) (made : Made) (new : Trail) : Type 0 where
  pub finished : made.finished ≡ micro.finished
  pub run : run_with made.own first new ≡ with_micro (run_with micro.own first old) micro
  pub within : old.actions + micro.actions ≤ MAX_ACTIONS

-- the fault is that of an action too many; want of memory may come at any time
abbrev pub IsActionTooMany : ℕ → StepFault → Type 0
IsActionTooMany actions (Fault name) = (name ≡ name_of.Actions) × (MAX_ACTIONS < actions)
IsActionTooMany actions Memory = ⊤

-- what follows after a microstep: the end of a machine that is done, or what a run goes on to
abbrev pub Follows : Def → Run → Bool → Stepped Ended → Type 0
Follows def run false result = Runs def run result
Follows def run true result =
    (output : Value) × (machine_output def run.own.nodes run.event (progress_of run.own) ≡ Ok output)
    × (result ≡ Ok (record { run = run; end = end.Done output }))

-- a machine that is done has an output
abbrev pub HasOutput : Def → Run → Bool → Type 0
HasOutput def run finished =
    finished ≡ true → (output : Value) × (machine_output def run.own.nodes run.event (progress_of run.own) ≡ Ok output)

-- what a selection reads that reads this event
abbrev pub looking_at : Def → Own → Value → Bool → Looking
looking_at def own event asked = record { def = def; own = own; event = event; eventless = asked }

-- what a microstep of these transitions makes of a run: what follows is what the transitions lead to
pub record IsMade (def : Def) (transitions : List Transition) (before : Run) (finished : Bool) (after : Run) : Type 0 where
  pub leads : (result : Stepped Ended) → Follows def after finished result → Makes def before transitions result
  pub output : HasOutput def after finished
  pub begun : HasBegun def.tree after.own
  pub one_more : length after.read ≡ length before.read + 1
  pub within : length after.read ≤ MAX_MICROSTEPS
  pub keeps : KeepsAllowed def before after

-- a run goes on with these transitions, after raised events that take none
pub record GoesOn (def : Def) (before : Run) (picked : Picked) (after : Run) : Type 0 where
  pub own : after.own ≡ before.own
  pub leads : (result : Stepped Ended) → Makes def after (transitions_at def picked) result → Runs def before result
  pub can_be : CanBeTaken def after.own picked
  pub read : after.read ≡ before.read
  pub keeps : KeepsAllowed def before after

-- nothing is left to do, after raised events that take no transitions
pub record ComesToRest (def : Def) (before after : Run) : Type 0 where
  pub own : after.own ≡ before.own
  pub rests : Runs def before (Ok (record { run = after; end = end.Active }))
  pub read : after.read ≡ before.read
  pub keeps : KeepsAllowed def before after

-- a fault may come of this run; want of memory may come at any time
abbrev pub MayFail : (Stepped Ended → Type 0) → StepFault → Type 0
MayFail Ends (Fault name) = Ends (Err name)
MayFail Ends Memory = ⊤

-- the outcome of a run that has no fault
abbrev pub ran_outcome : Ended → Outcome
ran_outcome ended = record { own = ended.run.own; end = ended.end; effects = ended.run.effects; micros = ended.run.read }

-- the outcome of an end, or the name of its fault; want of memory may come at any time
abbrev pub Settles : (Stepped Ended → Type 0) → Result Outcome StepFault → Type 0
Settles Ends (Ok outcome) = (ended : Ended) × Ends (Ok ended) × (outcome ≡ ran_outcome ended)
Settles Ends (Err fault) = MayFail Ends fault

-- ---- what a macrostep gives

-- the event tells that a child ended in error, and selects none; or else an event that tells so selects some
abbrev pub IsUnhandled : Def → Own → Value → Bool → Type 0
IsUnhandled def own event true = (is_child_error event ≡ true) × SelectsNow def (run_of own event) false (Ok [])
IsUnhandled def own event false = is_child_error event ≡ true → ¬ SelectsNow def (run_of own event) false (Ok [])

-- the outcome of an event, allowed and bounded
pub record IsOutcome (def : Def) (own : Own) (event : Value) (outcome : Outcome) : Type 0 where
  pub macrostep : IsMacrostep def own event outcome
  pub allowed : IsTrue (is_event event) → IsAllowedFor def own outcome
  pub begun : HasBegun def.tree outcome.own
  pub bounded : length outcome.micros ≤ MAX_MICROSTEPS

-- the outcome of the first step, allowed and bounded
pub record IsFirstOutcome (def : Def) (number : ℕ) (input : Value) (outcome : Outcome) : Type 0 where
  pub macrostep : IsFirstMacrostep def number input outcome
  pub allowed : IsAllowedFor def (fresh_own number) outcome
  pub begun : HasBegun def.tree outcome.own
  pub bounded : length outcome.micros ≤ MAX_MICROSTEPS
