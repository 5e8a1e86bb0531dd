-- How a run goes on.
use Rattle.std.proofs.Common.{◌≡◌, ◌==◌, ◌<◌, ◌≤◌, ◌+◌, ℕ, Bool, true, false, List, [], ◌∷◌, Result, Ok, Err, MatchResult, IfOk, IfErr, if◌then◌else◌, filter_map, length, reverse, refl, sym, ap, subst, ◌∙◌, arith, length-append}
use Rattle.xs_model.specs.declared.value.Value.{Value}
use Rattle.guard_eval.specs.declared.def.Def.{Def}
use Rattle.guard_eval.specs.declared.transition.Transition.{Transition}
use Rattle.guard_eval.specs.Definitions.{IsWellFormed}
use Rattle.office_types.specs.declared.limits.TheConstants.{MAX_MICROSTEPS}
use Rattle.office_types.specs.declared.outcome.End.TheVariants as end
use Rattle.office_types.specs.declared.outcome.FaultName.{FaultName}
use Rattle.office_types.specs.declared.outcome.FaultName.TheVariants as name_of
use Rattle.office_types.specs.declared.outcome.Outcome.{Outcome}
use Rattle.office_types.specs.declared.outcome.Own.{Own}
use Rattle.office_types.specs.Limits.{is_short}
use Rattle.office_types.specs.Outcomes.{IsAllowedOutcome}
use Rattle.office_types.specs.OwnParts.{HasBegun}
use Rattle.microstep.specs.declared.micro.Micro.{Micro}
use Rattle.microstep.specs.declared.micro.Picked.{Picked}
use Rattle.microstep.specs.declared.micro.StepFault.{StepFault}
use Rattle.microstep.specs.declared.micro.StepFault.TheVariants.{Fault, Memory}
use Rattle.microstep.specs.Micro.{begins, ends, goes_on, no_context, Ends, IsFirstMicrostep, IsMicrostep, after_end, machine_output, micro_of, root_done}
use Rattle.microstep.specs.Acts.{after_acts, last_acts, plain_scope}
use Rattle.std.specs.List.{flat_map}
use Rattle.microstep.specs.Parts.{Stepped, and_then, short_in, value_in}
use Rattle.microstep.specs.Progress.{progress_of}
use Rattle.microstep.specs.Selected.{IsFaultOf, IsSelected}
use Rattle.microstep.specs.Selection.{Place, Selects, transition_at}
use Rattle.microstep.specs.Taking.{CanBeTaken, IsAnswered, LeavesAllowed, transitions_at}
use Rattle.macrostep.specs.declared.limits.TheConstants.{MAX_ACTIONS}
use Rattle.macrostep.specs.declared.trail.Made.{Made}
use Rattle.macrostep.specs.declared.trail.Trail.{Trail}
use Rattle.macrostep.specs.Allowed.{IsAllowedEnd, IsAllowedRun, KeepsAllowed}
use Rattle.macrostep.specs.Macro.{Ended, Goes, Makes, Run, Runs, SelectsNow, Takes, run_of, type_of, with_event, with_micro}
use Rattle.macrostep.specs.Macro.{acts_too_many, done, eventless, fails, faults, faults_at_rest, further, none, one, rests, some, takes}
use Rattle.macrostep.specs.Trails.{ComesToRest, Follows, GoesOn, HasOutput, IsActionTooMany, IsAdded, IsMade, IsOldest, MayFail, Settles, looking_at, ran_outcome, run_with}
use Rattle.macrostep.proofs.AllowedLemmas.{keeps_event, keeps_micro, through}

-- ---- how many microsteps were made

pub at_bound : (count : ℕ) (full : Bool) → full ≡ (count == MAX_MICROSTEPS) → full ≡ true → count ≡ MAX_MICROSTEPS
at_bound count full is holds = let e : (count == MAX_MICROSTEPS) ≡ true = sym is ∙ holds in grind (arith, e)

pub below_bound : (count : ℕ) (full : Bool) → full ≡ (count == MAX_MICROSTEPS) → full ≡ false → count ≤ MAX_MICROSTEPS → count < MAX_MICROSTEPS
below_bound count full is fails_so within = let e : (count == MAX_MICROSTEPS) ≡ false = sym is ∙ fails_so in grind (arith, e, within)

-- ---- the output of a machine that is done

-- what gave a value, gave one at each part
both_gave : {X Y : Type 0} (part : Stepped X) (next : X → Stepped Y) (y : Y) → and_then part next ≡ Ok y
    → (x : X) × (part ≡ Ok x) × (next x ≡ Ok y)
both_gave (Ok x) next y is = (x, refl, is)
both_gave (Err name) next y is = grind (arith, is)

-- a value without a fault
abbrev gives : {X : Type 0} → X → Stepped X
gives x = Ok x

-- a fault
abbrev refuses : {X : Type 0} → FaultName → Stepped X
refuses name = Err name

ok_same : {X : Type 0} (x y : X) → gives x ≡ gives y → x ≡ y
ok_same x y is = grind (arith, is)

-- a machine that is done has an output
abbrev GaveOutput : Def → Value → Micro → Type 0
GaveOutput def event micro = micro.finished ≡ true → (output : Value) × (machine_output def micro.own.nodes event (progress_of micro.own) ≡ Ok output)

at_goes_on : (def : Def) (own : Own) (move : _) (event : Value) (before : Stepped _) (micro : Micro)
    → and_then before (λ progress. Ok (micro_of own move false progress)) ≡ Ok micro → GaveOutput def event micro
at_goes_on def own move event before micro is finished =
    let part = both_gave before (λ progress. Ok (micro_of own move false progress)) micro is in
    grind (arith, part.2, finished)

-- what was made in the end had an output
made_at_end : {X : Type 0} (Gives : X → Type 0) (acted : Stepped X) (output : X → Stepped Value) (clear : X → X) (last : X)
    → ((x : X) (o : Value) → output x ≡ Ok o → Gives (clear x))
    → and_then acted (λ (x : X). and_then (output x) (λ (o : Value). Ok (clear x))) ≡ Ok last → Gives last
made_at_end Gives acted output clear last each is =
    let first = both_gave acted (λ x. and_then (output x) (λ o. Ok (clear x))) last is in
    let second = both_gave (output first.0) (λ o. Ok (clear first.0)) last first.2 in
    subst Gives (ok_same (clear first.0) last second.2) (each first.0 second.0 second.1)

-- what was made of the last
made_of_last : {X : Type 0} (Gives : Micro → Type 0) (before : Stepped X) (next : X → Stepped X) (made : X → Micro) (micro : Micro)
    → ((x last : X) → next x ≡ Ok last → Gives (made last))
    → and_then before (λ (x : X). and_then (next x) (λ (last : X). Ok (made last))) ≡ Ok micro → Gives micro
made_of_last Gives before next made micro each is =
    let first = both_gave before (λ x. and_then (next x) (λ last. Ok (made last))) micro is in
    let second = both_gave (next first.0) (λ last. Ok (made last)) micro first.2 in
    subst Gives (ok_same (made second.0) micro second.2) (each first.0 second.0 second.1)

at_ends : (def : Def) (own : Own) (move : _) (event : Value) (before : Stepped _) (micro : Micro)
    → and_then before (λ progress. and_then (after_end def ((micro_of own move true progress).own.nodes) event progress) (λ last. Ok (micro_of own move true last))) ≡ Ok micro
    → GaveOutput def event micro
at_ends def own move event before micro is =
    made_of_last (GaveOutput def event) before (λ progress. after_end def ((micro_of own move true progress).own.nodes) event progress) (micro_of own move true) micro
    (λ progress last given.
    made_at_end (λ last. GaveOutput def event (micro_of own move true last))
    (after_acts event (flat_map (last_acts def) (reverse ((micro_of own move true progress).own.nodes))) progress)
    (machine_output def ((micro_of own move true progress).own.nodes) event) (λ p. record p { raised = [] }) last
    (λ p output gave finished. (output, gave)) given)
    is

gave_output : (def : Def) (own : Own) (move : _) (event : Value) (before : Stepped _) (result : Stepped Micro) (micro : Micro)
    → Ends def own move event before result → result ≡ Ok micro → GaveOutput def event micro
gave_output def own move event before result micro (goes_on not_done) is = at_goes_on def own move event before micro is
gave_output def own move event before result micro (ends root) is = at_ends def own move event before micro is

pub microstep_output : (def : Def) (own : Own) (transitions : List Transition) (event : Value) (micro : Micro)
    → IsMicrostep def own transitions event (Ok micro) → GaveOutput def event micro
microstep_output def own transitions event micro made = gave_output def own made.move event _ (Ok micro) micro made.ends refl

first_output : (def : Def) (own : Own) (event : Value) (result : Stepped Micro) (micro : Micro)
    → IsFirstMicrostep def own event result → result ≡ Ok micro → GaveOutput def event micro
first_output def own event result micro (no_context failed) is = grind (arith, is)
first_output def own event result micro (begins {move = move} context first acts ended) is = gave_output def own move event _ result micro ended is

pub first_microstep_output : (def : Def) (own : Own) (event : Value) (micro : Micro) → IsFirstMicrostep def own event (Ok micro) → GaveOutput def event micro
first_microstep_output def own event micro made = first_output def own event (Ok micro) micro made refl

-- ---- after a microstep

goes_at : (def : Def) (run : Run) (micro : Micro) (finished : Bool) → micro.finished ≡ finished → run.actions + micro.actions ≤ MAX_ACTIONS
    → (result : Stepped Ended) → Follows def (with_micro run micro) finished result → Goes def run (Ok micro) result
goes_at def run micro false is within result follows = further within is follows
goes_at def run micro true is within result follows =
    let Comes : Stepped Ended → Type 0 = λ result. Goes def run (Ok micro) result in
    subst Comes (sym follows.2) (done within is follows.1)

pub goes_from : (def : Def) (run after : Run) (micro : Micro) (finished : Bool) → after ≡ with_micro run micro → finished ≡ micro.finished
    → run.actions + micro.actions ≤ MAX_ACTIONS → (result : Stepped Ended) → Follows def after finished result → Goes def run (Ok micro) result
goes_from def run after micro finished after_is finished_is within result follows =
    let Comes : Run → Type 0 = λ after. Follows def after finished result in
    goes_at def run micro finished (sym finished_is) within result (subst Comes after_is follows)

pub output_from : (def : Def) (run after : Run) (micro : Micro) (finished : Bool) → after ≡ with_micro run micro → finished ≡ micro.finished
    → GaveOutput def run.event micro → HasOutput def after finished
output_from def run after micro finished after_is finished_is gave is =
    let Gives : Run → Type 0 = λ after. (output : Value) × (machine_output def after.own.nodes after.event (progress_of after.own) ≡ Ok output) in
    subst Gives (sym after_is) (gave (sym finished_is ∙ is))

-- a microstep of these transitions
pub is_made : (def : Def) (transitions : List Transition) (run after : Run) (micro : Micro) (finished : Bool)
    → (actors : ℕ) × IsWellFormed actors def → length run.read < MAX_MICROSTEPS → IsMicrostep def run.own transitions run.event (Ok micro)
    → ((actors : ℕ) → IsWellFormed actors def → LeavesAllowed actors def run.own micro)
    → after ≡ with_micro run micro → finished ≡ micro.finished → run.actions + micro.actions ≤ MAX_ACTIONS
    → IsMade def transitions run finished after
is_made def transitions run after micro finished formed below made leaves after_is finished_is within = record {
  leads = λ result follows. one below made (goes_from def run after micro finished after_is finished_is within result follows);
  output = output_from def run after micro finished after_is finished_is (microstep_output def run.own transitions run.event micro made);
  begun = let Begun : Run → Type 0 = λ after. HasBegun def.tree after.own in subst Begun (sym after_is) ((leaves formed.0 formed.1).begun);
  one_more = ap (λ (r : Run). length r.read) after_is ∙ length-append run.read (type_of run.event ∷ []);
  within = let e = ap (λ (r : Run). length r.read) after_is in let l = length-append run.read (type_of run.event ∷ []) in omega (arith, e, l, below);
  keeps = λ actors own well allowed. let Allowed : Run → Type 0 = λ after. IsAllowedRun actors def own after in
      subst Allowed (sym after_is) (keeps_micro actors def own run micro below (leaves actors well) allowed);
}

-- the fault of a microstep that read this event
pub made_fault : (def : Def) (transitions : List Transition) (run : Run) (fault : StepFault) (event : Value) → event ≡ run.event
    → length run.read < MAX_MICROSTEPS → IsAnswered {X = Micro} (IsMicrostep def run.own transitions event) (Err fault)
    → MayFail (Makes def run transitions) fault
made_fault def transitions run (Fault name) event is below made =
    let Made : Value → Type 0 = λ event. IsMicrostep def run.own transitions event (Err name) in
    one below (subst Made is made) fails
made_fault def transitions run Memory event is below made = tt

-- too many actions
too_many : (def : Def) (transitions : List Transition) (run : Run) (micro : Micro) (fault : StepFault) → length run.read < MAX_MICROSTEPS
    → IsMicrostep def run.own transitions run.event (Ok micro) → IsActionTooMany (run.actions + micro.actions) fault
    → MayFail (Makes def run transitions) fault
too_many def transitions run micro (Fault name) below made many =
    let Comes : FaultName → Type 0 = λ name. Makes def run transitions (Err name) in
    subst Comes (sym many.0) (one below made (acts_too_many many.1))
too_many def transitions run micro Memory below made many = tt

-- what is made of what a microstep leaves
pub added_all : (def : Def) (transitions : List Transition) (own : Own) (first : Value) (old new : Trail) (micro : Micro) (event : Value)
    (result : Result Made StepFault) → (actors : ℕ) × IsWellFormed actors def → event ≡ (run_with own first old).event
    → length old.read.items < MAX_MICROSTEPS → IsMicrostep def own transitions event (Ok micro)
    → ((actors : ℕ) → IsWellFormed actors def → LeavesAllowed actors def own micro)
    → IfOk result (λ made. IsAdded first old micro made new) → IfErr result (IsActionTooMany (old.actions + micro.actions))
    → MatchResult result (λ made. IsMade def transitions (run_with own first old) made.finished (run_with made.own first new))
    (MayFail (Makes def (run_with own first old) transitions))
added_all def transitions own first old new micro event (Ok made) formed is below step leaves added many =
    let Made : Value → Type 0 = λ event. IsMicrostep def own transitions event (Ok micro) in
    is_made def transitions (run_with own first old) (run_with made.own first new) micro made.finished formed below (subst Made is step) leaves added.run added.finished added.within
added_all def transitions own first old new micro event (Err fault) formed is below step leaves added many =
    let Made : Value → Type 0 = λ event. IsMicrostep def own transitions event (Ok micro) in
    too_many def transitions (run_with own first old) micro fault below (subst Made is step) many

-- ---- the next transitions

-- what follows from a run, after raised events that take none
pub record IsOnward (def : Def) (before after : Run) : Type 0 where
  pub own : after.own ≡ before.own
  pub leads : (result : Stepped Ended) → Runs def after result → Runs def before result
  pub read : after.read ≡ before.read
  pub keeps : KeepsAllowed def before after

pub onward_start : (def : Def) (run : Run) → IsOnward def run run
onward_start def run = record { own = refl; leads = λ result comes. comes; read = refl; keeps = λ actors own formed allowed. allowed }

eventless_leads : (def : Def) (run : Run) (asked : Bool) (taken : List Place) → asked ≡ true → SelectsNow def run true (Ok taken)
    → (length taken == 0) ≡ false → (result : Stepped Ended) → Makes def run (filter_map (transition_at def asked) taken) result → Runs def run result
eventless_leads def run asked [] is selects some_taken result made = grind (arith, some_taken)
eventless_leads def run asked (place ∷ places) is selects some_taken result made =
    let Made : Bool → Type 0 = λ asked. Makes def run (filter_map (transition_at def asked) (place ∷ places)) result in
    eventless selects (subst Made is made)

event_leads : (def : Def) (run : Run) (asked : Bool) (taken : List Place) → asked ≡ false → SelectsNow def run false (Ok taken)
    → (length taken == 0) ≡ false → (result : Stepped Ended) → Makes def run (filter_map (transition_at def asked) taken) result → Takes def run result
event_leads def run asked [] is selects some_taken result made = grind (arith, some_taken)
event_leads def run asked (place ∷ places) is selects some_taken result made =
    let Made : Bool → Type 0 = λ asked. Makes def run (filter_map (transition_at def asked) (place ∷ places)) result in
    some selects (subst Made is made)

-- an event takes these transitions
pub event_made : (def : Def) (run : Run) (picked : Picked) → picked.eventless ≡ false → SelectsNow def run false (Ok picked.taken)
    → (length picked.taken == 0) ≡ false → (result : Stepped Ended) → Makes def run (transitions_at def picked) result → Takes def run result
event_made def run picked is selects some_taken = event_leads def run picked.eventless picked.taken is selects some_taken

-- a selection of no transitions selects none
pub selects_none : (def : Def) (run : Run) (asked : Bool) (taken : List Place) → SelectsNow def run asked (Ok taken) → (length taken == 0) ≡ true
    → SelectsNow def run asked (Ok [])
selects_none def run asked [] selects is = selects
selects_none def run asked (place ∷ places) selects is = grind (arith, is)

-- transitions without an event are next
pub eventless_next : (def : Def) (before run : Run) (picked : Picked) → IsOnward def before run → picked.eventless ≡ true
    → SelectsNow def run true (Ok picked.taken) → (length picked.taken == 0) ≡ false → CanBeTaken def run.own picked
    → GoesOn def before picked run
eventless_next def before run picked onward is selects some_taken can_be = record {
  own = onward.own;
  leads = λ result made. onward.leads result (eventless_leads def run picked.eventless picked.taken is selects some_taken result made);
  can_be = can_be;
  read = onward.read;
  keeps = onward.keeps;
}

-- the transitions of the oldest raised event are next
pub raised_next : (def : Def) (before old run : Run) (picked : Picked) (event : Value) (later : List Value) → IsOnward def before old
    → SelectsNow def old true (Ok []) → old.raised ≡ event ∷ later → run ≡ with_event old event later → picked.eventless ≡ false
    → SelectsNow def run false (Ok picked.taken) → (length picked.taken == 0) ≡ false → CanBeTaken def run.own picked
    → GoesOn def before picked run
raised_next def before old run picked event later onward selects_old waits is asked selects some_taken can_be = record {
  own = ap (λ (r : Run). r.own) is ∙ onward.own;
  leads = λ result made.
      let Taken : Run → Type 0 = λ r. Takes def r result in
      onward.leads result (takes selects_old waits (subst Taken is (event_made def run picked asked selects some_taken result made)));
  can_be = can_be;
  read = ap (λ (r : Run). r.read) is ∙ onward.read;
  keeps = λ actors own formed allowed.
      let Allowed : Run → Type 0 = λ r. IsAllowedRun actors def own r in
      subst Allowed (sym is) (keeps_event def old event later actors own formed (onward.keeps actors own formed allowed));
}

-- the oldest raised event takes no transitions
pub raised_none : (def : Def) (before old run : Run) (event : Value) (later : List Value) → IsOnward def before old
    → SelectsNow def old true (Ok []) → old.raised ≡ event ∷ later → run ≡ with_event old event later → SelectsNow def run false (Ok [])
    → IsOnward def before run
raised_none def before old run event later onward selects_old waits is selects = record {
  own = ap (λ (r : Run). r.own) is ∙ onward.own;
  leads = λ result comes.
      let Taken : Run → Type 0 = λ r. Takes def r result in
      onward.leads result (takes selects_old waits (subst Taken is (none selects comes)));
  read = ap (λ (r : Run). r.read) is ∙ onward.read;
  keeps = λ actors own formed allowed.
      let Allowed : Run → Type 0 = λ r. IsAllowedRun actors def own r in
      subst Allowed (sym is) (keeps_event def old event later actors own formed (onward.keeps actors own formed allowed));
}

-- nothing is left to do
pub rests_now : (def : Def) (before old run : Run) → IsOnward def before old → SelectsNow def old true (Ok []) → old.raised ≡ [] → run ≡ old
    → ComesToRest def before run
rests_now def before old run onward selects waits is =
    let Rests : Run → Type 0 = λ r. ComesToRest def before r in
    subst Rests (sym is) (record {
      own = onward.own;
      rests = onward.leads (Ok (record { run = old; end = end.Active })) (rests selects waits);
      read = onward.read;
      keeps = onward.keeps;
    })

-- ---- what was selected

-- what was selected
pub selected_now : (def : Def) (run : Run) (asked : Bool) (picked : Picked) (event : Value) → event ≡ run.event
    → IsSelected (looking_at def run.own event asked) (Ok picked) → (picked.eventless ≡ asked) × SelectsNow def run asked (Ok picked.taken)
selected_now def run asked picked event is selected =
    let Selected : Value → Type 0 = λ event. Selects (looking_at def run.own event asked) (Ok picked.taken) in
    (selected.0, subst Selected is selected.1)

-- nothing was selected
pub none_now : (def : Def) (run : Run) (asked : Bool) (picked : Picked) (event : Value) → event ≡ run.event
    → IsSelected (looking_at def run.own event asked) (Ok picked) → (length picked.taken == 0) ≡ true → SelectsNow def run asked (Ok [])
none_now def run asked picked event is selected empty =
    selects_none def run asked picked.taken ((selected_now def run asked picked event is selected).1) empty

-- the fault of a selection without an event
pub eventless_fault : (def : Def) (before run : Run) (event : Value) (fault : StepFault) → IsOnward def before run → event ≡ run.event
    → IsFaultOf (looking_at def run.own event true) fault → MayFail (Runs def before) fault
eventless_fault def before run event (Fault name) onward is fault =
    let Selected : Value → Type 0 = λ event. Selects (looking_at def run.own event true) (Err fault.0) in
    let Comes : FaultName → Type 0 = λ name. Runs def before (Err name) in
    subst Comes (sym fault.2) (onward.leads _ (faults_at_rest (subst Selected is fault.1)))
eventless_fault def before run event Memory onward is fault = tt

-- the fault of the selection of an event
pub event_fault : (def : Def) (run : Run) (event : Value) (fault : StepFault) → event ≡ run.event
    → IsFaultOf (looking_at def run.own event false) fault → MayFail (Takes def run) fault
event_fault def run event (Fault name) is fault =
    let Selected : Value → Type 0 = λ event. Selects (looking_at def run.own event false) (Err fault.0) in
    let Comes : FaultName → Type 0 = λ name. Takes def run (Err name) in
    subst Comes (sym fault.2) (faults (subst Selected is fault.1))
event_fault def run event Memory is fault = tt

-- the fault of the selection of the oldest raised event
raised_fault : (def : Def) (before old run : Run) (event : Value) (later : List Value) (fault : StepFault) → IsOnward def before old
    → SelectsNow def old true (Ok []) → old.raised ≡ event ∷ later → run ≡ with_event old event later
    → MayFail (Takes def run) fault → MayFail (Runs def before) fault
raised_fault def before old run event later (Fault name) onward selects_old waits is failing =
    let Taken : Run → Type 0 = λ r. Takes def r (Err name) in
    onward.leads (Err name) (takes selects_old waits (subst Taken is failing))
raised_fault def before old run event later Memory onward selects_old waits is failing = tt

-- the same, as the trails tell it
pub oldest_fault : (def : Def) (before : Run) (own : Own) (first : Value) (old new : Trail) (event : Value) (fault : StepFault)
    → IsOnward def before (run_with own first old) → SelectsNow def (run_with own first old) true (Ok [])
    → (taken : Value) × IsOldest taken old new → event ≡ (run_with own first new).event
    → IsFaultOf (looking_at def own event false) fault → MayFail (Runs def before) fault
oldest_fault def before own first old new event fault onward selects oldest is faulty =
    raised_fault def before (run_with own first old) (run_with own first new) oldest.0 new.raised.items fault onward selects oldest.1.oldest (oldest.1.run own first)
    (event_fault def (run_with own first new) event fault is faulty)

pub oldest_next : (def : Def) (before : Run) (own : Own) (first : Value) (old new : Trail) (event : Value) (picked : Picked)
    → IsOnward def before (run_with own first old) → SelectsNow def (run_with own first old) true (Ok [])
    → (taken : Value) × IsOldest taken old new → event ≡ (run_with own first new).event
    → IsSelected (looking_at def own event false) (Ok picked) → (length picked.taken == 0) ≡ false → CanBeTaken def own picked
    → GoesOn def before picked (run_with own first new)
oldest_next def before own first old new event picked onward selects oldest is selected some_taken can_be =
    let now = selected_now def (run_with own first new) false picked event is selected in
    raised_next def before (run_with own first old) (run_with own first new) picked oldest.0 new.raised.items onward selects oldest.1.oldest (oldest.1.run own first)
    now.0 now.1 some_taken can_be

pub oldest_none : (def : Def) (before : Run) (own : Own) (first : Value) (old new : Trail) (event : Value) (picked : Picked)
    → IsOnward def before (run_with own first old) → SelectsNow def (run_with own first old) true (Ok [])
    → (taken : Value) × IsOldest taken old new → event ≡ (run_with own first new).event
    → IsSelected (looking_at def own event false) (Ok picked) → (length picked.taken == 0) ≡ true → IsOnward def before (run_with own first new)
oldest_none def before own first old new event picked onward selects oldest is selected empty =
    raised_none def before (run_with own first old) (run_with own first new) oldest.0 new.raised.items onward selects oldest.1.oldest (oldest.1.run own first)
    (none_now def (run_with own first new) false picked event is selected empty)

-- ---- what follows

-- what a run that goes on leads to
pub record IsFollowed (def : Def) (before : Run) (was_finished : Bool) (after : Run) (finished : Bool) : Type 0 where
  pub leads : (result : Stepped Ended) → Follows def after finished result → Follows def before was_finished result
  pub output : HasOutput def after finished
  pub begun : HasBegun def.tree after.own
  pub within : length after.read ≤ MAX_MICROSTEPS
  pub keeps : KeepsAllowed def before after

pub followed_start : (def : Def) (run : Run) (finished : Bool) → HasOutput def run finished → HasBegun def.tree run.own
    → length run.read ≤ MAX_MICROSTEPS → IsFollowed def run finished run finished
followed_start def run finished output begun within = record {
  leads = λ result comes. comes;
  output = output;
  begun = begun;
  within = within;
  keeps = λ actors own formed allowed. allowed;
}

-- what a run that isn't done leads to
pub follows_open : (def : Def) (run : Run) (finished : Bool) → finished ≡ false → (result : Stepped Ended) → Runs def run result → Follows def run finished result
follows_open def run false is result comes = comes
follows_open def run true is result comes = grind (arith, is)

-- what a run that is done leads to
pub follows_done : (def : Def) (run : Run) (finished : Bool) → finished ≡ true → (output : Value)
    → machine_output def run.own.nodes run.event (progress_of run.own) ≡ Ok output → Follows def run finished (Ok (record { run = run; end = end.Done output }))
follows_done def run false is output gave = grind (arith, is)
follows_done def run true is output gave = (output, gave, refl)

-- a microstep more
pub followed_more : (def : Def) (before old mid after : Run) (was_finished old_finished finished : Bool) (picked : Picked) → old_finished ≡ false
    → IsFollowed def before was_finished old old_finished → GoesOn def old picked mid → IsMade def (transitions_at def picked) mid finished after
    → IsFollowed def before was_finished after finished
followed_more def before old mid after was_finished old_finished finished picked is followed on made = record {
  leads = λ result comes. followed.leads result (follows_open def old old_finished is result (on.leads result (made.leads result comes)));
  output = made.output;
  begun = made.begun;
  within = made.within;
  keeps = λ actors own formed allowed. made.keeps actors own formed (on.keeps actors own formed (followed.keeps actors own formed allowed));
}

-- ---- ends

-- what leads to what comes of another run
pub settles_by : (P Q : Stepped Ended → Type 0) → ((ended : Stepped Ended) → P ended → Q ended) → (result : Result Outcome StepFault)
    → Settles P result → Settles Q result
settles_by P Q leads (Ok outcome) settles = (settles.0, leads _ settles.1, settles.2)
settles_by P Q leads (Err (Fault name)) settles = leads _ settles
settles_by P Q leads (Err Memory) settles = tt

pub allowed_by : (def : Def) (before after : Run) → KeepsAllowed def before after → (outcome : Outcome)
    → IsAllowedEnd def after outcome → IsAllowedEnd def before outcome
allowed_by def before after keeps outcome ends_so definitions own machine allowed =
    ends_so definitions own machine (keeps (length definitions.actors) own machine.well_formed allowed)

-- a run at rest
pub rest_settles : (def : Def) (before old after : Run) (was_finished finished : Bool) → finished ≡ false
    → IsFollowed def before was_finished old finished → ComesToRest def old after
    → (outcome : Outcome) → outcome ≡ ran_outcome (record { run = after; end = end.Active }) → Settles (Follows def before was_finished) (Ok outcome)
rest_settles def before old after was_finished finished is followed rest outcome outcome_is =
    (record { run = after; end = end.Active }, followed.leads _ (follows_open def old finished is _ rest.rests), outcome_is)

pub rest_allowed : (def : Def) (before old after : Run) (was_finished finished : Bool)
    → IsFollowed def before was_finished old finished → ComesToRest def old after
    → (outcome : Outcome) → outcome ≡ ran_outcome (record { run = after; end = end.Active }) → IsAllowedEnd def before outcome
rest_allowed def before old after was_finished finished followed rest outcome outcome_is definitions own machine allowed =
    let Fits : Outcome → Type 0 = λ o. IsAllowedOutcome definitions own o in
    subst Fits (sym outcome_is) (through definitions def own after end.Active machine
    (rest.keeps (length definitions.actors) own machine.well_formed (followed.keeps (length definitions.actors) own machine.well_formed allowed)))

-- what is short by a test
short_by : (x : Value) (test : Bool) (y : Value) → is_short x ≡ test → gives y ≡ (if test then Ok x else Err name_of.TooLarge) → is_short y ≡ true
short_by x true y is given = ap is_short (ok_same y x given) ∙ is
short_by x false y is given = grind (arith, given)

-- an output is short
output_short : (def : Def) (nodes : List ℕ) (event : Value) (own : Own) (output : Value)
    → machine_output def nodes event (progress_of own) ≡ Ok output → is_short output ≡ true
output_short def nodes event own output given =
    let root = both_gave (root_done def nodes event (progress_of own)) (λ done. short_in (plain_scope done (progress_of own)) def.output) output given in
    let value = both_gave (value_in (plain_scope root.0 (progress_of own)) def.output) (λ x. if is_short x then Ok x else Err name_of.TooLarge) output root.2 in
    short_by value.0 (is_short value.0) output refl (sym value.2)

-- what was given, where the event read is the run's
given_now : (def : Def) (run : Run) (event : Value) (given : Stepped Value) → event ≡ run.event
    → given ≡ machine_output def run.own.nodes event (progress_of run.own) → given ≡ machine_output def run.own.nodes run.event (progress_of run.own)
given_now def run event given is gave = gave ∙ ap (λ (event : Value). machine_output def run.own.nodes event (progress_of run.own)) is

pub done_settles : (def : Def) (before after : Run) (was_finished finished : Bool) (output event : Value) → finished ≡ true
    → IsFollowed def before was_finished after finished → event ≡ after.event
    → Ok output ≡ machine_output def after.own.nodes event (progress_of after.own)
    → (outcome : Outcome) → outcome ≡ ran_outcome (record { run = after; end = end.Done output }) → Settles (Follows def before was_finished) (Ok outcome)
done_settles def before after was_finished finished output event is followed event_is given outcome outcome_is =
    (record { run = after; end = end.Done output }, followed.leads _ (follows_done def after finished is output (sym (given_now def after event (Ok output) event_is given))), outcome_is)

pub done_allowed : (def : Def) (before after : Run) (was_finished finished : Bool) (output event : Value)
    → IsFollowed def before was_finished after finished → event ≡ after.event
    → Ok output ≡ machine_output def after.own.nodes event (progress_of after.own)
    → (outcome : Outcome) → outcome ≡ ran_outcome (record { run = after; end = end.Done output }) → IsAllowedEnd def before outcome
done_allowed def before after was_finished finished output event followed event_is given outcome outcome_is definitions own machine allowed =
    let Fits : Outcome → Type 0 = λ o. IsAllowedOutcome definitions own o in
    subst Fits (sym outcome_is) (
      through definitions def own after (end.Done output) machine (followed.keeps (length definitions.actors) own machine.well_formed allowed),
      output_short def after.own.nodes after.event after.own output (sym (given_now def after event (Ok output) event_is given)),
    )

never_both : (name : FaultName) (output : Value) → refuses {X = Value} name ≡ gives output → ⊥
never_both name output is = grind (arith, is)

-- a machine that is done has no fault at its output
pub output_fault : (def : Def) (before after : Run) (was_finished finished : Bool) (fault : StepFault) (event : Value) → finished ≡ true
    → IsFollowed def before was_finished after finished → event ≡ after.event
    → IsAnswered (λ (given : Stepped Value). given ≡ machine_output def after.own.nodes event (progress_of after.own)) (Err fault)
    → MayFail (Follows def before was_finished) fault
output_fault def before after was_finished finished (Fault name) event is followed event_is given =
    let gave = followed.output is in
    absurd (never_both name gave.0 (given_now def after event (Err name) event_is given ∙ gave.1))
output_fault def before after was_finished finished Memory event is followed event_is given = tt

-- ---- an event is taken

pub start_within : (own : Own) (event : Value) (trail : Trail) → run_with own event trail ≡ run_of own event → length trail.read.items ≤ MAX_MICROSTEPS
start_within own event trail is =
    let Within : Run → Type 0 = λ r. length r.read ≤ MAX_MICROSTEPS in
    let first : Within (run_of own event) = omega arith in
    subst Within (sym is) first

pub take_none : (def : Def) (own : Own) (event : Value) (trail : Trail) (picked : Picked) → run_with own event trail ≡ run_of own event
    → IsSelected (looking_at def own event false) (Ok picked) → (length picked.taken == 0) ≡ true → (result : Result Outcome StepFault)
    → Settles (Runs def (run_with own event trail)) result → Settles (Takes def (run_of own event)) result
take_none def own event trail picked is selected empty result settles =
    let chosen = none_now def (run_of own event) false picked event refl selected empty in
    settles_by (Runs def (run_with own event trail)) (Takes def (run_of own event))
    (λ ended comes. let Comes : Run → Type 0 = λ r. Runs def r ended in none chosen (subst Comes is comes)) result settles

pub take_fault : (def : Def) (own : Own) (event : Value) (trail : Trail) (picked : Picked) (fault : StepFault) → run_with own event trail ≡ run_of own event
    → IsSelected (looking_at def own event false) (Ok picked) → (length picked.taken == 0) ≡ false
    → MayFail (Makes def (run_with own event trail) (transitions_at def picked)) fault → MayFail (Takes def (run_of own event)) fault
take_fault def own event trail picked (Fault name) is selected some_taken failing =
    let Comes : Run → Type 0 = λ r. Makes def r (transitions_at def picked) (Err name) in
    let now = selected_now def (run_of own event) false picked event refl selected in
    event_made def (run_of own event) picked now.0 now.1 some_taken (Err name) (subst Comes is failing)
take_fault def own event trail picked Memory is selected some_taken failing = tt

pub take_some : (def : Def) (own : Own) (event : Value) (trail : Trail) (picked : Picked) (after : Run) (finished : Bool)
    → run_with own event trail ≡ run_of own event
    → IsSelected (looking_at def own event false) (Ok picked) → (length picked.taken == 0) ≡ false
    → IsMade def (transitions_at def picked) (run_with own event trail) finished after → (result : Result Outcome StepFault)
    → Settles (Follows def after finished) result → Settles (Takes def (run_of own event)) result
take_some def own event trail picked after finished is selected some_taken made result settles =
    let now = selected_now def (run_of own event) false picked event refl selected in
    settles_by (Follows def after finished) (Takes def (run_of own event))
    (λ ended comes. let Comes : Run → Type 0 = λ r. Makes def r (transitions_at def picked) ended in
    event_made def (run_of own event) picked now.0 now.1 some_taken ended (subst Comes is (made.leads ended comes))) result settles

pub start_allowed : (def : Def) (before after : Run) (result : Result Outcome StepFault) → after ≡ before
    → IfOk result (IsAllowedEnd def after) → IfOk result (IsAllowedEnd def before)
start_allowed def before after result is allowed =
    let Allowed : Run → Type 0 = λ r. IfOk result (IsAllowedEnd def r) in subst Allowed is allowed

pub made_allowed : (def : Def) (before after : Run) (result : Result Outcome StepFault) → KeepsAllowed def before after
    → IfOk result (IsAllowedEnd def after) → IfOk result (IsAllowedEnd def before)
made_allowed def before after (Ok outcome) keeps allowed = allowed_by def before after keeps outcome allowed
made_allowed def before after (Err fault) keeps allowed = tt

pub rest_begun : (def : Def) (before old after : Run) (was_finished finished : Bool) → IsFollowed def before was_finished old finished
    → ComesToRest def old after → (outcome : Outcome) → outcome ≡ ran_outcome (record { run = after; end = end.Active }) → HasBegun def.tree outcome.own
rest_begun def before old after was_finished finished followed rest outcome outcome_is =
    let Begun : Own → Type 0 = λ own. HasBegun def.tree own in
    subst Begun (sym (ap (λ (o : Outcome). o.own) outcome_is ∙ rest.own)) followed.begun

pub done_begun : (def : Def) (before after : Run) (was_finished finished : Bool) (output : Value) → IsFollowed def before was_finished after finished
    → (outcome : Outcome) → outcome ≡ ran_outcome (record { run = after; end = end.Done output }) → HasBegun def.tree outcome.own
done_begun def before after was_finished finished output followed outcome outcome_is =
    let Begun : Own → Type 0 = λ own. HasBegun def.tree own in
    subst Begun (sym (ap (λ (o : Outcome). o.own) outcome_is)) followed.begun
