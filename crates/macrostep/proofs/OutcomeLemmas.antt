-- The outcomes of runs, and of what ends an actor in error.
use Rattle.std.proofs.Common.{if◌then◌else◌, ◌≡◌, ◌==◌, ◌&&◌, ◌<◌, ◌≤◌, ◌+◌, ℕ, Bool, true, false, List, [], ◌∷◌, ◌++◌, Option, None, Some, Result, Ok, Err, MatchResult, IfOk, IsTrue, codes, length, nat_eq, take, unwrap_or, refl, sym, ap, subst, ◌∙◌, arith}
use Rattle.std.specs.Cmp.Lexicographic.{pointwise}
use Rattle.std.specs.List.{items_where_true, starts_with, AllZip, Contains}
use Rattle.std.specs.Option.{option_map_or}
use Rattle.xs_model.specs.declared.env.EvalFault.{EvalFault}
use Rattle.xs_model.specs.declared.value.Value.{Value}
use Rattle.xs_model.specs.declared.value.Value.TheVariants as value
use Rattle.xs_model.specs.Rising.{put}
use Rattle.step_sets.specs.Preemption.{KeepsUnpreempted}
use Rattle.guard_eval.specs.declared.def.Def.{Def}
use Rattle.guard_eval.specs.Definitions.{IsWellFormed}
use Rattle.office_types.specs.declared.limits.TheConstants.{MAX_MICROSTEPS}
use Rattle.office_types.specs.declared.outcome.End.TheVariants as end
use Rattle.office_types.specs.declared.outcome.FaultName.{FaultName}
use Rattle.office_types.specs.declared.outcome.FaultName.TheVariants as name_of
use Rattle.office_types.specs.declared.outcome.Outcome.{Outcome}
use Rattle.office_types.specs.declared.outcome.Own.{Own}
use Rattle.office_types.specs.Effects.{fresh_own}
use Rattle.office_types.specs.Events.{event_type, fault_error, init_event, is_reserved, under}
use Rattle.office_types.specs.Limits.{has_limits, is_event, is_short, is_short_under}
use Rattle.office_types.specs.OwnParts.{HasBegun}
use Rattle.microstep.specs.declared.micro.Micro.{Micro}
use Rattle.microstep.specs.declared.micro.StepFault.{StepFault}
use Rattle.microstep.specs.declared.micro.StepFault.TheVariants.{Fault, Memory}
use Rattle.microstep.specs.Micro.{IsFirstMicrostep}
use Rattle.microstep.specs.Taking.{IsAnswered, LeavesAllowed}
use Rattle.microstep.specs.Selected.{IsFaultOf}
use Rattle.microstep.specs.Selection.{fault, taken, HasNoFault, IsSelection, Looking, Place, Selects}
use Rattle.macrostep.specs.declared.limits.TheConstants.{MAX_ACTIONS}
use Rattle.macrostep.specs.declared.trail.Made.{Made}
use Rattle.macrostep.specs.declared.trail.Trail.{Trail}
use Rattle.macrostep.specs.Allowed.{IsAllowedEnd, IsAllowedFor, IsAllowedRun}
use Rattle.macrostep.specs.Macro.{acts_too_many, fails, faults, handled, unhandled, IsFirstMacrostep, IsMacrostep, Run, Takes, child_error, error_outcome, is_child_error, outcome_of, run_of, with_micro}
use Rattle.macrostep.specs.Trails.{Follows, HasOutput, IsActionTooMany, IsAdded, IsFirstOutcome, IsOutcome, IsUnhandled, MayFail, Settles, looking_at, run_with}
use Rattle.macrostep.proofs.AllowedLemmas.{allowed_first, allowed_start}
use Rattle.macrostep.proofs.ShortLemmas.{fault_short, null_short}
use Rattle.macrostep.proofs.RunLemmas.{first_microstep_output, goes_from, output_from}

-- ---- a selection of some transitions, and one of none

abbrev selected : List Place → Result (List Place) EvalFault
selected places = Ok places

same_places : (xs ys : List Place) → selected xs ≡ selected ys → xs ≡ ys
same_places xs ys is = grind (arith, is)

places_of : (looking : Looking) (result : Result (List Place) EvalFault) (places : List Place) → Selects looking result → result ≡ selected places
    → HasNoFault looking × IsSelection looking places
places_of looking result places (fault at last) is = grind (arith, is)
places_of looking result places (taken {taken = others} fine selection) is =
    let Selected : List Place → Type 0 = λ places. IsSelection looking places in
    (fine, subst Selected (same_places others places is) selection)

-- the first of those that are picked stays
first_stays : (P : Place → List ℕ → Type 0) (picked : List Place) (exits : List (List ℕ)) (flags : List Bool) → AllZip P picked exits
    → KeepsUnpreempted exits flags → [] ≡ items_where_true flags picked → (place : Place) → Contains picked place → ⊥
first_stays P [] exits flags zipped keeps none place has = omega (arith, has.1)
first_stays P (q ∷ qs) [] flags zipped keeps none place has = zipped
first_stays P (q ∷ qs) (e ∷ es) [] zipped keeps none place has = let each = keeps.each in grind (arith, each)
first_stays P (q ∷ qs) (e ∷ es) (true ∷ fs) zipped keeps none place has = grind (arith, none)
first_stays P (q ∷ qs) (e ∷ es) (false ∷ fs) zipped keeps none place has =
    let before = keeps.cases 0 (omega arith) in omega (arith, before.1)

never_empty : (places : List Place) → places ≡ [] → (length places == 0) ≡ false → ⊥
never_empty [] is some_taken = grind (arith, some_taken)
never_empty (place ∷ places) is some_taken = grind (arith, is)

never_some : (place : Place) (places : List Place) → true ≡ (length (place ∷ places) == 0) → ⊥
never_some place places is = grind (arith, is)

none_taken : (flags : List Bool) (places : List Place) → places ≡ items_where_true flags [] → (length places == 0) ≡ false → ⊥
none_taken [] places is some_taken = never_empty places is some_taken
none_taken (f ∷ fs) places is some_taken = never_empty places is some_taken

-- what is taken was picked
some_picked : (flags : List Bool) (picked kept : List Place) → kept ≡ items_where_true flags picked → (length kept == 0) ≡ false
    → (place : Place) × Contains picked place
some_picked flags [] kept is some_taken = absurd (none_taken flags kept is some_taken)
some_picked flags (place ∷ places) kept is some_taken = (place, (0, omega arith, refl))

pub some_not_none : (looking : Looking) (places : List Place) → Selects looking (Ok places) → (length places == 0) ≡ false → Selects looking (Ok []) → ⊥
some_not_none looking places some_selected some_taken none_selected =
    let some = (places_of looking (Ok places) places some_selected refl).1 in
    let none = (places_of looking (Ok []) [] none_selected refl).1 in
    let place = some_picked some.flags some.picked places some.taken_are some_taken in
    first_stays _ none.picked none.exits none.flags none.exit_sets none.stays none.taken_are place.0
    ((none.picks.each place.0).1 ((some.picks.each place.0).0 place.1))

fault_at : (looking : Looking) (result : Result (List Place) EvalFault) (name : EvalFault) → Selects looking result → result ≡ Err name
    → HasNoFault looking → ⊥
fault_at looking result name (fault {fault = other} {n = n} at last) is fine = fine n other at
fault_at looking result name (taken none selection) is fine = grind (arith, is)

pub fault_not_none : (looking : Looking) (name : EvalFault) → Selects looking (Err name) → Selects looking (Ok []) → ⊥
fault_not_none looking name faulty none_selected = fault_at looking (Err name) name faulty refl ((places_of looking (Ok []) [] none_selected refl).0)

-- whether nothing was selected for an event that tells of a child's error
pub unhandled_by : (def : Def) (own : Own) (event : Value) (places : List Place) (empty : Bool) → is_child_error event ≡ true
    → Selects (looking_at def own event false) (Ok places) → empty ≡ (length places == 0) → IsUnhandled def own event empty
unhandled_by def own event [] true child selects is = (child, selects)
unhandled_by def own event (place ∷ places) true child selects is = absurd (never_some place places is)
unhandled_by def own event places false child selects is = λ _ none. some_not_none (looking_at def own event false) places selects (sym is) none

-- ---- errors are short

both_true : (a b : Bool) → (a && b) ≡ true → (a ≡ true) × (b ≡ true)
both_true true b is = (refl, is)
both_true false b is = grind (arith, is)

-- what begins with a text begins with the front of that text
front_starts : (front back text : List ℕ) → pointwise nat_eq (front ++ back) (take (length (front ++ back)) text) ≡ true
    → pointwise nat_eq front (take (length front) text) ≡ true
front_starts [] back text is = refl
front_starts (x ∷ front) back [] is = is
front_starts (x ∷ front) back (y ∷ text) is =
    let both = both_true (nat_eq x y) (pointwise nat_eq (front ++ back) (take (length (front ++ back)) text)) is in
    let rest = front_starts front back text both.1 in
    grind (arith, both.0, rest)

-- the type of a child's error is one of the office's own
child_error_reserved : (type : List ℕ) → starts_with nat_eq type (codes "xstate.error.actor.") ≡ true → is_reserved type ≡ true
child_error_reserved type starts = front_starts (codes "xstate.") (codes "error.actor.") type starts

short_or_null : (found : Option Value) → option_map_or is_short found true ≡ true → is_short (unwrap_or found value.Null) ≡ true
short_or_null None short = null_short
short_or_null (Some error) short = short

short_limits : (event : Value) (type : List ℕ) → is_reserved type ≡ true → has_limits event type ≡ true → is_short (child_error event) ≡ true
short_limits event type reserved limits =
    let Limits : Bool → Type 0 = λ b. (if b then (is_short_under (codes "input") event && (is_short_under (codes "output") event && is_short_under (codes "error") event)) else is_short event) ≡ true in
    let all : Limits true = subst Limits reserved limits in
    short_or_null (under (codes "error") event)
    ((both_true (is_short_under (codes "output") event) (is_short_under (codes "error") event)
    ((both_true (is_short_under (codes "input") event) (is_short_under (codes "output") event && is_short_under (codes "error") event) all).1)).1)

short_by_type : (event : Value) (type : Option (List ℕ)) → option_map_or (has_limits event) type false ≡ true
    → starts_with nat_eq (unwrap_or type []) (codes "xstate.error.actor.") ≡ true → is_short (child_error event) ≡ true
short_by_type event None limits child = grind (arith, limits)
short_by_type event (Some type) limits child = short_limits event type (child_error_reserved type child) limits

pub child_error_short : (event : Value) → is_event event ≡ true → is_child_error event ≡ true → is_short (child_error event) ≡ true
child_error_short event limits child = short_by_type event (event_type event) limits child

-- ---- outcomes

-- the actor ends in error, as the rules allow
pub error_allowed : (def : Def) (own : Own) (error : Value) → is_short error ≡ true → IsAllowedFor def own (error_outcome own error)
error_allowed def own error short definitions machine =
    (record { own_part = refl; effects = refl; micros = refl }, short)

pub unhandled_outcome : (def : Def) (own made : Own) (event error : Value) (outcome : Outcome) → HasBegun def.tree own → IsUnhandled def own event true → made ≡ own
    → error ≡ child_error event → outcome ≡ error_outcome made error → IsOutcome def own event outcome
unhandled_outcome def own made event error outcome begun so made_is error_is outcome_is =
    let Fits : Outcome → Type 0 = λ o. IsOutcome def own event o in
    let is : outcome ≡ error_outcome own (child_error event) = outcome_is ∙ ap (λ (m : Own). error_outcome m error) made_is ∙ ap (error_outcome own) error_is in
    subst Fits (sym is) (record {
      macrostep = unhandled so.0 so.1;
      allowed = λ limits. error_allowed def own (child_error event) (child_error_short event limits so.0);
      begun = begun;
      bounded = omega arith;
    })

-- the fault of a selection is that of the macrostep
pub unhandled_fault : (def : Def) (own : Own) (event : Value) (fault : StepFault) → IsFaultOf (looking_at def own event false) fault
    → MayFail (λ ended. IsMacrostep def own event (outcome_of own ended)) fault
unhandled_fault def own event (Fault name) faulty =
    let Comes : FaultName → Type 0 = λ name. IsMacrostep def own event (outcome_of own (Err name)) in
    subst Comes (sym faulty.2) (handled (λ _ none_selected. fault_not_none (looking_at def own event false) faulty.0 faulty.1 none_selected) (faults faulty.1))
unhandled_fault def own event Memory faulty = tt

taken_outcome : (def : Def) (own : Own) (event : Value) (result : Result Outcome StepFault) → HasBegun def.tree own → IsUnhandled def own event false
    → Settles (Takes def (run_of own event)) result → IfOk result (IsAllowedEnd def (run_of own event))
    → IfOk result (λ (outcome : Outcome). length outcome.micros ≤ MAX_MICROSTEPS)
    → IfOk result (λ (outcome : Outcome). HasBegun def.tree outcome.own)
    → MatchResult result (IsOutcome def own event) (MayFail (λ ended. IsMacrostep def own event (outcome_of own ended)))
taken_outcome def own event (Ok outcome) begun so settles allowed within later = record {
  macrostep = let Fits : Outcome → Type 0 = λ o. IsMacrostep def own event o in subst Fits (sym settles.2) (handled so settles.1);
  allowed = λ limits definitions machine. allowed definitions own machine (allowed_start (length definitions.actors) def own event begun);
  begun = later;
  bounded = within;
}
taken_outcome def own event (Err (Fault name)) begun so settles allowed within later = handled so settles
taken_outcome def own event (Err Memory) begun so settles allowed within later = tt

-- the outcome of an event that is taken by a copy of the own part
pub copy_outcome : (def : Def) (own made : Own) (event : Value) (result : Result Outcome StepFault) → made ≡ own → HasBegun def.tree own
    → IsUnhandled def own event false → Settles (Takes def (run_of made event)) result → IfOk result (IsAllowedEnd def (run_of made event))
    → IfOk result (λ (outcome : Outcome). length outcome.micros ≤ MAX_MICROSTEPS)
    → IfOk result (λ (outcome : Outcome). HasBegun def.tree outcome.own)
    → MatchResult result (IsOutcome def own event) (MayFail (λ ended. IsMacrostep def own event (outcome_of own ended)))
copy_outcome def own made event result is begun so settles allowed within later =
    let Settled : Own → Type 0 = λ o. Settles (Takes def (run_of o event)) result in
    let Allowed : Own → Type 0 = λ o. IfOk result (IsAllowedEnd def (run_of o event)) in
    taken_outcome def own event result begun so (subst Settled is settles) (subst Allowed is allowed) within later

-- ---- the first step

-- the fault of the first microstep
pub first_fault : (def : Def) (number : ℕ) (input event : Value) (fault : StepFault) → event ≡ init_event input
    → IsAnswered {X = Micro} (IsFirstMicrostep def (fresh_own number) event) (Err fault)
    → MayFail (λ ended. IsFirstMacrostep def number input (outcome_of (fresh_own number) ended)) fault
first_fault def number input event (Fault name) is made =
    let Made : Value → Type 0 = λ event. IsFirstMicrostep def (fresh_own number) event (Err name) in
    record { made = Err name; first = subst Made is made; ended = Err name; goes = fails; outcome_is = refl }
first_fault def number input event Memory is made = tt

-- too many actions in the first microstep
pub first_many : (def : Def) (number : ℕ) (input event : Value) (micro : Micro) (trail : Trail) (fault : StepFault) → event ≡ init_event input
    → ((own : Own) (first : Value) → run_with own first trail ≡ run_of own first)
    → IsFirstMicrostep def (fresh_own number) event (Ok micro) → IsActionTooMany (trail.actions + micro.actions) fault
    → MayFail (λ ended. IsFirstMacrostep def number input (outcome_of (fresh_own number) ended)) fault
first_many def number input event micro trail (Fault name) is fresh made many =
    let Made : Value → Type 0 = λ event. IsFirstMicrostep def (fresh_own number) event (Ok micro) in
    let none = ap (λ (r : Run). r.actions) (fresh (fresh_own number) event) in
    let more : MAX_ACTIONS < 0 + micro.actions = omega (arith, none, many.1) in
    let Comes : FaultName → Type 0 = λ name. IsFirstMacrostep def number input (outcome_of (fresh_own number) (Err name)) in
    subst Comes (sym many.0) (record { made = Ok micro; first = subst Made is made; ended = Err name_of.Actions; goes = acts_too_many more; outcome_is = refl })
first_many def number input event micro trail Memory is fresh made many = tt

-- the run after the first microstep
pub record IsFirstRun (def : Def) (number : ℕ) (input : Value) (micro : Micro) (after : Run) (finished : Bool) : Type 0 where
  pub after_is : after ≡ with_micro (run_of (fresh_own number) (init_event input)) micro
  pub finished_is : finished ≡ micro.finished
  pub actions : 0 + micro.actions ≤ MAX_ACTIONS
  pub first : IsFirstMicrostep def (fresh_own number) (init_event input) (Ok micro)
  pub leaves : (actors : ℕ) → IsWellFormed actors def → LeavesAllowed actors def (fresh_own number) micro

pub first_run_of : (def : Def) (number : ℕ) (input event : Value) (micro : Micro) (old new : Trail) (made : Made) → event ≡ init_event input
    → ((own : Own) (first : Value) → run_with own first old ≡ run_of own first) → IsFirstMicrostep def (fresh_own number) event (Ok micro)
    → ((actors : ℕ) → IsWellFormed actors def → LeavesAllowed actors def (fresh_own number) micro) → IsAdded event old micro made new
    → IsFirstRun def number input micro (run_with made.own event new) made.finished
first_run_of def number input event micro old new made is fresh first leaves added =
    let Made : Value → Type 0 = λ event. IsFirstMicrostep def (fresh_own number) event (Ok micro) in
    let none = ap (λ (r : Run). r.actions) (fresh (fresh_own number) event) in
    record {
      after_is = added.run ∙ ap (λ (r : Run). with_micro r micro) (fresh micro.own event) ∙ ap (λ (e : Value). with_micro (run_of micro.own e) micro) is;
      finished_is = added.finished;
      actions = let within = added.within in omega (arith, none, within);
      first = subst Made is first;
      leaves = leaves;
    }

pub first_begun : (def : Def) (number : ℕ) (input : Value) (micro : Micro) (after : Run) (finished : Bool) → (actors : ℕ) × IsWellFormed actors def
    → IsFirstRun def number input micro after finished → HasBegun def.tree after.own
first_begun def number input micro after finished formed first =
    let Begun : Run → Type 0 = λ r. HasBegun def.tree r.own in
    subst Begun (sym first.after_is) ((first.leaves formed.0 formed.1).begun)

pub first_has_output : (def : Def) (number : ℕ) (input : Value) (micro : Micro) (after : Run) (finished : Bool)
    → IsFirstRun def number input micro after finished → HasOutput def after finished
first_has_output def number input micro after finished first =
    output_from def (run_of (fresh_own number) (init_event input)) after micro finished first.after_is first.finished_is
    (first_microstep_output def (fresh_own number) (init_event input) micro first.first)

pub first_within : (def : Def) (number : ℕ) (input : Value) (micro : Micro) (after : Run) (finished : Bool)
    → IsFirstRun def number input micro after finished → length after.read ≤ MAX_MICROSTEPS
first_within def number input micro after finished first =
    let Within : Run → Type 0 = λ r. length r.read ≤ MAX_MICROSTEPS in
    let one : Within (with_micro (run_of (fresh_own number) (init_event input)) micro) = omega arith in
    subst Within (sym first.after_is) one

pub first_outcome : (def : Def) (number : ℕ) (input : Value) (micro : Micro) (after : Run) (finished : Bool)
    → IsFirstRun def number input micro after finished → (result : Result Outcome StepFault) → Settles (Follows def after finished) result
    → IfOk result (IsAllowedEnd def after) → IfOk result (λ (outcome : Outcome). length outcome.micros ≤ MAX_MICROSTEPS)
    → IfOk result (λ (outcome : Outcome). HasBegun def.tree outcome.own)
    → MatchResult result (IsFirstOutcome def number input) (MayFail (λ ended. IsFirstMacrostep def number input (outcome_of (fresh_own number) ended)))
first_outcome def number input micro after finished first (Ok outcome) settles allowed within later = record {
  macrostep = record {
    made = Ok micro;
    first = first.first;
    ended = Ok settles.0;
    goes = goes_from def (run_of (fresh_own number) (init_event input)) after micro finished first.after_is first.finished_is first.actions _ settles.1;
    outcome_is = settles.2;
  };
  allowed = λ definitions machine.
      let Allowed : Run → Type 0 = λ r. IsAllowedRun (length definitions.actors) def (fresh_own number) r in
      allowed definitions (fresh_own number) machine (subst Allowed (sym first.after_is)
      (allowed_first (length definitions.actors) def (fresh_own number) (init_event input) micro (first.leaves (length definitions.actors) machine.well_formed)));
  begun = later;
  bounded = within;
}
first_outcome def number input micro after finished first (Err (Fault name)) settles allowed within later = record {
  made = Ok micro;
  first = first.first;
  ended = Err name;
  goes = goes_from def (run_of (fresh_own number) (init_event input)) after micro finished first.after_is first.finished_is first.actions _ settles;
  outcome_is = refl;
}
first_outcome def number input micro after finished first (Err Memory) settles allowed within later = tt

-- ---- faults as outcomes

pub fault_allowed : (def : Def) (own : Own) (name : FaultName) → IsAllowedFor def own (error_outcome own (fault_error name))
fault_allowed def own name = error_allowed def own (fault_error name) (fault_short name)

pub fault_fits : {E : Type 0} (def : Def) (own made : Own) (name : FaultName) (result : Result Outcome E) → made ≡ own
    → IfOk result (λ (outcome : Outcome). outcome ≡ error_outcome made (fault_error name)) → IfOk result (λ (outcome : Outcome). IsAllowedFor def own outcome)
fault_fits def own made name (Ok outcome) made_is outcome_is =
    let Fits : Outcome → Type 0 = λ o. IsAllowedFor def own o in
    subst Fits (sym (outcome_is ∙ ap (λ (m : Own). error_outcome m (fault_error name)) made_is)) (fault_allowed def own name)
fault_fits def own made name (Err e) made_is outcome_is = tt

-- the own part of an end in error is as it was
pub fault_begun : {E : Type 0} (def : Def) (own made : Own) (name : FaultName) (result : Result Outcome E) → HasBegun def.tree own → made ≡ own
    → IfOk result (λ (outcome : Outcome). outcome ≡ error_outcome made (fault_error name)) → IfOk result (λ (outcome : Outcome). HasBegun def.tree outcome.own)
fault_begun def own made name (Ok outcome) begun made_is outcome_is =
    let Begun : Own → Type 0 = λ own. HasBegun def.tree own in
    subst Begun (sym (ap (λ (o : Outcome). o.own) outcome_is ∙ made_is)) begun
fault_begun def own made name (Err e) begun made_is outcome_is = tt

never_active : (error : Value) → end.Error error ≡ end.Active → ⊥
never_active error is = grind (arith, is)

-- an end in error isn't active
pub fault_not_active : {E : Type 0} (def : Def) (made : Own) (name : FaultName) (result : Result Outcome E)
    → IfOk result (λ (outcome : Outcome). outcome ≡ error_outcome made (fault_error name))
    → IfOk result (λ (outcome : Outcome). outcome.end ≡ end.Active → HasBegun def.tree outcome.own)
fault_not_active def made name (Ok outcome) outcome_is =
    λ active. absurd (never_active (fault_error name) (sym (ap (λ (o : Outcome). o.end) outcome_is) ∙ active))
fault_not_active def made name (Err e) outcome_is = tt

-- the same, whatever the event is
pub fault_fits_event : {E : Type 0} (def : Def) (own made : Own) (event : Value) (name : FaultName) (result : Result Outcome E) → made ≡ own
    → IfOk result (λ (outcome : Outcome). outcome ≡ error_outcome made (fault_error name))
    → IfOk result (λ (outcome : Outcome). IsTrue (is_event event) → IsAllowedFor def own outcome)
fault_fits_event def own made event name (Ok outcome) made_is outcome_is =
    let Fits : Outcome → Type 0 = λ o. IsAllowedFor def own o in
    λ _. subst Fits (sym (outcome_is ∙ ap (λ (m : Own). error_outcome m (fault_error name)) made_is)) (fault_allowed def own name)
fault_fits_event def own made event name (Err e) made_is outcome_is = tt

-- ---- the event that begins an actor

pub init_members : (input copy : Value) (first second text : List ℕ) (none one both : List (List ℕ × Value)) → none ≡ [] → one ≡ put none first copy
    → both ≡ put one second (value.Text text) → first ≡ codes "input" → copy ≡ input → second ≡ codes "type" → text ≡ codes "xstate.init"
    → value.Map both ≡ init_event input
init_members input copy first second text none one both none_is one_is both_is first_is copy_is second_is text_is =
    let start : List (List ℕ × Value) = (codes "input", input) ∷ [] in
    let one_holds : one ≡ start =
    one_is ∙ ap (λ (m : List (List ℕ × Value)). put m first copy) none_is ∙ ap (λ (k : List ℕ). put {X = Value} [] k copy) first_is
    ∙ ap (λ (v : Value). put [] (codes "input") v) copy_is in
    ap value.Map (both_is ∙ ap (λ (m : List (List ℕ × Value)). put m second (value.Text text)) one_holds
    ∙ ap (λ (k : List ℕ). put start k (value.Text text)) second_is ∙ ap (λ (t : List ℕ). put start (codes "type") (value.Text t)) text_is)
