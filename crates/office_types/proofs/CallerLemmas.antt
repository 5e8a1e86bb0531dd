-- What entries make of the replies that are kept for callers.
use Rattle.std.proofs.Common.{◌≡◌, ℕ, suc, zero, ◌+◌, ◌-◌, ◌<◌, Bool, true, false, not, List, [], ◌∷◌, ◌++◌, length, refl, sym, ap, subst, ◌∙◌, arith, length-append}
use Rattle.std.specs.Prelude.{Option, None, Some, Ok, Err, find, fold, nat_eq, nat_lt, slice_get, if◌then◌else◌, ⊤}
use Rattle.std.specs.List.{range_with_len}
use Rattle.std.specs.Option.{option_map_or, option_and_then, option_or}
use Rattle.std.specs.Result.{result_unwrap_or}
use Rattle.std.specs.Str.{bytes_eq}
use Rattle.std.proofs.lemmas.Bool.{eqb-true}
use Rattle.ordered_json.proofs.StringLemmas.{is_below}
use Rattle.std.proofs.lemmas.Slice.Eq.{bytes_eq-Decides}
use Rattle.xs_model.specs.declared.value.Value.{Value}
use Rattle.office_types.specs.declared.entry.Entry.{Entry}
use Rattle.office_types.specs.declared.entry.Entry.TheVariants.{Decided, Step}
use Rattle.office_types.specs.declared.office.ActorRecord.{ActorRecord}
use Rattle.office_types.specs.declared.office.Caller.{Caller}
use Rattle.office_types.specs.declared.office.OfficeState.{OfficeState}
use Rattle.office_types.specs.declared.office.Timer.{Timer}
use Rattle.office_types.specs.declared.outcome.Effect.{Effect}
use Rattle.office_types.specs.declared.outcome.Effect.TheVariants as effect
use Rattle.office_types.specs.declared.outcome.End.{End}
use Rattle.office_types.specs.declared.outcome.End.TheVariants as end
use Rattle.office_types.specs.declared.outcome.FaultName.{FaultName}
use Rattle.office_types.specs.declared.outcome.Outcome.{Outcome}
use Rattle.office_types.specs.declared.outcome.Own.{Own}
use Rattle.office_types.specs.declared.outcome.To.{To}
use Rattle.office_types.specs.declared.request.Ask.{Ask}
use Rattle.office_types.specs.declared.request.Ask.TheVariants as ask
use Rattle.office_types.specs.declared.request.Reply.{Reply}
use Rattle.office_types.specs.declared.request.Request.{Request}
use Rattle.office_types.specs.declared.request.Word.{Word}
use Rattle.office_types.specs.declared.request.Word.TheVariants as word
use Rattle.office_types.specs.Decisions.{Row, after_grant, caller_of, callers_row, decided, decision_by, entries_row, first_row, gap_row, grant, next_number, refusal, repeat_row, replies_row, replies_to, row_if, undecided, with_reply}
use Rattle.office_types.specs.Definitions.{OfficeDefinitions, machine_named}
use Rattle.office_types.specs.Effects.{after_effect, after_effects, after_schedule, after_send, after_spawn, after_stop, child_named, has_actor_room, has_level_below, first_letters, is_name_held, timer_now, has_timer_room}
use Rattle.office_types.specs.Ends.{after_end, after_failure, after_telling_parent, done_record, error_record, removed}
use Rattle.office_types.specs.Entries.{AreLegal, Macrostep, after, after_entry, next_outcome}
use Rattle.office_types.specs.Events.{done_event, error_event, fault_error}
use Rattle.office_types.specs.Fitting.{Fitted, ◌>>=◌}
use Rattle.office_types.specs.Laws.{RepeatsGetTheReply, RequestsStandOnce, numbers_of}
use Rattle.office_types.specs.Mailboxes.{has_letter_room, without_head}
use Rattle.office_types.specs.Moment.{after_advance, with_delivery}
use Rattle.office_types.specs.Observation.{is_observed, short_snapshot_event, snapshot_of}
use Rattle.office_types.specs.Receivers.{receiver_of}
use Rattle.office_types.specs.Records.{is_active_machine, parent_actor}
use Rattle.office_types.specs.Step.{after_conclusion, after_outcome, or_failure, took, with_own}
use Rattle.office_types.specs.Timers.{due_by, not_due}

-- ---- a step leaves the callers

-- the office, if there is one, has these callers
abbrev Has : List Caller → Fitted → Type 0
Has callers (Ok state) = state.callers ≡ callers
Has callers (Err name) = ⊤

module _ (callers : List Caller) where
  has_option : {X : Type 0} (o : Option X) (f : X → Fitted) (otherwise : Fitted) → ((x : X) → Has callers (f x)) → Has callers otherwise → Has callers (option_map_or f o otherwise)
  has_option None f otherwise each none = none
  has_option (Some x) f otherwise each none = each x

  has_if : (test : Bool) (x y : Fitted) → Has callers x → Has callers y → Has callers (if test then x else y)
  has_if true x y one other = one
  has_if false x y one other = other

  has_then : (x : Fitted) (f : OfficeState → Fitted) → Has callers x → ((state : OfficeState) → state.callers ≡ callers → Has callers (f state)) → Has callers (x >>= f)
  has_then (Ok state) f is next = next state is
  has_then (Err name) f is next = tt

  -- a letter, if there is room
  has_letter : (state : OfficeState) (posted : Fitted) (name : FaultName) (test : Bool) → state.callers ≡ callers → Has callers posted → Has callers (if test then posted else Err name)
  has_letter state posted name true is has = has
  has_letter state posted name false is has = tt

  told : (state : OfficeState) (number : ℕ) (event : List ℕ → Value) → state.callers ≡ callers → Has callers (after_telling_parent state number event)
  told state number event is = has_option (parent_actor state number) _ (Ok state) (λ parent. has_if (has_letter_room state 1) _ _ is tt) is

  sent : (number : ℕ) (target : To) (event : Value) (state : OfficeState) → state.callers ≡ callers → Has callers (after_send number target event state)
  sent number target event state is = has_option (receiver_of state number target) _ (Ok state) (λ receiver. has_if (has_letter_room state 1) _ _ is tt) is

  scheduled : (number : ℕ) (id : Option (List ℕ)) (delay : ℕ) (target : To) (event : Value) (state : OfficeState) → state.callers ≡ callers → Has callers (after_schedule number id delay target event state)
  scheduled number id delay target event state is =
      has_option (receiver_of state number target) _ (Ok state) (λ receiver. has_if (has_timer_room state (timer_now state number id delay event receiver)) _ _ is tt) is

  option_callers : {X : Type 0} (o : Option X) (f : X → OfficeState) (otherwise : OfficeState) → ((x : X) → (f x).callers ≡ callers) → otherwise.callers ≡ callers → (option_map_or f o otherwise).callers ≡ callers
  option_callers None f otherwise each none = none
  option_callers (Some x) f otherwise each none = each x

  spawned : (definitions : OfficeDefinitions) (number : ℕ) (id : List ℕ) (src : ℕ) (input : Value) (system : Option (List ℕ)) (state : OfficeState) → state.callers ≡ callers
      → Has callers (after_spawn definitions number id src input system state)
  spawned definitions number id src input system state is =
      has_option (slice_get definitions.actors src) _ (Ok state)
      (λ logic. has_if (is_name_held state system) _ _ tt
      (has_if (not (has_actor_room state)) _ _ tt
      (has_if (not (has_letter_room state (first_letters logic))) _ _ tt
      (has_if (not (has_level_below state number)) _ _ tt (option_callers logic.machine _ _ (λ machine. is) is)))))
      is

  stopped : (number : ℕ) (id : List ℕ) (state : OfficeState) → state.callers ≡ callers → (after_stop number id state).callers ≡ callers
  unfolding removed
  stopped number id state is = option_callers (child_named state number id) _ state (λ child. is) is

  effect_has : (definitions : OfficeDefinitions) (number : ℕ) (what : Effect) (state : OfficeState) → state.callers ≡ callers → Has callers (after_effect definitions number what state)
  effect_has definitions number (effect.Send target event) state is = sent number target event state is
  effect_has definitions number (effect.Schedule id delay target event) state is = scheduled number id delay target event state is
  effect_has definitions number (effect.Cancel id) state is = is
  effect_has definitions number (effect.Spawn id src input system) state is = spawned definitions number id src input system state is
  effect_has definitions number (effect.Stop id) state is = stopped number id state is

  effects_have : (definitions : OfficeDefinitions) (number : ℕ) (effects : List Effect) (state : OfficeState) → state.callers ≡ callers → Has callers (after_effects definitions number effects state)
  unfolding after_effects
  effects_have definitions number [] state is = is
  effects_have definitions number (first ∷ others) state is =
      has_then (after_effect definitions number first state) (after_effects definitions number others) (effect_has definitions number first state is) (effects_have definitions number others)

  end_callers : (end : ActorRecord → ActorRecord) (number : ℕ) (state : OfficeState) → state.callers ≡ callers → (after_end end number state).callers ≡ callers
  unfolding after_end
  end_callers end number state is = is

  unwrapped : (x : Fitted) (otherwise : OfficeState) → Has callers x → otherwise.callers ≡ callers → (result_unwrap_or x otherwise).callers ≡ callers
  unwrapped (Ok state) otherwise has is = has
  unwrapped (Err name) otherwise has is = is

  failure_callers : (number : ℕ) (error : Value) (state : OfficeState) → state.callers ≡ callers → (after_failure number error state).callers ≡ callers
  failure_callers number error state is =
      let after = end_callers (error_record error) number state is in
      unwrapped (after_telling_parent (after_end (error_record error) number state) number (error_event error)) (after_end (error_record error) number state)
      (told (after_end (error_record error) number state) number (error_event error) after) after

  conclusion_has : (definitions : OfficeDefinitions) (number : ℕ) (own : Own) (end : End) (state : OfficeState) → state.callers ≡ callers → Has callers (after_conclusion definitions number own end state)
  conclusion_has definitions number own end.Active state is =
      has_if (is_observed definitions state number) _ (Ok state) (told state number (short_snapshot_event (snapshot_of definitions own)) is) is
  conclusion_has definitions number own (end.Done output) state is =
      told (after_end (done_record output) number state) number (done_event output) (end_callers (done_record output) number state is)
  conclusion_has definitions number own (end.Error error) state is = failure_callers number error state is

  failure_or : (number : ℕ) (before : OfficeState) (x : Fitted) → before.callers ≡ callers → Has callers x → (or_failure number before x).callers ≡ callers
  failure_or number before (Ok state) is has = has
  failure_or number before (Err name) is has = failure_callers number (fault_error name) before is

  -- a step leaves the callers as they are
  pub took_callers : (definitions : OfficeDefinitions) (number : ℕ) (outcome : Outcome) (state : OfficeState) → state.callers ≡ callers → (took definitions number outcome state).callers ≡ callers
  unfolding took
  took_callers definitions number outcome state is =
      failure_or number (without_head state number) (after_outcome definitions number outcome (without_head state number)) is
      (has_then (after_effects definitions number outcome.effects (with_own number outcome.own (without_head state number))) (after_conclusion definitions number outcome.own outcome.end)
      (effects_have definitions number outcome.effects (with_own number outcome.own (without_head state number)) is)
      (conclusion_has definitions number outcome.own outcome.end))

  if_callers : (test : Bool) (x y : OfficeState) → x.callers ≡ callers → y.callers ≡ callers → (if test then x else y).callers ≡ callers
  if_callers true x y one other = one
  if_callers false x y one other = other

  delivered : (timers : List Timer) (state : OfficeState) → state.callers ≡ callers → (fold with_delivery state timers).callers ≡ callers
  delivered [] state is = is
  delivered (timer ∷ timers) state is = delivered timers (with_delivery state timer) (if_callers (is_active_machine state timer.target) _ state is is)

  grant_callers : (definitions : OfficeDefinitions) (name : List ℕ) (asked : Ask) (state : OfficeState) → state.callers ≡ callers → (after_grant definitions name asked state).callers ≡ callers
  unfolding after_end after_advance
  grant_callers definitions name (ask.Start machine system input) state is = option_callers (machine_named definitions machine) _ state (λ number. is) is
  grant_callers definitions name (ask.Send actor event) state is = is
  grant_callers definitions name (ask.Resolve item output) state is = option_callers (parent_actor (after_end (done_record output) item state) item) _ _ (λ parent. is) is
  grant_callers definitions name (ask.Reject item error) state is = option_callers (parent_actor (after_end (error_record error) item state) item) _ _ (λ parent. is) is
  grant_callers definitions name (ask.At moment) state is = delivered (due_by moment state.timers) (record state { moment = moment; timers = not_due moment state.timers }) is

-- ---- the replies of a caller

-- the replies that are kept for a caller
abbrev kept_for : List Caller → List ℕ → List Reply
kept_for callers name = option_map_or (λ (caller : Caller). caller.replies) (find (λ (caller : Caller). bytes_eq caller.name name) callers) []

same_name : (name : List ℕ) → bytes_eq name name ≡ true
same_name name = (bytes_eq-Decides name name).1 refl

-- a caller's replies are appended to
kept_more : (callers : List Caller) (name : List ℕ) (reply : Reply) → kept_for (with_reply name reply callers) name ≡ kept_for callers name ++ reply ∷ []
kept_more [] name reply = rw (same_name name) refl
kept_more (caller ∷ callers) name reply = by_name (kept_more callers name reply) (bytes_eq caller.name name) refl where
  by_name : kept_for (with_reply name reply callers) name ≡ kept_for callers name ++ reply ∷ [] → (test : Bool) → bytes_eq caller.name name ≡ test
      → kept_for (with_reply name reply (caller ∷ callers)) name ≡ kept_for (caller ∷ callers) name ++ reply ∷ []
  by_name rest true is = simp is
  by_name rest false is = simp is rest

-- and those of no other
kept_others : (callers : List Caller) (name other : List ℕ) (reply : Reply) → bytes_eq name other ≡ false → kept_for (with_reply name reply callers) other ≡ kept_for callers other
kept_others [] name other reply apart = rw apart refl
kept_others (caller ∷ callers) name other reply apart = by_name (kept_others callers name other reply apart) (bytes_eq caller.name name) refl (bytes_eq caller.name other) refl where
  by_name : kept_for (with_reply name reply callers) other ≡ kept_for callers other → (test : Bool) → bytes_eq caller.name name ≡ test → (test' : Bool) → bytes_eq caller.name other ≡ test'
      → kept_for (with_reply name reply (caller ∷ callers)) other ≡ kept_for (caller ∷ callers) other
  by_name rest true is true is' =
      let same : caller.name ≡ name = (bytes_eq-Decides caller.name name).0 is in
      absurd (let bad : true ≡ false = sym is' ∙ ap (λ (n : List ℕ). bytes_eq n other) same ∙ apart in cc)
  by_name rest true is false is' = simp (is, is')
  by_name rest false is true is' = simp (is, is')
  by_name rest false is false is' = simp (is, is') rest

replies-length : (state : OfficeState) (name : List ℕ) → replies_to state name ≡ length (kept_for state.callers name)
replies-length state name = by_caller (caller_of state name) where
  by_caller : (o : Option Caller) → option_map_or (λ (caller : Caller). length caller.replies) o 0 ≡ length (option_map_or (λ (caller : Caller). caller.replies) o [])
  by_caller None = refl
  by_caller (Some caller) = refl

-- ---- decisions

not_false : (b : Bool) → not b ≡ false → b ≡ true
not_false true h = refl
not_false false h = absurd cc

option_rest : {X : Type 0} (a b : Option X) → option_or a b ≡ None → (a ≡ None) × (b ≡ None)
option_rest None b h = (refl, h)
option_rest (Some x) b h = absurd cc

row_test : (test : Bool) (status : ℕ) (w : Word) (value : ℕ) → row_if test status w value ≡ None → test ≡ false
row_test true status w value h = absurd cc
row_test false status w value h = refl

-- a decided request has its caller's next number
decided_number : (state : OfficeState) (request : Request) → undecided state request ≡ None → request.number ≡ next_number state request.caller
decided_number state request h =
    let rest = option_rest (repeat_row state request) (first_row (gap_row state request ∷ callers_row state request ∷ replies_row state ∷ entries_row state ∷ [])) h in
    let gap = option_rest (gap_row state request) (first_row (callers_row state request ∷ replies_row state ∷ entries_row state ∷ [])) rest.1 in
    let test : not (nat_eq request.number (next_number state request.caller)) ≡ false = row_test (not (nat_eq request.number (next_number state request.caller))) 409 word.Gap (next_number state request.caller) gap.0 in
    eqb-true request.number (next_number state request.caller) (not_false (nat_eq request.number (next_number state request.caller)) test)

-- the callers after a decision: the reply is kept
decision_callers : (definitions : OfficeDefinitions) (state : OfficeState) (request : Request) → undecided state request ≡ None
    → (decided definitions state request).after.callers ≡ with_reply request.caller (decided definitions state request).reply state.callers
unfolding decided
decision_callers definitions state request h = rw h (by_row (refusal definitions state request.ask)) where
  by_row : (row : Row) → (decision_by definitions state request row).after.callers ≡ with_reply request.caller (decision_by definitions state request row).reply state.callers
  by_row (Some reply) = refl
  by_row None = ap (with_reply request.caller (grant state request.ask)) (grant_callers state.callers definitions request.caller request.ask state refl)

module _ (definitions : OfficeDefinitions) (macrostep : Macrostep) where
  entry_callers : (state : OfficeState) (number : ℕ) → (after_entry definitions macrostep state (Step number)).callers ≡ state.callers
  entry_callers state number = option_callers state.callers (next_outcome macrostep state number) _ state (λ outcome. took_callers state.callers definitions number outcome state refl) refl

  -- after the decision on a caller's request its replies are one more
  kept_after_own : (state : OfficeState) (request : Request) → undecided state request ≡ None
      → kept_for (after_entry definitions macrostep state (Decided request)).callers request.caller ≡ kept_for state.callers request.caller ++ (decided definitions state request).reply ∷ []
  kept_after_own state request h =
      ap (λ (callers : List Caller). kept_for callers request.caller) (decision_callers definitions state request h)
      ∙ kept_more state.callers request.caller (decided definitions state request).reply

  kept_after_other : (state : OfficeState) (request : Request) (name : List ℕ) → undecided state request ≡ None → bytes_eq request.caller name ≡ false
      → kept_for (after_entry definitions macrostep state (Decided request)).callers name ≡ kept_for state.callers name
  kept_after_other state request name h apart =
      ap (λ (callers : List Caller). kept_for callers name) (decision_callers definitions state request h)
      ∙ kept_others state.callers request.caller name (decided definitions state request).reply apart

  next_after_own : (state : OfficeState) (request : Request) → undecided state request ≡ None
      → next_number (after_entry definitions macrostep state (Decided request)) request.caller ≡ next_number state request.caller + 1
  next_after_own state request h =
      ap (λ n. n + 1) (replies-length (after_entry definitions macrostep state (Decided request)) request.caller ∙ ap length (kept_after_own state request h)
      ∙ length-append (kept_for state.callers request.caller) ((decided definitions state request).reply ∷ []) ∙ ap (λ n. n + 1) (sym (replies-length state request.caller)))

  next_after_other : (state : OfficeState) (request : Request) (name : List ℕ) → undecided state request ≡ None → bytes_eq request.caller name ≡ false
      → next_number (after_entry definitions macrostep state (Decided request)) name ≡ next_number state name
  next_after_other state request name h apart =
      ap (λ n. n + 1) (replies-length (after_entry definitions macrostep state (Decided request)) name ∙ ap length (kept_after_other state request name h apart) ∙ sym (replies-length state name))

  next_after_step : (state : OfficeState) (number : ℕ) (name : List ℕ) → next_number (after_entry definitions macrostep state (Step number)) name ≡ next_number state name
  next_after_step state number name =
      ap (λ n. n + 1) (replies-length (after_entry definitions macrostep state (Step number)) name
      ∙ ap (λ (callers : List Caller). length (kept_for callers name)) (entry_callers state number) ∙ sym (replies-length state name))

  -- the numbers of a caller's requests are its next ones
  pub numbers_follow : (entries : List Entry) (state : OfficeState) (name : List ℕ) → AreLegal definitions macrostep state entries
      → numbers_of name entries ≡ range_with_len (next_number state name) (length (numbers_of name entries))
  numbers_follow [] state name legal = refl
  numbers_follow (Step number ∷ entries) state name legal =
      numbers_follow entries (after_entry definitions macrostep state (Step number)) name legal.1
      ∙ ap (λ n. range_with_len n (length (numbers_of name entries))) (next_after_step state number name)
  numbers_follow (Decided request ∷ entries) state name legal =
      by_name (numbers_follow entries (after_entry definitions macrostep state (Decided request)) name legal.1) (bytes_eq request.caller name) refl where
        by_name : numbers_of name entries ≡ range_with_len (next_number (after_entry definitions macrostep state (Decided request)) name) (length (numbers_of name entries)) → (test : Bool) → bytes_eq request.caller name ≡ test → numbers_of name (Decided request ∷ entries) ≡ range_with_len (next_number state name) (length (numbers_of name (Decided request ∷ entries)))
        by_name rest true is =
            let same : request.caller ≡ name = (bytes_eq-Decides request.caller name).0 is in
            let first : request.number ≡ next_number state name = decided_number state request legal.0.1 ∙ ap (next_number state) same in
            let next : next_number (after_entry definitions macrostep state (Decided request)) name ≡ next_number state name + 1 =
            subst (λ (n : List ℕ). next_number (after_entry definitions macrostep state (Decided request)) n ≡ next_number state n + 1) same (next_after_own state request legal.0.1) in
            simp is (ap (λ n. n ∷ numbers_of name entries) first
            ∙ ap (λ ns. next_number state name ∷ ns) (rest
            ∙ ap (λ n. range_with_len n (length (numbers_of name entries))) next))
        by_name rest false is =
            simp is (rest
            ∙ ap (λ n. range_with_len n (length (numbers_of name entries))) (next_after_other state request name legal.0.1 is))

pub requests_stand_once : RequestsStandOnce
requests_stand_once definitions macrostep state entries caller legal = numbers_follow definitions macrostep entries state caller legal

-- ---- repeats

-- a reply stands at this place among those of a caller
abbrev Stands : OfficeState → List ℕ → ℕ → Reply → Type 0
Stands state name place reply = slice_get (kept_for state.callers name) place ≡ Some reply

get_front : (xs ys : List Reply) (place : ℕ) (x : Reply) → slice_get xs place ≡ Some x → slice_get (xs ++ ys) place ≡ Some x
get_front [] ys place x is = absurd cc
get_front (y ∷ xs) ys zero x is = is
get_front (y ∷ xs) ys (suc place) x is = get_front xs ys place x is

get_last : (xs : List Reply) (x : Reply) → slice_get (xs ++ x ∷ []) (length xs) ≡ Some x
get_last [] x = refl
get_last (y ∷ xs) x = get_last xs x

module _ (definitions : OfficeDefinitions) (macrostep : Macrostep) where
  stands_on : (entries : List Entry) (state : OfficeState) (name : List ℕ) (place : ℕ) (reply : Reply) → AreLegal definitions macrostep state entries
      → Stands state name place reply → Stands (after definitions macrostep state entries) name place reply
  stands_on [] state name place reply legal stands = stands
  stands_on (Step number ∷ entries) state name place reply legal stands =
      stands_on entries (after_entry definitions macrostep state (Step number)) name place reply legal.1
      (subst (λ (callers : List Caller). slice_get (kept_for callers name) place ≡ Some reply) (sym (entry_callers definitions macrostep state number)) stands)
  stands_on (Decided request ∷ entries) state name place reply legal stands =
      stands_on entries (after_entry definitions macrostep state (Decided request)) name place reply legal.1 (by_name (bytes_eq request.caller name) refl) where
        by_name : (test : Bool) → bytes_eq request.caller name ≡ test → Stands (after_entry definitions macrostep state (Decided request)) name place reply
        by_name true is =
            let same : request.caller ≡ name = (bytes_eq-Decides request.caller name).0 is in
            let more = subst (λ (n : List ℕ). kept_for (after_entry definitions macrostep state (Decided request)).callers n ≡ kept_for state.callers n ++ (decided definitions state request).reply ∷ []) same
            (kept_after_own definitions macrostep state request legal.0.1) in
            ap (λ (replies : List Reply). slice_get replies place) more ∙ get_front (kept_for state.callers name) ((decided definitions state request).reply ∷ []) place reply stands
        by_name false is = ap (λ (replies : List Reply). slice_get replies place) (kept_after_other definitions macrostep state request name legal.0.1 is) ∙ stands

-- what a caller's reply at a place is, is the repeat's row
repeat_is : (state : OfficeState) (request : Request) (reply : Reply) → 0 < request.number → Stands state request.caller (request.number - 1) reply → repeat_row state request ≡ Some reply
repeat_is state request reply some stands = rw positive (by_caller (caller_of state request.caller) stands) where
  positive : nat_lt 0 request.number ≡ true
  positive = is_below 0 request.number some

  by_caller : (o : Option Caller) → slice_get (option_map_or (λ (caller : Caller). caller.replies) o []) (request.number - 1) ≡ Some reply
      → option_and_then (λ (caller : Caller). slice_get caller.replies (request.number - 1)) o ≡ Some reply
  by_caller None is = is
  by_caller (Some caller) is = is

-- a kept reply is the answer, and nothing changes
answered : (definitions : OfficeDefinitions) (state : OfficeState) (request : Request) (reply : Reply) → repeat_row state request ≡ Some reply → decided definitions state request ≡ record { reply = reply; after = state }
unfolding decided
answered definitions state request reply is = rw is refl

pub repeats_get_the_reply : RepeatsGetTheReply
repeats_get_the_reply definitions macrostep state request again entries legal same_caller same_number =
    let number = decided_number state request legal.0.1 in
    let reply = (decided definitions state request).reply in
    let later = after_entry definitions macrostep state (Decided request) in
    let place : request.number - 1 ≡ length (kept_for state.callers request.caller) = omega (arith, number, replies-length state request.caller) in
    let stands : Stands later request.caller (request.number - 1) reply =
    ap (λ (replies : List Reply). slice_get replies (request.number - 1)) (kept_after_own definitions macrostep state request legal.0.1)
    ∙ ap (slice_get (kept_for state.callers request.caller ++ reply ∷ [])) place
    ∙ get_last (kept_for state.callers request.caller) reply in
    let still = stands_on definitions macrostep entries later request.caller (request.number - 1) reply legal.1 stands in
    let own : Stands (after definitions macrostep later entries) again.caller (again.number - 1) reply =
    subst (λ (name : List ℕ). Stands (after definitions macrostep later entries) name (again.number - 1) reply) (sym same_caller)
    (subst (λ n. Stands (after definitions macrostep later entries) request.caller (n - 1) reply) (sym same_number) still) in
    let some : 0 < again.number = omega (arith, number, same_number) in
    answered definitions (after definitions macrostep later entries) again reply (repeat_is (after definitions macrostep later entries) again reply some own)
