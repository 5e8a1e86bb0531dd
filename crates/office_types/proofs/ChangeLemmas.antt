-- What every change of an office keeps, where each kind of change does.
use Rattle.std.proofs.Common.{ℕ, Bool, true, false, not, List, [], ◌∷◌}
use Rattle.std.specs.Prelude.{Option, None, Some, Ok, Err, fold, slice_get, if◌then◌else◌, ⊤}
use Rattle.std.specs.Option.{option_map_or}
use Rattle.std.specs.Result.{result_unwrap_or}
use Rattle.xs_model.specs.declared.value.Value.{Value}
use Rattle.office_types.specs.declared.entry.Entry.{Entry}
use Rattle.office_types.specs.declared.entry.Entry.TheVariants.{Decided, Step}
use Rattle.office_types.specs.declared.office.Caller.{Caller}
use Rattle.office_types.specs.declared.office.Item.{Item}
use Rattle.office_types.specs.declared.office.OfficeState.{OfficeState}
use Rattle.office_types.specs.declared.office.Origin.{Origin}
use Rattle.office_types.specs.declared.office.Origin.TheVariants as origin
use Rattle.office_types.specs.declared.office.Timer.{Timer}
use Rattle.office_types.specs.declared.outcome.Effect.{Effect}
use Rattle.office_types.specs.declared.outcome.Effect.TheVariants as effect
use Rattle.office_types.specs.declared.outcome.End.{End}
use Rattle.office_types.specs.declared.outcome.End.TheVariants as end
use Rattle.office_types.specs.declared.outcome.Outcome.{Outcome}
use Rattle.office_types.specs.declared.outcome.Own.{Own}
use Rattle.office_types.specs.declared.outcome.To.{To}
use Rattle.office_types.specs.declared.request.Ask.{Ask}
use Rattle.office_types.specs.declared.request.Ask.TheVariants as ask
use Rattle.office_types.specs.declared.request.Request.{Request}
use Rattle.office_types.specs.Decisions.{Row, after_grant, answer_by, decided, decision_by, refusal, undecided}
use Rattle.office_types.specs.Definitions.{ActorLogic, OfficeDefinitions, machine_named}
use Rattle.office_types.specs.Effects.{after_effect, after_effects, after_schedule, after_send, after_spawn, after_stop, child_named, first_letters, fresh_own, fresh_record, has_actor_room, has_level_below, has_timer_room, is_name_held, timer_now, with_kid, with_logic, with_machine, with_record, without_kid}
use Rattle.office_types.specs.Ends.{after_end, after_failure, after_telling_parent, child_id, done_record, error_record, removed}
use Rattle.office_types.specs.Entries.{Macrostep, after, after_entry, next_outcome}
use Rattle.office_types.specs.Events.{done_event, error_event, fault_error}
use Rattle.office_types.specs.Fitting.{Fitted, ◌>>=◌}
use Rattle.office_types.specs.Mailboxes.{has_letter_room, with_letter, without_head}
use Rattle.office_types.specs.Moment.{after_advance, with_delivery}
use Rattle.office_types.specs.Observation.{is_observed, short_snapshot_event, snapshot_of}
use Rattle.office_types.specs.Receivers.{receiver_of}
use Rattle.office_types.specs.Records.{is_active_machine, parent_actor, with_actor}
use Rattle.office_types.specs.Step.{after_conclusion, after_outcome, or_failure, took, with_entry, with_own}
use Rattle.office_types.specs.Timers.{due_by, not_due}

-- a fact that each kind of change keeps but for the taking of a letter
pub record IsKeptBesideTaking (K : OfficeState → Type 0) : Type 0 where
  pub letter : (state : OfficeState) (from : Origin) (number : ℕ) (event : Value) → K state → K (with_letter state from number event)
  pub timers : (state : OfficeState) (timers' : List Timer) (next : ℕ) → K state → K (record state { timers = timers'; next_timer = next })
  pub own : (state : OfficeState) (number : ℕ) (own' : Own) → K state → K (with_own number own' state)
  pub born : (state : OfficeState) (parent : Option ℕ) (system : Option (List ℕ)) (own' : Option Own) (item : Option Item) → K state → K (with_record state (fresh_record state.next_actor parent system own' item))
  pub kid : (state : OfficeState) (number : ℕ) (id : List ℕ) (child : ℕ) → K state → K (with_actor state number (with_kid id child))
  pub no_kid : (state : OfficeState) (number : ℕ) (id : List ℕ) → K state → K (with_actor state number (without_kid id))
  pub gone : (state : OfficeState) (number : ℕ) → K state → K (removed number state)
  pub done : (state : OfficeState) (number : ℕ) (output : Value) → K state → K (after_end (done_record output) number state)
  pub failed : (state : OfficeState) (number : ℕ) (error : Value) → K state → K (after_end (error_record error) number state)
  pub entry : (state : OfficeState) → K state → K (with_entry state)
  pub moment : (state : OfficeState) (moment' : ℕ) (timers' : List Timer) → K state → K (record state { moment = moment'; timers = timers' })
  pub callers : (state : OfficeState) (callers' : List Caller) → K state → K (record state { callers = callers' })

-- a fact that each kind of change keeps
pub record IsKept (K : OfficeState → Type 0) : Type 0 where
  pub letter : (state : OfficeState) (from : Origin) (number : ℕ) (event : Value) → K state → K (with_letter state from number event)
  pub timers : (state : OfficeState) (timers' : List Timer) (next : ℕ) → K state → K (record state { timers = timers'; next_timer = next })
  pub own : (state : OfficeState) (number : ℕ) (own' : Own) → K state → K (with_own number own' state)
  pub head : (state : OfficeState) (number : ℕ) → K state → K (without_head state number)
  pub born : (state : OfficeState) (parent : Option ℕ) (system : Option (List ℕ)) (own' : Option Own) (item : Option Item) → K state → K (with_record state (fresh_record state.next_actor parent system own' item))
  pub kid : (state : OfficeState) (number : ℕ) (id : List ℕ) (child : ℕ) → K state → K (with_actor state number (with_kid id child))
  pub no_kid : (state : OfficeState) (number : ℕ) (id : List ℕ) → K state → K (with_actor state number (without_kid id))
  pub gone : (state : OfficeState) (number : ℕ) → K state → K (removed number state)
  pub done : (state : OfficeState) (number : ℕ) (output : Value) → K state → K (after_end (done_record output) number state)
  pub failed : (state : OfficeState) (number : ℕ) (error : Value) → K state → K (after_end (error_record error) number state)
  pub entry : (state : OfficeState) → K state → K (with_entry state)
  pub moment : (state : OfficeState) (moment' : ℕ) (timers' : List Timer) → K state → K (record state { moment = moment'; timers = timers' })
  pub callers : (state : OfficeState) (callers' : List Caller) → K state → K (record state { callers = callers' })

-- the office, if there is one, has it
abbrev Holds : (OfficeState → Type 0) → Fitted → Type 0
Holds K (Ok state) = K state
Holds K (Err name) = ⊤

-- what each kind of change keeps is kept beside the taking of a letter
pub beside_taking : (K : OfficeState → Type 0) → IsKept K → IsKeptBesideTaking K
beside_taking K kept = record {
  letter = kept.letter;
  timers = kept.timers;
  own = kept.own;
  born = kept.born;
  kid = kept.kid;
  no_kid = kept.no_kid;
  gone = kept.gone;
  done = kept.done;
  failed = kept.failed;
  entry = kept.entry;
  moment = kept.moment;
  callers = kept.callers;
}

-- and what is kept beside it and by it is kept by each
pub with_taking : (K : OfficeState → Type 0) → IsKeptBesideTaking K → ((state : OfficeState) (number : ℕ) → K state → K (without_head state number)) → IsKept K
with_taking K kept taking = record {
  letter = kept.letter;
  timers = kept.timers;
  own = kept.own;
  head = taking;
  born = kept.born;
  kid = kept.kid;
  no_kid = kept.no_kid;
  gone = kept.gone;
  done = kept.done;
  failed = kept.failed;
  entry = kept.entry;
  moment = kept.moment;
  callers = kept.callers;
}

module _ (K : OfficeState → Type 0) (kept : IsKeptBesideTaking K) where
  holds_option : {X : Type 0} (o : Option X) (f : X → Fitted) (otherwise : Fitted) → ((x : X) → Holds K (f x)) → Holds K otherwise → Holds K (option_map_or f o otherwise)
  holds_option None f otherwise each none = none
  holds_option (Some x) f otherwise each none = each x

  holds_if : (test : Bool) (x y : Fitted) → Holds K x → Holds K y → Holds K (if test then x else y)
  holds_if true x y one other = one
  holds_if false x y one other = other

  holds_then : (x : Fitted) (f : OfficeState → Fitted) → Holds K x → ((state : OfficeState) → K state → Holds K (f state)) → Holds K (x >>= f)
  holds_then (Ok state) f is next = next state is
  holds_then (Err name) f is next = tt

  kept_option : {X : Type 0} (o : Option X) (f : X → OfficeState) (otherwise : OfficeState) → ((x : X) → K (f x)) → K otherwise → K (option_map_or f o otherwise)
  kept_option None f otherwise each none = none
  kept_option (Some x) f otherwise each none = each x

  kept_if : (test : Bool) (x y : OfficeState) → K x → K y → K (if test then x else y)
  kept_if true x y one other = one
  kept_if false x y one other = other

  told : (state : OfficeState) (number : ℕ) (event : List ℕ → Value) → K state → Holds K (after_telling_parent state number event)
  told state number event is =
      holds_option (parent_actor state number) _ (Ok state)
      (λ parent. holds_if (has_letter_room state 1) _ _ (kept.letter state (origin.Actor number) parent (event (child_id state parent number)) is) tt) is

  sent : (number : ℕ) (target : To) (event : Value) (state : OfficeState) → K state → Holds K (after_send number target event state)
  sent number target event state is =
      holds_option (receiver_of state number target) _ (Ok state) (λ receiver. holds_if (has_letter_room state 1) _ _ (kept.letter state (origin.Actor number) receiver event is) tt) is

  scheduled : (number : ℕ) (id : Option (List ℕ)) (delay : ℕ) (target : To) (event : Value) (state : OfficeState) → K state → Holds K (after_schedule number id delay target event state)
  scheduled number id delay target event state is =
      holds_option (receiver_of state number target) _ (Ok state)
      (λ receiver. holds_if (has_timer_room state (timer_now state number id delay event receiver)) _ _ (kept.timers state _ _ is) tt) is

  machine_kept : (state : OfficeState) (from : Origin) (parent : Option ℕ) (machine : ℕ) (input : Value) (system : Option (List ℕ)) → K state → K (with_machine state from parent machine input system)
  machine_kept state from parent machine input system is = kept.letter _ from state.next_actor _ (kept.born state parent system (Some (fresh_own machine)) None is)

  logic_kept : (state : OfficeState) (parent : ℕ) (logic : ActorLogic) (input : Value) (system : Option (List ℕ)) → K state → K (with_logic state parent logic input system)
  logic_kept state parent logic input system is =
      kept_option logic.machine _ _ (λ machine. machine_kept state (origin.Actor parent) (Some parent) machine input system is) (kept.born state (Some parent) system None _ is)

  spawned : (definitions : OfficeDefinitions) (number : ℕ) (id : List ℕ) (src : ℕ) (input : Value) (system : Option (List ℕ)) (state : OfficeState) → K state
      → Holds K (after_spawn definitions number id src input system state)
  spawned definitions number id src input system state is =
      holds_option (slice_get definitions.actors src) _ (Ok state)
      (λ logic. holds_if (is_name_held state system) _ _ tt
      (holds_if (not (has_actor_room state)) _ _ tt
      (holds_if (not (has_letter_room state (first_letters logic))) _ _ tt
      (holds_if (not (has_level_below state number)) _ _ tt (kept.kid _ number id state.next_actor (logic_kept state number logic input system is))))))
      is

  stopped : (number : ℕ) (id : List ℕ) (state : OfficeState) → K state → K (after_stop number id state)
  stopped number id state is = kept_option (child_named state number id) _ state (λ child. kept.no_kid (removed child state) number id (kept.gone state child is)) is

  effect_holds : (definitions : OfficeDefinitions) (number : ℕ) (what : Effect) (state : OfficeState) → K state → Holds K (after_effect definitions number what state)
  effect_holds definitions number (effect.Send target event) state is = sent number target event state is
  effect_holds definitions number (effect.Schedule id delay target event) state is = scheduled number id delay target event state is
  effect_holds definitions number (effect.Cancel id) state is = kept.timers state _ state.next_timer is
  effect_holds definitions number (effect.Spawn id src input system) state is = spawned definitions number id src input system state is
  effect_holds definitions number (effect.Stop id) state is = stopped number id state is

  effects_hold : (definitions : OfficeDefinitions) (number : ℕ) (effects : List Effect) (state : OfficeState) → K state → Holds K (after_effects definitions number effects state)
  unfolding after_effects
  effects_hold definitions number [] state is = is
  effects_hold definitions number (first ∷ others) state is =
      holds_then (after_effect definitions number first state) (after_effects definitions number others) (effect_holds definitions number first state is) (effects_hold definitions number others)

  unwrapped : (x : Fitted) (otherwise : OfficeState) → Holds K x → K otherwise → K (result_unwrap_or x otherwise)
  unwrapped (Ok state) otherwise has is = has
  unwrapped (Err name) otherwise has is = is

  failure_kept : (number : ℕ) (error : Value) (state : OfficeState) → K state → K (after_failure number error state)
  failure_kept number error state is =
      unwrapped (after_telling_parent (after_end (error_record error) number state) number (error_event error)) (after_end (error_record error) number state)
      (told (after_end (error_record error) number state) number (error_event error) (kept.failed state number error is)) (kept.failed state number error is)

  conclusion_holds : (definitions : OfficeDefinitions) (number : ℕ) (own : Own) (end : End) (state : OfficeState) → K state → Holds K (after_conclusion definitions number own end state)
  conclusion_holds definitions number own end.Active state is =
      holds_if (is_observed definitions state number) _ (Ok state) (told state number (short_snapshot_event (snapshot_of definitions own)) is) is
  conclusion_holds definitions number own (end.Done output) state is =
      told (after_end (done_record output) number state) number (done_event output) (kept.done state number output is)
  conclusion_holds definitions number own (end.Error error) state is = failure_kept number error state is

  failure_or : (number : ℕ) (before : OfficeState) (x : Fitted) → K before → Holds K x → K (or_failure number before x)
  failure_or number before (Ok state) is has = has
  failure_or number before (Err name) is has = failure_kept number (fault_error name) before is

  -- what follows the taking of the letter keeps it
  pub rest_keeps : (definitions : OfficeDefinitions) (number : ℕ) (outcome : Outcome) (state : OfficeState) → K (without_head state number) → K (took definitions number outcome state)
  unfolding took
  rest_keeps definitions number outcome state head =
      let taken : OfficeState = without_head state number in
      kept.entry _ (failure_or number taken (after_outcome definitions number outcome taken) head
      (holds_then (after_effects definitions number outcome.effects (with_own number outcome.own taken)) (after_conclusion definitions number outcome.own outcome.end)
      (effects_hold definitions number outcome.effects (with_own number outcome.own taken) (kept.own taken number outcome.own head))
      (conclusion_holds definitions number outcome.own outcome.end)))

  delivered : (timers : List Timer) (state : OfficeState) → K state → K (fold with_delivery state timers)
  delivered [] state is = is
  delivered (timer ∷ timers) state is =
      delivered timers (with_delivery state timer) (kept_if (is_active_machine state timer.target) _ state (kept.letter state (origin.Actor timer.owner) timer.target timer.event is) is)

  grant_keeps : (definitions : OfficeDefinitions) (name : List ℕ) (asked : Ask) (state : OfficeState) → K state → K (after_grant definitions name asked state)
  unfolding after_advance
  grant_keeps definitions name (ask.Start machine system input) state is =
      kept_option (machine_named definitions machine) _ state (λ number. machine_kept state (origin.Caller name) None number input system is) is
  grant_keeps definitions name (ask.Send actor event) state is = kept.letter state (origin.Caller name) actor event is
  grant_keeps definitions name (ask.Resolve item output) state is =
      let over = kept.done state item output is in
      kept_option (parent_actor (after_end (done_record output) item state) item) _ _ (λ parent. kept.letter _ (origin.Actor item) parent _ over) over
  grant_keeps definitions name (ask.Reject item error) state is =
      let over = kept.failed state item error is in
      kept_option (parent_actor (after_end (error_record error) item state) item) _ _ (λ parent. kept.letter _ (origin.Actor item) parent _ over) over
  grant_keeps definitions name (ask.At moment) state is =
      delivered (due_by moment state.timers) (record state { moment = moment; timers = not_due moment state.timers }) (kept.moment state moment (not_due moment state.timers) is)

  -- a decision keeps it
  pub decision_keeps : (definitions : OfficeDefinitions) (state : OfficeState) (request : Request) → K state → K (decided definitions state request).after
  unfolding decided
  decision_keeps definitions state request is = answer (undecided state request) where
    decision : (row : Row) → K (decision_by definitions state request row).after
    decision (Some reply) = kept.entry _ (kept.callers state _ is)
    decision None = kept.entry _ (kept.callers (after_grant definitions request.caller request.ask state) _ (grant_keeps definitions request.caller request.ask state is))

    answer : (row : Row) → K (answer_by definitions state request row).after
    answer (Some reply) = is
    answer None = decision (refusal definitions state request.ask)

module _ (K : OfficeState → Type 0) (kept : IsKept K) where
  -- a step keeps it
  pub took_keeps : (definitions : OfficeDefinitions) (number : ℕ) (outcome : Outcome) (state : OfficeState) → K state → K (took definitions number outcome state)
  took_keeps definitions number outcome state is = rest_keeps K (beside_taking K kept) definitions number outcome state (kept.head state number is)

  -- a decision does
  pub decided_keeps : (definitions : OfficeDefinitions) (state : OfficeState) (request : Request) → K state → K (decided definitions state request).after
  decided_keeps = decision_keeps K (beside_taking K kept)

  -- entries keep it
  pub entries_keep : (definitions : OfficeDefinitions) (macrostep : Macrostep) (entries : List Entry) (state : OfficeState) → K state → K (after definitions macrostep state entries)
  entries_keep definitions macrostep [] state is = is
  entries_keep definitions macrostep (Decided request ∷ entries) state is =
      entries_keep definitions macrostep entries (decided definitions state request).after (decided_keeps definitions state request is)
  entries_keep definitions macrostep (Step number ∷ entries) state is =
      entries_keep definitions macrostep entries (after_entry definitions macrostep state (Step number))
      (kept_option K (beside_taking K kept) (next_outcome macrostep state number) _ state (λ outcome. took_keeps definitions number outcome state is) is)
