-- A decision keeps an office valid.
use Rattle.std.proofs.Common.{◌≡◌, ◌≢◌, inl, inr, ℕ, suc, ◌<◌, ◌≤◌, Bool, true, false, cond, not, ◌&&◌, true≢false, List, [], ◌∷◌, ◌++◌, length, length-append, map, refl, sym, ap, subst, ◌∙◌, arith}
use Rattle.std.specs.Prelude.{Option, None, Some, is_some, filter, fold, nat_le, nat_lt, IsTrue, IfSome, position, if◌then◌else◌}
use Rattle.std.specs.List.{AllByRecursion, position_or_len}
use Rattle.std.specs.Option.{option_and_then, option_map, option_map_or, option_or}
use Rattle.std.specs.Str.{bytes_eq}
use Rattle.std.proofs.lemmas.Bool.{and_parts, cases_Bool, eq-eqb, ltb-true}
use Rattle.xs_model.specs.declared.value.Value.{Value}
use Rattle.office_types.specs.declared.limits.TheConstants.{MAX_ACTIVE_ACTORS, MAX_LETTERS}
use Rattle.office_types.specs.declared.office.ActorRecord.{ActorRecord}
use Rattle.office_types.specs.declared.office.Caller.{Caller}
use Rattle.office_types.specs.declared.office.Letter.{Letter}
use Rattle.office_types.specs.declared.office.OfficeState.{OfficeState}
use Rattle.office_types.specs.declared.office.Origin.{Origin}
use Rattle.office_types.specs.declared.office.Origin.TheVariants as origin
use Rattle.office_types.specs.declared.office.Timer.{Timer}
use Rattle.office_types.specs.declared.request.Ask.{Ask}
use Rattle.office_types.specs.declared.request.Ask.TheVariants as ask
use Rattle.office_types.specs.declared.request.Reply.{Reply}
use Rattle.office_types.specs.declared.request.Word.TheVariants as word
use Rattle.office_types.specs.Decisions.{Row, actor_row, actors_row, after_grant, answer_by, closed_row, decided, decision_by, first_row, grant, item_row, letters_row, machine_row, moment_row, name_row, refusal, reply_with, reserved_row, stopped_row, undecided, with_reply}
use Rattle.office_types.specs.Definitions.{MachineOutline, OfficeDefinitions, machine_named}
use Rattle.office_types.specs.Effects.{fresh_own, fresh_record, has_actor_room, is_name_held, with_machine, with_record}
use Rattle.office_types.specs.Ends.{after_end, subtree_of, done_record, error_record, is_among, letters_to_parent, record_after_end, with_letter_to_parent}
use Rattle.office_types.specs.Events.{done_event, error_event, event_type, init_event, init_type, is_reserved}
use Rattle.office_types.specs.Laws.{DecisionsKeepValidity}
use Rattle.office_types.specs.Limits.{has_limits, is_event, is_name, is_short}
use Rattle.office_types.specs.Mailboxes.{has_letter_room, waiting_letters, with_letter, with_mail}
use Rattle.office_types.specs.Moment.{after_advance, due_letters, with_delivery}
use Rattle.office_types.specs.Records.{is_active, is_active_machine, is_open_item, parent_actor, actor_record}
use Rattle.office_types.specs.Requests.{HasAskForm, IsSystemName}
use Rattle.office_types.specs.SystemNames.{holder_of}
use Rattle.office_types.specs.Timers.{by_due, due_by, insert_by_due, not_due}
use Rattle.office_types.specs.ValidOffice.{IsGiven, IsValidOffice}
use Rattle.office_types.proofs.ValidityListLemmas.{change_at, at_number, at_same, each_filter, each_mono, filter_same, look_map, look_number, look_push, sum_at_le, sum_map_le, sum_push}
use Rattle.office_types.proofs.ValidityTreeLemmas.{among_itself, among_one, all_below, below_found, below_from, given_in, none_from_next, number_of, parent_smaller, parents_smaller, record_in}
use Rattle.office_types.proofs.ValidityStopLemmas.{same_bytes}
use Rattle.office_types.proofs.ValidityPartLemmas.{FitsOrigin, FitsTimer, RecordRules, running, runs_in, runs_from, runs_map}
use Rattle.office_types.proofs.ValidityEndLemmas.{end_cases, mailbox_after, number_after, stays_after}
use Rattle.office_types.proofs.ValidityLemmas.{CallerRules, HasKind, SoundOffice, caller_rules, sound_from, valid_from}
use Rattle.office_types.proofs.ValidityChangeLemmas.{Except, letter_sound, new_letter}
use Rattle.office_types.proofs.ValidityActorLemmas.{end_sound, fewer_timers_sound, moment_sound, start_sound}
use Rattle.office_types.proofs.ValidityEventLemmas.{begins_none, done_begins_none, done_is_event, error_begins_none, error_is_event, init_begins, init_is_event}
use Rattle.office_types.proofs.ValidityKindLemmas.{kind_begins, kind_mail, kind_over, kind_stopped, parent_runs, room_from, room_of, stands_done, stands_error, stands_fresh, told_sound}
use Rattle.office_types.proofs.ValidityCallerLemmas.{both_none, decidable, grant_in_table, not_fails, refusal_in_table, rules_reply, test_fails}

-- ---- the letter that begins an actor

module _ (K : ActorRecord → Type 0) (callers : List Caller) (state : OfficeState) (next : ℕ) (fresh : ActorRecord) (from : Origin) (input : Value) (sound : SoundOffice (Except K next (λ a. a ≡ fresh)) callers state)
    (seen : record_in state.actors next ≡ Some fresh) (active : is_active fresh ≡ true) (own : is_some fresh.own ≡ true) (fits : FitsOrigin state.next_actor from) (short : is_short input ≡ true)
    (room : has_letter_room state 1 ≡ true) (begun : K (with_mail (new_letter state from (init_event input)) fresh)) where
  pub begin_sound : SoundOffice K callers (with_letter state from next (init_event input))
  begin_sound =
      letter_sound (Except K next (λ a. a ≡ fresh)) K callers state from next (init_event input) sound room fits (init_is_event input short) (runs_from state.actors next fresh seen active own)
      (λ a differs kind. kind.other differs)
      (λ a there kind. (
      let same_record : Some fresh ≡ Some a = sym seen ∙ there in
      let same : fresh ≡ a = cc in
      subst (λ (z : ActorRecord). K (with_mail (new_letter state from (init_event input)) z)) same begun))

-- ---- start

position_below : {X : Type 0} (p : X → Bool) (xs : List X) (n : ℕ) → position p xs ≡ Some n → n < length xs
position_below p xs n is = by_test (nat_lt (position_or_len p xs) (length xs)) refl is where
  by_test : (b : Bool) → nat_lt (position_or_len p xs) (length xs) ≡ b → cond b (Some (position_or_len p xs)) None ≡ Some n → n < length xs
  by_test true less is = (let same : position_or_len p xs ≡ n = cc in let below_it = ltb-true (position_or_len p xs) (length xs) less in omega arith)
  by_test false less is = absurd (cc)

unheld_name : (state : OfficeState) (system : Option (List ℕ)) → name_row state system ≡ None → is_name_held state system ≡ false
unheld_name state None is = refl
unheld_name state (Some name) is = by_holder (holder_of name state.names) is where
  by_holder : (o : Option ℕ) → option_map (λ (holder : ℕ). reply_with 409 word.Name holder) o ≡ None → is_some o ≡ false
  by_holder None is = refl
  by_holder (Some n) is = absurd (cc)

room_after_record : (state : OfficeState) (fresh : ActorRecord) → fresh.mailbox ≡ [] → has_letter_room state 1 ≡ true → has_letter_room (with_record state fresh) 1 ≡ true
room_after_record state fresh empty room =
    let rooms = room_of state 1 room in
    let same = sum_push (λ (a : ActorRecord). length a.mailbox) state.actors fresh in
    let none : length fresh.mailbox ≡ 0 = ap length empty in
    room_from (with_record state fresh) 1 (omega (arith, rooms.0)) rooms.1

module _ (definitions : OfficeDefinitions) (callers : List Caller) (state : OfficeState) (sound : SoundOffice (HasKind definitions) callers state) where
  machine_sound : (caller : List ℕ) (machine : ℕ) (input : Value) (system : Option (List ℕ)) → machine < length definitions.machines → IfSome system (λ name. IsTrue (is_name name)) → is_short input ≡ true
      → is_name_held state system ≡ false → has_actor_room state ≡ true → has_letter_room state 1 ≡ true → SoundOffice (HasKind definitions) callers (with_machine state (origin.Caller caller) None machine input system)
  machine_sound caller machine input system below_count named short free room letter_room =
      let next : ℕ = state.next_actor in
      let fresh : ActorRecord = fresh_record next None system (Some (fresh_own machine)) None in
      let seen : record_in (state.actors ++ fresh ∷ []) next ≡ Some fresh =
      look_push number_of state.actors fresh next ∙ ap (λ (o : Option ActorRecord). option_or o (record_in (fresh ∷ []) next)) (none_from_next next state.actors sound.tree next (omega arith))
      ∙ ap (λ (b : Bool). cond b (Some fresh) None) (eq-eqb next next refl) in
      begin_sound (HasKind definitions) callers (with_record state fresh) next fresh (origin.Caller caller) input
      (start_sound (HasKind definitions) callers state fresh sound room free refl refl refl refl (stands_fresh next None system (Some (fresh_own machine)) None named))
      seen refl refl tt short (room_after_record state fresh refl letter_room)
      (kind_begins definitions next None system machine (new_letter (with_record state fresh) (origin.Caller caller) (init_event input)) below_count (init_begins input))

  system_named : (system : Option (List ℕ)) → IfSome system IsSystemName → IfSome system (λ name. IsTrue (is_name name))
  system_named None is = tt
  system_named (Some name) is = is.visible.fits

  start_granted : (caller machine : List ℕ) (system : Option (List ℕ)) (input : Value) → HasAskForm (ask.Start machine system input) → refusal definitions state (ask.Start machine system input) ≡ None
      → SoundOffice (HasKind definitions) callers (after_grant definitions caller (ask.Start machine system input) state)
  start_granted caller machine system input form none =
      let after_machine = both_none (machine_row definitions machine) (first_row (name_row state system ∷ actors_row state ∷ letters_row state 1 ∷ [])) none in
      let after_name = both_none (name_row state system) (first_row (actors_row state ∷ letters_row state 1 ∷ [])) after_machine.1 in
      let after_actors = both_none (actors_row state) (first_row (letters_row state 1 ∷ [])) after_name.1 in
      let after_letters = both_none (letters_row state 1) None after_actors.1 in
      by_machine (machine_named definitions machine) refl (unheld_name state system after_name.0)
      (not_fails (has_actor_room state) (test_fails _ 429 word.Actors MAX_ACTIVE_ACTORS after_actors.0))
      (not_fails (has_letter_room state 1) (test_fails _ 429 word.Letters MAX_LETTERS after_letters.0)) where
        by_machine : (o : Option ℕ) → machine_named definitions machine ≡ o → is_name_held state system ≡ false → has_actor_room state ≡ true → has_letter_room state 1 ≡ true
            → SoundOffice (HasKind definitions) callers (option_map_or (λ (number : ℕ). with_machine state (origin.Caller caller) None number input system) o state)
        by_machine None is free room letter_room = sound
        by_machine (Some number) is free room letter_room =
            machine_sound caller number input system (position_below (λ (outline : MachineOutline). bytes_eq outline.id machine) definitions.machines number is) (system_named system form.1) form.2 free room letter_room

-- ---- send

-- an event that isn't reserved begins no actor
pub unreserved_begins_none : (event : Value) → option_map_or is_reserved (event_type event) false ≡ false → begins_none event
unreserved_begins_none event free = by_type (event_type event) free where
  by_bytes : (type : List ℕ) → is_reserved type ≡ false → (b : Bool) → bytes_eq init_type type ≡ b → b ≡ false
  by_bytes type free true is = absurd (true≢false (ap is_reserved (same_bytes init_type type is) ∙ free))
  by_bytes type free false is = refl

  by_type : (o : Option (List ℕ)) → option_map_or is_reserved o false ≡ false → option_map_or (bytes_eq init_type) o false ≡ false
  by_type None free = refl
  by_type (Some type) free = by_bytes type free (bytes_eq init_type type) refl

-- a short event with a type that isn't reserved is one
short_is_event : (event : Value) → option_map_or is_reserved (event_type event) false ≡ false → is_some (event_type event) ≡ true → is_short event ≡ true → is_event event ≡ true
short_is_event event free typed short = by_type (event_type event) free typed where
  by_type : (o : Option (List ℕ)) → option_map_or is_reserved o false ≡ false → is_some o ≡ true → option_map_or (has_limits event) o false ≡ true
  by_type None free typed = typed
  by_type (Some type) free typed = ap (λ (b : Bool). if b then has_limits event init_type else is_short event) free ∙ short

module _ (definitions : OfficeDefinitions) (callers : List Caller) (state : OfficeState) (sound : SoundOffice (HasKind definitions) callers state) where
  -- a letter that begins none, to an active machine actor
  pub sent_sound : (from : Origin) (n : ℕ) (event : Value) → FitsOrigin state.next_actor from → is_event event ≡ true → begins_none event → runs_in state.actors n ≡ true → has_letter_room state 1 ≡ true
      → SoundOffice (HasKind definitions) callers (with_letter state from n event)
  sent_sound from n event fits is_one none runner room =
      letter_sound (HasKind definitions) (HasKind definitions) callers state from n event sound room fits is_one runner (λ a differs kind. kind)
      (λ a seen kind. (
      let runner_record = running state.actors n runner in
      let same_record : Some runner_record.0 ≡ Some a = sym runner_record.1 ∙ seen in
      let same : runner_record.0 ≡ a = cc in
      kind_mail definitions (new_letter state from event) a none (ap (λ (z : ActorRecord). is_some z.own) (sym same) ∙ runner_record.3) kind))

  send_granted : (caller : List ℕ) (n : ℕ) (event : Value) → HasAskForm (ask.Send n event) → refusal definitions state (ask.Send n event) ≡ None → SoundOffice (HasKind definitions) callers (after_grant definitions caller (ask.Send n event) state)
  send_granted caller n event form none =
      let after_actor = both_none (actor_row state n) (first_row (stopped_row state n ∷ reserved_row n event ∷ letters_row state 1 ∷ [])) none in
      let after_stopped = both_none (stopped_row state n) (first_row (reserved_row n event ∷ letters_row state 1 ∷ [])) after_actor.1 in
      let after_reserved = both_none (reserved_row n event) (first_row (letters_row state 1 ∷ [])) after_stopped.1 in
      let after_letters = both_none (letters_row state 1) None after_reserved.1 in
      let free = test_fails _ 422 word.Reserved n after_reserved.0 in
      sent_sound (origin.Caller caller) n event tt (short_is_event event free form.2 form.1) (unreserved_begins_none event free)
      (not_fails (is_active_machine state n) (test_fails _ 410 word.Stopped n after_stopped.0)) (not_fails (has_letter_room state 1) (test_fails _ 429 word.Letters MAX_LETTERS after_letters.0))

-- ---- resolve, reject

-- ends leave no more letters
pub waiting_after_end : (end : ActorRecord → ActorRecord) (n : ℕ) (state : OfficeState) → ((a : ActorRecord) → (end a).number ≡ a.number) → ((a : ActorRecord) → (end a).mailbox ≡ []) → ((a : ActorRecord) → (end a).system ≡ None)
    → waiting_letters (after_end end n state) ≤ waiting_letters state
unfolding after_end subtree_of
waiting_after_end end n state same_number empty unnamed =
    sum_map_le (λ (a : ActorRecord). length a.mailbox) (record_after_end (all_below state.actors (n ∷ [])) n end) state.actors
    (mailbox_after (all_below state.actors (n ∷ [])) n end same_number empty unnamed (below_found state.actors (n ∷ []) n (among_itself n)))

pub letters_after_end : (end : ActorRecord → ActorRecord) (n : ℕ) (state : OfficeState) → (after_end end n state).next_letter ≡ state.next_letter
unfolding after_end
letters_after_end end n state = refl

pub actors_after_end : (end : ActorRecord → ActorRecord) (n : ℕ) (state : OfficeState) → (after_end end n state).next_actor ≡ state.next_actor
unfolding after_end
actors_after_end end n state = refl

pub parent_after_end : (end : ActorRecord → ActorRecord) (n m : ℕ) (state : OfficeState) → ((a : ActorRecord) → (end a).number ≡ a.number) → ((a : ActorRecord) → (end a).parent ≡ a.parent) → ((a : ActorRecord) → (end a).mailbox ≡ [])
    → ((a : ActorRecord) → (end a).system ≡ None) → parent_actor (after_end end n state) m ≡ parent_actor state m
unfolding after_end subtree_of
parent_after_end end n m state same_number same_parent empty unnamed =
    let gone : List ℕ = all_below state.actors (n ∷ []) in
    ap (option_and_then (λ (a : ActorRecord). a.parent)) (look_map number_of (record_after_end gone n end) (number_after gone n end same_number empty unnamed (below_found state.actors (n ∷ []) n (among_itself n))) state.actors m) ∙ by_record (record_in state.actors m) where
      by_record : (o : Option ActorRecord) → option_and_then (λ (a : ActorRecord). a.parent) (option_map (record_after_end (all_below state.actors (n ∷ [])) n end) o) ≡ option_and_then (λ (a : ActorRecord). a.parent) o
      by_record None = refl
      by_record (Some a) = end_cases (λ (z : ActorRecord). z.parent ≡ a.parent) (all_below state.actors (n ∷ [])) n end a (λ is. same_parent a) (λ other below active. refl) (λ other below ended. refl) (λ other beside. refl)

-- who runs above an actor runs on after its end
pub runs_after_end : (K : ActorRecord → Type 0) (callers : List Caller) (state : OfficeState) → SoundOffice K callers state → (end : ActorRecord → ActorRecord) (n p : ℕ) → ((a : ActorRecord) → (end a).number ≡ a.number)
    → ((a : ActorRecord) → (end a).mailbox ≡ []) → ((a : ActorRecord) → (end a).system ≡ None) → p < n → runs_in state.actors p ≡ true → runs_in (after_end end n state).actors p ≡ true
unfolding after_end subtree_of
runs_after_end K callers state sound end n p same_number empty unnamed less is =
    let gone : List ℕ = all_below state.actors (n ∷ []) in
    let itself : is_among gone n ≡ true = below_found state.actors (n ∷ []) n (among_itself n) in
    let f : ActorRecord → ActorRecord = record_after_end gone n end in
    let beside : is_among gone p ≡ false = elim (cases_Bool (is_among gone p)) [
      | inl among ↦ absurd (
          let from : n ≤ p = below_from state.actors (n ∷ []) n (parents_smaller state.next_actor state.actors sound.tree) (λ m first. (let same : m ≡ n = among_one n m first in omega arith)) p among in
          omega arith)
      | inr none ↦ none
    ] in
    runs_map f state.actors (number_after gone n end same_number empty unnamed itself) p
    (λ a seen active own. (
    let same : f a ≡ a = stays_after gone n end same_number empty unnamed itself a (ap (is_among gone) (look_number number_of state.actors p a seen) ∙ beside) in
    (ap is_active same ∙ active, ap (λ (z : ActorRecord). is_some z.own) same ∙ own))) is

-- an actor ends, and its parent is told
module _ (definitions : OfficeDefinitions) (K : ActorRecord → Type 0) (callers : List Caller) (state : OfficeState) (n : ℕ) (actor : ActorRecord) (end : ActorRecord → ActorRecord) (sound : SoundOffice K callers state)
    (seen : record_in state.actors n ≡ Some actor) (active : is_active actor ≡ true) (same_number : (a : ActorRecord) → (end a).number ≡ a.number) (same_parent : (a : ActorRecord) → (end a).parent ≡ a.parent)
    (same_kids : (a : ActorRecord) → (end a).kids ≡ a.kids) (inactive : (a : ActorRecord) → is_active (end a) ≡ false) (empty : (a : ActorRecord) → (end a).mailbox ≡ []) (unnamed : (a : ActorRecord) → (end a).system ≡ None)
    (stands_end : (a : ActorRecord) → is_active a ≡ true → RecordRules a → RecordRules (end a)) (kind_end : (a : ActorRecord) → a.number ≡ n → K a → HasKind definitions (end a)) (others : (a : ActorRecord) → a.number ≢ n → K a → HasKind definitions a) where
  pub ended_sound : SoundOffice (HasKind definitions) callers (after_end end n state)
  ended_sound =
      end_sound K (HasKind definitions) callers state n end sound same_number same_parent same_kids inactive empty unnamed
      (λ a there stands. (
      let same_record : Some actor ≡ Some a = sym seen ∙ there in
      let same : actor ≡ a = cc in
      stands_end a (ap is_active (sym same) ∙ active) stands))
      (λ a there kind. kind_end a (look_number number_of state.actors n a there) kind)
      (λ a differs is kind. kind_stopped definitions a (others a differs kind)) others

  pub given_after : IsGiven (after_end end n state).next_actor n
  given_after = let given : IsGiven state.next_actor n = given_in state.next_actor state.actors sound.tree n actor seen in (given.0, omega (arith, given.1, actors_after_end end n state))

  pub parent_runs_after : (p : ℕ) → parent_actor (after_end end n state) n ≡ Some p → runs_in (after_end end n state).actors p ≡ true
  parent_runs_after p is =
      let before : parent_actor state n ≡ Some p = sym (parent_after_end end n n state same_number same_parent empty unnamed) ∙ is in
      let own_parent : actor.parent ≡ Some p = ap (option_and_then (λ (a : ActorRecord). a.parent)) (sym seen) ∙ before in
      runs_after_end K callers state sound end n p same_number empty unnamed (parent_smaller state.next_actor state.actors sound.tree n p before)
      (parent_runs definitions K callers state sound n p actor seen active own_parent (λ b there less kind. others b (λ same. (let at_p : b.number ≡ p = look_number number_of state.actors p b there in omega arith)) kind))

  -- the room of a letter stays
  pub room_after_end : has_letter_room state 1 ≡ true → has_letter_room (after_end end n state) 1 ≡ true
  room_after_end room =
      let rooms = room_of state 1 room in
      let fewer = waiting_after_end end n state same_number empty unnamed in
      room_from (after_end end n state) 1 (omega (arith, rooms.0)) (omega (arith, rooms.1, letters_after_end end n state))

module _ (definitions : OfficeDefinitions) (callers : List Caller) (state : OfficeState) (sound : SoundOffice (HasKind definitions) callers state) where
  open_record : (n : ℕ) → is_open_item state n ≡ true → (a : ActorRecord) × (record_in state.actors n ≡ Some a) × (is_active a ≡ true)
  open_record n is = by_record (actor_record state n) refl is where
    by_record : (o : Option ActorRecord) → actor_record state n ≡ o → option_map_or (λ (a : ActorRecord). is_active a && is_some a.item) o false ≡ true → (a : ActorRecord) × (record_in state.actors n ≡ Some a) × (is_active a ≡ true)
    by_record None there is = absurd (true≢false (sym is))
    by_record (Some a) there is = (a, there, (and_parts (is_active a) (is_some a.item) is).0)

  -- where the letters to a parent find room, one does if there is a parent
  parent_room : (n p : ℕ) → has_letter_room state (letters_to_parent state n) ≡ true → parent_actor state n ≡ Some p → has_letter_room state 1 ≡ true
  parent_room n p room is = ap (λ (o : Option ℕ). has_letter_room state (option_map_or (λ (parent : ℕ). 1) o 0)) (sym is) ∙ room

  closed_sound : (n : ℕ) (end : ActorRecord → ActorRecord) (event : List ℕ → Value) → is_open_item state n ≡ true → has_letter_room state (letters_to_parent state n) ≡ true
      → ((a : ActorRecord) → (end a).number ≡ a.number) → ((a : ActorRecord) → (end a).parent ≡ a.parent) → ((a : ActorRecord) → (end a).kids ≡ a.kids) → ((a : ActorRecord) → is_active (end a) ≡ false) → ((a : ActorRecord) → (end a).mailbox ≡ [])
      → ((a : ActorRecord) → (end a).system ≡ None) → ((a : ActorRecord) → is_active a ≡ true → RecordRules a → RecordRules (end a)) → ((a : ActorRecord) → HasKind definitions a → HasKind definitions (end a))
      → ((id : List ℕ) → is_event (event id) ≡ true) → ((id : List ℕ) → begins_none (event id)) → SoundOffice (HasKind definitions) callers (with_letter_to_parent (after_end end n state) n event)
  closed_sound n end event is_open room same_number same_parent same_kids inactive empty unnamed stands_end kind_end fits begins =
      let item = open_record n is_open in
      told_sound definitions callers (after_end end n state) n event
      (ended_sound definitions (HasKind definitions) callers state n item.0 end sound item.1 item.2 same_number same_parent same_kids inactive empty unnamed stands_end (λ a same kind. kind_end a kind) (λ a differs kind. kind))
      (given_after definitions (HasKind definitions) callers state n item.0 end sound item.1 item.2 same_number same_parent same_kids inactive empty unnamed stands_end (λ a same kind. kind_end a kind) (λ a differs kind. kind))
      fits begins
      (parent_runs_after definitions (HasKind definitions) callers state n item.0 end sound item.1 item.2 same_number same_parent same_kids inactive empty unnamed stands_end (λ a same kind. kind_end a kind) (λ a differs kind. kind))
      (λ p is. room_after_end definitions (HasKind definitions) callers state n item.0 end sound item.1 item.2 same_number same_parent same_kids inactive empty unnamed stands_end (λ a same kind. kind_end a kind) (λ a differs kind. kind)
      (parent_room n p room (sym (parent_after_end end n n state same_number same_parent empty unnamed) ∙ is)))

  resolve_granted : (caller : List ℕ) (n : ℕ) (output : Value) → HasAskForm (ask.Resolve n output) → refusal definitions state (ask.Resolve n output) ≡ None → SoundOffice (HasKind definitions) callers (after_grant definitions caller (ask.Resolve n output) state)
  resolve_granted caller n output form none =
      let after_item = both_none (item_row state n) (first_row (closed_row state n ∷ letters_row state (letters_to_parent state n) ∷ [])) none in
      let after_closed = both_none (closed_row state n) (first_row (letters_row state (letters_to_parent state n) ∷ [])) after_item.1 in
      let after_letters = both_none (letters_row state (letters_to_parent state n)) None after_closed.1 in
      closed_sound n (done_record output) (done_event output) (not_fails (is_open_item state n) (test_fails _ 410 word.Closed n after_closed.0))
      (not_fails (has_letter_room state (letters_to_parent state n)) (test_fails _ 429 word.Letters MAX_LETTERS after_letters.0))
      (λ a. refl) (λ a. refl) (λ a. refl) (λ a. refl) (λ a. refl) (λ a. refl) (λ a active stands. stands_done output a active form.1 stands)
      (λ a kind. kind_over definitions a (done_record output a) refl refl refl refl refl refl kind) (λ id. done_is_event output id form.1) (done_begins_none output)

  reject_granted : (caller : List ℕ) (n : ℕ) (error : Value) → HasAskForm (ask.Reject n error) → refusal definitions state (ask.Reject n error) ≡ None → SoundOffice (HasKind definitions) callers (after_grant definitions caller (ask.Reject n error) state)
  reject_granted caller n error form none =
      let after_item = both_none (item_row state n) (first_row (closed_row state n ∷ letters_row state (letters_to_parent state n) ∷ [])) none in
      let after_closed = both_none (closed_row state n) (first_row (letters_row state (letters_to_parent state n) ∷ [])) after_item.1 in
      let after_letters = both_none (letters_row state (letters_to_parent state n)) None after_closed.1 in
      closed_sound n (error_record error) (error_event error) (not_fails (is_open_item state n) (test_fails _ 410 word.Closed n after_closed.0))
      (not_fails (has_letter_room state (letters_to_parent state n)) (test_fails _ 429 word.Letters MAX_LETTERS after_letters.0))
      (λ a. refl) (λ a. refl) (λ a. refl) (λ a. refl) (λ a. refl) (λ a. refl) (λ a active stands. stands_error error a active form.1 stands)
      (λ a kind. kind_over definitions a (error_record error a) refl refl refl refl refl refl kind) (λ id. error_is_event error id form.1) (error_begins_none error)

-- ---- the advance of the moment

each_inserted : (P : Timer → Type 0) (timer : Timer) (timers : List Timer) → P timer → AllByRecursion P timers → AllByRecursion P (insert_by_due timer timers)
each_inserted P timer [] is all = (is, tt)
each_inserted P timer (other ∷ others) is all = by_due_test (each_inserted P timer others is all.1) (nat_le timer.due other.due) where
  by_due_test : AllByRecursion P (insert_by_due timer others) → (b : Bool) → AllByRecursion P (if b then timer ∷ other ∷ others else other ∷ insert_by_due timer others)
  by_due_test rest true = (is, all)
  by_due_test rest false = (all.0, rest)

each_by_due : (P : Timer → Type 0) (timers : List Timer) → AllByRecursion P timers → AllByRecursion P (by_due timers)
each_by_due P [] all = tt
each_by_due P (timer ∷ timers) all = each_inserted P timer (by_due timers) all.0 (each_by_due P timers all.1)

-- what a timer becomes a letter of
record IsDue (next : ℕ) (timer : Timer) : Type 0 where
  owner : IsGiven next timer.owner
  event : is_event timer.event ≡ true
  begins : begins_none timer.event

pub timed_begins_none : (event : Value) → event_type event ≢ Some init_type → begins_none event
timed_begins_none event other = by_type (event_type event) refl where
  by_bytes : (type : List ℕ) → event_type event ≡ Some type → (b : Bool) → bytes_eq init_type type ≡ b → b ≡ false
  by_bytes type typed true is = absurd (other (typed ∙ ap (λ (t : List ℕ). Some t) (sym (same_bytes init_type type is))))
  by_bytes type typed false is = refl

  by_type : (o : Option (List ℕ)) → event_type event ≡ o → option_map_or (bytes_eq init_type) o false ≡ false
  by_type None typed = refl
  by_type (Some type) typed = by_bytes type typed (bytes_eq init_type type) refl

pub runs_mail : (letter : Letter) (actors : List ActorRecord) (n m : ℕ) → runs_in (map (change_at number_of n (with_mail letter)) actors) m ≡ runs_in actors m
runs_mail letter actors n m =
    ap (λ (o : Option ActorRecord). option_map_or (λ (a : ActorRecord). is_active a && is_some a.own) o false) (look_map number_of (change_at number_of n (with_mail letter)) (at_number number_of n (with_mail letter) (λ a. refl)) actors m)
    ∙ by_record (record_in actors m) where
      by_record : (o : Option ActorRecord) → option_map_or (λ (a : ActorRecord). is_active a && is_some a.own) (option_map (change_at number_of n (with_mail letter)) o) false ≡ option_map_or (λ (a : ActorRecord). is_active a && is_some a.own) o false
      by_record None = refl
      by_record (Some a) = at_same number_of (λ (z : ActorRecord). is_active z && is_some z.own) n (with_mail letter) (λ z. refl) a

module _ (definitions : OfficeDefinitions) (callers : List Caller) where
  -- so many of the timers become letters
  abbrev letters_from : OfficeState → List Timer → ℕ
  letters_from state timers = length (filter (λ (timer : Timer). is_active_machine state timer.target) timers)

  delivered : (timers : List Timer) (state : OfficeState) → SoundOffice (HasKind definitions) callers state → AllByRecursion (IsDue state.next_actor) timers → has_letter_room state (letters_from state timers) ≡ true
      → SoundOffice (HasKind definitions) callers (fold with_delivery state timers)
  delivered [] state sound all room = sound
  delivered (timer ∷ timers) state sound all room = by_target (λ after. delivered timers after) (is_active_machine state timer.target) refl room where
    by_target : ((after : OfficeState) → SoundOffice (HasKind definitions) callers after → AllByRecursion (IsDue after.next_actor) timers → has_letter_room after (letters_from after timers) ≡ true → SoundOffice (HasKind definitions) callers (fold with_delivery after timers))
        → (b : Bool) → is_active_machine state timer.target ≡ b
        → has_letter_room state (length (cond b (timer ∷ filter (λ (t : Timer). is_active_machine state t.target) timers) (filter (λ (t : Timer). is_active_machine state t.target) timers))) ≡ true
        → SoundOffice (HasKind definitions) callers (fold with_delivery (if b then with_letter state (origin.Actor timer.owner) timer.target timer.event else state) timers)
    by_target rest false is room = rest state sound all.1 room
    by_target rest true is room =
        let letter : Letter = new_letter state (origin.Actor timer.owner) timer.event in
        let after : OfficeState = with_letter state (origin.Actor timer.owner) timer.target timer.event in
        let rooms = room_of state (suc (letters_from state timers)) room in
        let same : letters_from after timers ≡ letters_from state timers =
        ap length (filter_same (λ (t : Timer). is_active_machine after t.target) (λ (t : Timer). is_active_machine state t.target) timers (λ t. runs_mail letter state.actors timer.target t.target)) in
        let more = sum_at_le number_of (λ (a : ActorRecord). length a.mailbox) 1 timer.target (with_mail letter) state.actors sound.tree.rise (λ a. omega (arith, length-append a.mailbox (letter ∷ []))) in
        rest after
        (sent_sound definitions callers state sound (origin.Actor timer.owner) timer.target timer.event all.0.owner all.0.event all.0.begins is (room_from state 1 (omega (arith, rooms.0)) (omega (arith, rooms.1))))
        all.1 (room_from after (letters_from after timers) (omega (arith, rooms.0)) (omega (arith, rooms.1)))

  module _ (state : OfficeState) (sound : SoundOffice (HasKind definitions) callers state) where
    each_due : (moment : ℕ) → AllByRecursion (IsDue state.next_actor) (due_by moment state.timers)
    each_due moment =
        each_by_due (IsDue state.next_actor) (filter (λ (timer : Timer). nat_le timer.due moment) state.timers)
        (each_filter (IsDue state.next_actor) (λ (timer : Timer). nat_le timer.due moment) state.timers
        (each_mono (FitsTimer state.next_actor state.next_timer state.actors) (IsDue state.next_actor) state.timers
        (λ timer fits. (
        let runner = running state.actors timer.owner fits.owner in
        record { owner = given_in state.next_actor state.actors sound.tree timer.owner runner.0 runner.1; event = fits.event; begins = timed_begins_none timer.event fits.no_init })) sound.parts.timers_fit))

    at_granted : (caller : List ℕ) (moment : ℕ) → HasAskForm (ask.At moment) → refusal definitions state (ask.At moment) ≡ None → SoundOffice (HasKind definitions) callers (after_grant definitions caller (ask.At moment) state)
    unfolding after_advance
    at_granted caller moment form none =
        let after_moment = both_none (moment_row state moment) (first_row (letters_row state (due_letters state moment) ∷ [])) none in
        let after_letters = both_none (letters_row state (due_letters state moment)) None after_moment.1 in
        delivered (due_by moment state.timers) (record state { moment = moment; timers = not_due moment state.timers })
        (moment_sound (HasKind definitions) callers (record state { timers = not_due moment state.timers }) moment form
        (fewer_timers_sound (HasKind definitions) callers state (λ (timer : Timer). not (nat_le timer.due moment)) sound))
        (each_due moment) (not_fails (has_letter_room state (due_letters state moment)) (test_fails _ 429 word.Letters MAX_LETTERS after_letters.0))

    granted : (caller : List ℕ) (asked : Ask) → HasAskForm asked → refusal definitions state asked ≡ None → SoundOffice (HasKind definitions) callers (after_grant definitions caller asked state)
    granted caller (ask.Start machine system input) form none = start_granted definitions callers state sound caller machine system input form none
    granted caller (ask.Send n event) form none = send_granted definitions callers state sound caller n event form none
    granted caller (ask.Resolve n output) form none = resolve_granted definitions callers state sound caller n output form none
    granted caller (ask.Reject n error) form none = reject_granted definitions callers state sound caller n error form none
    granted caller (ask.At moment) form none = at_granted caller moment form none

-- ---- the law

pub decisions_keep_validity : DecisionsKeepValidity
unfolding decided
decisions_keep_validity definitions state request valid is_request = answered (undecided state request) refl where
  decided_one : (row : Row) → refusal definitions state request.ask ≡ row → undecided state request ≡ None → IsValidOffice definitions (decision_by definitions state request row).after
  decided_one (Some refused) is none =
      let room = decidable state request none in
      let sound = sound_from definitions state valid room.entries in
      valid_from definitions state (with_reply request.caller refused state.callers) state.callers
      (rules_reply state request refused room is_request.1.form.caller (refusal_in_table definitions state request.ask refused is) (caller_rules definitions state valid)) sound
  decided_one None is none =
      let room = decidable state request none in
      let sound = sound_from definitions state valid room.entries in
      let reply : Reply = grant state request.ask in
      let after : OfficeState = after_grant definitions request.caller request.ask state in
      let sound_after = granted definitions state.callers state sound request.caller request.ask is_request.1.form.ask is in
      valid_from definitions after (with_reply request.caller reply after.callers) state.callers
      (subst (λ (callers : List Caller). CallerRules (with_reply request.caller reply callers)) (sym sound_after.counts.same_callers)
      (rules_reply state request reply room is_request.1.form.caller (grant_in_table state request.ask) (caller_rules definitions state valid))) sound_after

  answered : (row : Row) → undecided state request ≡ row → IsValidOffice definitions (answer_by definitions state request row).after
  answered (Some reply) is = valid
  answered None is = decided_one (refusal definitions state request.ask) refl is
