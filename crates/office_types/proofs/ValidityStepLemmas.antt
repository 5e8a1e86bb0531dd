-- In the middle of a step: the effects so far leave a valid office, but for the ids of the children in
-- the stepped actor's own part, which are those that the step ends with.
use Rattle.std.proofs.Common.{◌≡◌, ◌≢◌, inl, inr, ℕ, suc, zero, ◌+◌, ◌<◌, ◌≤◌, Bool, true, false, cond, not, ◌||◌, true≢false, List, [], ◌∷◌, ◌++◌, length, map, refl, sym, ap, subst, ◌∙◌, arith}
use Rattle.std.specs.Prelude.{Option, None, Some, is_some, filter, fold, nat_eq, nat_le, nat_lt, IsTrue, IfSome, Ok, Err, slice_get, if◌then◌else◌, ⊤}
use Rattle.std.specs.List.{AllByRecursion, list_any}
use Rattle.std.specs.Map.{lookup}
use Rattle.std.specs.Option.{option_and_then, option_map_or}
use Rattle.std.specs.Str.{bytes_eq}
use Rattle.std.proofs.lemmas.Bool.{and_from, and_parts, cases_Bool, eq-eqb, eqb-true, eqb-false, leb-true, ltb-true, or_parts}
use Rattle.std.proofs.lemmas.List.{map-append}
use Rattle.std.proofs.lemmas.List.Elements.{recursion_from_All}
use Rattle.xs_model.specs.declared.value.Value.{Value}
use Rattle.office_types.specs.declared.limits.TheConstants.{MAX_NEXT_NUMBER, MAX_TIMERS}
use Rattle.office_types.specs.declared.office.ActorRecord.{ActorRecord}
use Rattle.office_types.specs.declared.office.Caller.{Caller}
use Rattle.office_types.specs.declared.office.Item.{Item}
use Rattle.office_types.specs.declared.office.Letter.{Letter}
use Rattle.office_types.specs.declared.office.OfficeState.{OfficeState}
use Rattle.office_types.specs.declared.office.Origin.TheVariants as origin
use Rattle.office_types.specs.declared.office.Timer.{Timer}
use Rattle.office_types.specs.declared.outcome.Effect.{Effect}
use Rattle.office_types.specs.declared.outcome.Effect.TheVariants as effect
use Rattle.office_types.specs.declared.outcome.FaultName.TheVariants.{ActorsFull, LettersFull, NameHeld, TimersFull, TooDeep}
use Rattle.office_types.specs.declared.outcome.Own.{Own}
use Rattle.office_types.specs.declared.outcome.To.{To}
use Rattle.office_types.specs.Definitions.{ActorLogic, AreLinked, OfficeDefinitions}
use Rattle.office_types.specs.Effects.{after_cancel, after_effect, after_effects, after_schedule, after_send, after_spawn, after_stop, child_named, first_letters, fresh_own, fresh_record, has_actor_room, has_level_below, has_timer_room, is_name_held, timer_now, with_child, with_item, with_kid, with_logic, with_machine, with_record, with_timer, with_timer_if_room, without_kid}
use Rattle.office_types.specs.Ends.{removed, subtree_of}
use Rattle.office_types.specs.Events.{event_type, init_event, is_reserved}
use Rattle.office_types.specs.Fitting.{Fitted, ◌>>=◌}
use Rattle.office_types.specs.Limits.{is_name, is_short}
use Rattle.office_types.specs.Mailboxes.{has_letter_room, with_letter, with_letter_if_room, with_mail}
use Rattle.office_types.specs.Outcomes.{AreAllowedEffects, IsAllowedEffect, IsSent, IsSpawn, IsTimed, children_after}
use Rattle.office_types.specs.Receivers.{if_active_machine, named_by, receiver_of}
use Rattle.office_types.specs.Records.{is_active, is_active_machine, actor_record, with_actor}
use Rattle.office_types.specs.Timers.{beside, has_id, with_scheduled, without_id}
use Rattle.office_types.specs.ValidOffice.{AreOfOneId, IsGiven, is_init}
use Rattle.office_types.proofs.ValidityListLemmas.{EachPair, change_at, at_same, each_filter, each_look, each_mono, each_passing, each_push, look_number, map_pairs, pairs_filter, pairs_push, sum_map_le, sum_push}
use Rattle.office_types.proofs.ValidityTreeLemmas.{given_in, number_of, record_in, spawned_new, spawned_seen, within, within_is}
use Rattle.office_types.proofs.ValidityStopLemmas.{bytes_same, parent_stays, stopped_seen}
use Rattle.office_types.proofs.ValidityPartLemmas.{FitsTimer, RecordRules, running, runs_in, runs_from, timer_more}
use Rattle.office_types.proofs.ValidityLemmas.{HasKind, SoundOffice}
use Rattle.office_types.proofs.ValidityChangeLemmas.{Except, either_at, letter_sound, new_letter}
use Rattle.office_types.proofs.ValidityActorLemmas.{fewer_timers_sound, spawn_sound, stop_sound, timers_sound}
use Rattle.office_types.proofs.ValidityEventLemmas.{begins_none, init_begins}
use Rattle.office_types.proofs.ValidityKindLemmas.{kind_begins, kind_mail, room_from, room_of, stands_fresh}
use Rattle.office_types.proofs.ValidityDecisionLemmas.{begin_sound, runs_mail, unreserved_begins_none}

-- ---- kinds in the middle of a step

-- the actor that takes its step: it has this own part, its children these ids, and no letter begins it
pub record MidRecord (own : Own) (ids : List (List ℕ)) (actor : ActorRecord) : Type 0 where
  pub same : actor.own ≡ Some own
  pub no_item : actor.item ≡ None
  pub listed : map (λ (kid : List ℕ × ℕ). kid.0) actor.kids ≡ ids
  pub no_init : AllByRecursion (λ (letter : Letter). is_init letter ≡ false) actor.mailbox

pub sound_kinds : (K K' : ActorRecord → Type 0) (callers : List Caller) (state : OfficeState) → ((a : ActorRecord) → K a → K' a) → SoundOffice K callers state → SoundOffice K' callers state
sound_kinds K K' callers state gives sound = record { counts = sound.counts; tree = sound.tree; parts = sound.parts; kinds = each_mono K K' state.actors gives sound.kinds }

-- ---- timers

-- no timer of the same id stands beside a new one
beside_differs : (timer : Timer) (timers : List Timer) → AllByRecursion (λ (other : Timer). AreOfOneId other timer → ⊥) (beside timer timers)
beside_differs timer timers = by_id timer.id refl where
  turned : (b : Bool) → not b ≡ true → b ≡ false
  turned true is = sym is
  turned false is = refl

  by_id : (o : Option (List ℕ)) → timer.id ≡ o → AllByRecursion (λ (other : Timer). AreOfOneId other timer → ⊥) (option_map_or (λ (id : List ℕ). without_id timer.owner id timers) o timers)
  by_id None is = each_all (λ other same. (let none : Some same.0 ≡ None = sym same.3 ∙ is in absurd (cc))) timers where
    each_all : ((other : Timer) → AreOfOneId other timer → ⊥) → (ts : List Timer) → AllByRecursion (λ (other : Timer). AreOfOneId other timer → ⊥) ts
    each_all gives [] = tt
    each_all gives (t ∷ ts) = (gives t, each_all gives ts)
  by_id (Some id) is =
      each_passing (λ (other : Timer). ⊤) (λ (other : Timer). AreOfOneId other timer → ⊥) (λ (other : Timer). not (has_id timer.owner id other)) timers
      (λ other none passes same. (
      let both : Some id ≡ Some same.0 = sym is ∙ same.3 in
      let same_id : id ≡ same.0 = cc in
      let has : has_id timer.owner id other ≡ true =
      and_from (nat_eq other.owner timer.owner) (option_map_or (bytes_eq id) other.id false) (eq-eqb other.owner timer.owner same.1) (ap (λ (o : Option (List ℕ)). option_map_or (bytes_eq id) o false) same.2 ∙ bytes_same id same.0 same_id) in
      true≢false (sym has ∙ turned (has_id timer.owner id other) passes)))
      (all timers) where
        all : (ts : List Timer) → AllByRecursion (λ (other : Timer). ⊤) ts
        all [] = tt
        all (t ∷ ts) = (tt, all ts)

-- what holds of all timers holds of those beside a new one
beside_each : (P : Timer → Type 0) (timer : Timer) (timers : List Timer) → AllByRecursion P timers → AllByRecursion P (beside timer timers)
beside_each P timer timers all = by_id timer.id where
  by_id : (o : Option (List ℕ)) → AllByRecursion P (option_map_or (λ (id : List ℕ). without_id timer.owner id timers) o timers)
  by_id None = all
  by_id (Some id) = each_filter P (λ (other : Timer). not (has_id timer.owner id other)) timers all

beside_pairs : (R : Timer → Timer → Type 0) (timer : Timer) (timers : List Timer) → EachPair R timers → EachPair R (beside timer timers)
beside_pairs R timer timers pairs = by_id timer.id where
  by_id : (o : Option (List ℕ)) → EachPair R (option_map_or (λ (id : List ℕ). without_id timer.owner id timers) o timers)
  by_id None = pairs
  by_id (Some id) = pairs_filter R (λ (other : Timer). not (has_id timer.owner id other)) timers pairs

-- a new timer that fits
pub scheduled_sound : (K : ActorRecord → Type 0) (callers : List Caller) (state : OfficeState) (timer : Timer) → SoundOffice K callers state → has_timer_room state timer ≡ true → timer.order ≡ state.next_timer
    → FitsTimer state.next_actor (state.next_timer + 1) state.actors timer → SoundOffice K callers (with_timer state timer)
scheduled_sound K callers state timer sound room order fits =
    let rooms = and_parts (nat_le (length (with_scheduled state.timers timer)) MAX_TIMERS) (nat_lt state.next_timer MAX_NEXT_NUMBER) room in
    let below_limit : state.next_timer < MAX_NEXT_NUMBER = ltb-true state.next_timer MAX_NEXT_NUMBER rooms.1 in
    let old = beside_each (FitsTimer state.next_actor state.next_timer state.actors) timer state.timers sound.parts.timers_fit in
    timers_sound K callers state (with_scheduled state.timers timer) (state.next_timer + 1) sound (record { numbered = omega arith; limit = omega arith })
    (leb-true (length (with_scheduled state.timers timer)) MAX_TIMERS rooms.0)
    (each_push (FitsTimer state.next_actor (state.next_timer + 1) state.actors) (beside timer state.timers) timer
    (each_mono (FitsTimer state.next_actor state.next_timer state.actors) (FitsTimer state.next_actor (state.next_timer + 1) state.actors) (beside timer state.timers)
    (λ other is. timer_more state.next_actor state.next_actor state.next_timer (state.next_timer + 1) state.actors state.actors other (omega arith) (omega arith) (λ runs_on. runs_on) is) old) fits)
    (pairs_push (λ (a b : Timer). a.order < b.order) (beside timer state.timers) timer (beside_pairs (λ (a b : Timer). a.order < b.order) timer state.timers sound.parts.timers_rise)
    (each_mono (FitsTimer state.next_actor state.next_timer state.actors) (λ (other : Timer). other.order < timer.order) (beside timer state.timers) (λ other is. (let given = is.order in omega (arith, given.1))) old))
    (pairs_push (λ (a b : Timer). AreOfOneId a b → ⊥) (beside timer state.timers) timer (beside_pairs (λ (a b : Timer). AreOfOneId a b → ⊥) timer state.timers sound.parts.timer_ids) (beside_differs timer state.timers))

-- ---- lists

pub get_each : {X : Type 0} (P : X → Type 0) (xs : List X) (i : ℕ) (x : X) → AllByRecursion P xs → slice_get xs i ≡ Some x → P x
get_each P [] i x all is = absurd (cc)
get_each P (y ∷ xs) zero x all is = let same : y ≡ x = cc in subst P same all.0
get_each P (y ∷ xs) (suc i) x all is = get_each P xs i x all.1 is

get_within : {X : Type 0} (xs : List X) (i : ℕ) → i < length xs → slice_get xs i ≡ None → ⊥
get_within [] i within none = absurd (omega arith)
get_within (x ∷ xs) zero within none = absurd (cc)
get_within (x ∷ xs) (suc i) within none = get_within xs i (omega arith) none

-- who is among the ids is found
found_among : (id : List ℕ) (kids : List (List ℕ × ℕ)) → list_any (bytes_eq id) (map (λ (kid : List ℕ × ℕ). kid.0) kids) ≡ true → (x : ℕ) × (lookup (bytes_eq id) kids ≡ Some x)
found_among id [] is = absurd (true≢false (sym is))
found_among id (kid ∷ kids) is = by_test (found_among id kids) (bytes_eq id kid.0) is where
  by_test : (list_any (bytes_eq id) (map (λ (k : List ℕ × ℕ). k.0) kids) ≡ true → (x : ℕ) × (lookup (bytes_eq id) kids ≡ Some x)) → (b : Bool) → (b || list_any (bytes_eq id) (map (λ (k : List ℕ × ℕ). k.0) kids)) ≡ true
      → (x : ℕ) × (cond b (Some kid.1) (lookup (bytes_eq id) kids) ≡ Some x)
  by_test rest true is = (kid.1, refl)
  by_test rest false is = rest is

ids_left : (id : List ℕ) (kids : List (List ℕ × ℕ)) → map (λ (kid : List ℕ × ℕ). kid.0) (filter (λ (kid : List ℕ × ℕ). not (bytes_eq kid.0 id)) kids) ≡ filter (λ (other : List ℕ). not (bytes_eq other id)) (map (λ (kid : List ℕ × ℕ). kid.0) kids)
ids_left id [] = refl
ids_left id (kid ∷ kids) = by_test (ids_left id kids) (not (bytes_eq kid.0 id)) where
  by_test : map (λ (k : List ℕ × ℕ). k.0) (filter (λ (k : List ℕ × ℕ). not (bytes_eq k.0 id)) kids) ≡ filter (λ (other : List ℕ). not (bytes_eq other id)) (map (λ (k : List ℕ × ℕ). k.0) kids) → (b : Bool)
      → map (λ (k : List ℕ × ℕ). k.0) (cond b (kid ∷ filter (λ (k : List ℕ × ℕ). not (bytes_eq k.0 id)) kids) (filter (λ (k : List ℕ × ℕ). not (bytes_eq k.0 id)) kids))
      ≡ cond b (kid.0 ∷ filter (λ (other : List ℕ). not (bytes_eq other id)) (map (λ (k : List ℕ × ℕ). k.0) kids)) (filter (λ (other : List ℕ). not (bytes_eq other id)) (map (λ (k : List ℕ × ℕ). k.0) kids))
  by_test rest true = ap (λ (others : List (List ℕ)). kid.0 ∷ others) rest
  by_test rest false = rest

-- ---- effects

module _ (definitions : OfficeDefinitions) (linked : AreLinked definitions) (callers : List Caller) (n : ℕ) (own : Own) where
  abbrev pub MidKind : List (List ℕ) → ActorRecord → Type 0
  MidKind ids = Except (HasKind definitions) n (MidRecord own ids)

  -- in the middle of a step, with these ids of children
  pub record MidSound (ids : List (List ℕ)) (state : OfficeState) : Type 0 where
    pub sound : SoundOffice (MidKind ids) callers state
    pub runner : runs_in state.actors n ≡ true
    pub differ : EachPair (λ (a b : List ℕ). a ≢ b) ids

  -- the same, of an effect that fits
  abbrev pub MidFits : List (List ℕ) → Fitted → Type 0
  MidFits ids (Ok state) = MidSound ids state
  MidFits ids (Err name) = ⊤

  module _ (ids : List (List ℕ)) (state : OfficeState) (mid : MidSound ids state) where
    stepping_given : IsGiven state.next_actor n
    stepping_given = let runner = running state.actors n mid.runner in given_in state.next_actor state.actors mid.sound.tree n runner.0 runner.1

    -- a letter that begins none
    mail_kind : (letter : Letter) (to : ℕ) → is_init letter ≡ false → runs_in state.actors to ≡ true → (a : ActorRecord) → record_in state.actors to ≡ Some a → MidKind ids a → MidKind ids (with_mail letter a)
    mail_kind letter to none runs_to a seen kind = record {
      other = λ differs. (
          let runner = running state.actors to runs_to in
          let same_record : Some runner.0 ≡ Some a = sym runner.1 ∙ seen in
          let same : runner.0 ≡ a = cc in
          kind_mail definitions letter a none (ap (λ (z : ActorRecord). is_some z.own) (sym same) ∙ runner.3) (kind.other differs));
      one = λ is. (
          let before = kind.one is in
          record { same = before.same; no_item = before.no_item; listed = before.listed; no_init = each_push (λ (l : Letter). is_init l ≡ false) a.mailbox letter before.no_init none });
    }

    receiver_runs : (target : To) (receiver : ℕ) → receiver_of state n target ≡ Some receiver → runs_in state.actors receiver ≡ true
    receiver_runs target receiver is = by_name (option_and_then (λ (actor : ActorRecord). named_by state actor target) (actor_record state n)) is where
      by_running : (m : ℕ) → (b : Bool) → is_active_machine state m ≡ b → (if b then Some m else None) ≡ Some receiver → runs_in state.actors receiver ≡ true
      by_running m true runs_m is = (let same : m ≡ receiver = cc in ap (runs_in state.actors) (sym same) ∙ runs_m)
      by_running m false runs_m is = absurd (cc)

      by_name : (o : Option ℕ) → option_and_then (if_active_machine state) o ≡ Some receiver → runs_in state.actors receiver ≡ true
      by_name None is = absurd (cc)
      by_name (Some m) is = by_running m (is_active_machine state m) refl is

    sent_begins_none : (event : Value) → IsSent event → begins_none event
    sent_begins_none event sent = unreserved_begins_none event (by_type (event_type event) refl) where
      by_type : (o : Option (List ℕ)) → event_type event ≡ o → option_map_or is_reserved o false ≡ false
      by_type None is = refl
      by_type (Some type) is = sent.unreserved type is

    sent_fits : (target : To) (event : Value) → IsSent event → MidFits ids (after_send n target event state)
    sent_fits target event sent = by_receiver (receiver_of state n target) refl where
      by_room : (receiver : ℕ) → runs_in state.actors receiver ≡ true → (b : Bool) → has_letter_room state 1 ≡ b → MidFits ids (if b then Ok (with_letter state (origin.Actor n) receiver event) else Err LettersFull)
      by_room receiver runs_to true room = record {
        sound = letter_sound (MidKind ids) (MidKind ids) callers state (origin.Actor n) receiver event mid.sound room stepping_given sent.well_formed runs_to (λ a differs kind. kind)
            (mail_kind (new_letter state (origin.Actor n) event) receiver (sent_begins_none event sent) runs_to);
        runner = runs_mail (new_letter state (origin.Actor n) event) state.actors receiver n ∙ mid.runner;
        differ = mid.differ;
      }
      by_room receiver runs_to false room = tt

      by_receiver : (o : Option ℕ) → receiver_of state n target ≡ o → MidFits ids (option_map_or (λ (receiver : ℕ). with_letter_if_room state (origin.Actor n) receiver event) o (Ok state))
      by_receiver None is = mid
      by_receiver (Some receiver) is = by_room receiver (receiver_runs target receiver is) (has_letter_room state 1) refl

    scheduled_fits : (id : Option (List ℕ)) (delay : ℕ) (target : To) (event : Value) → IfSome id (λ id. IsTrue (is_name id)) → IsTimed event → MidFits ids (after_schedule n id delay target event state)
    scheduled_fits id delay target event named timed = by_receiver (receiver_of state n target) refl where
      by_room : (receiver : ℕ) → runs_in state.actors receiver ≡ true → (b : Bool) → has_timer_room state (timer_now state n id delay event receiver) ≡ b
          → MidFits ids (if b then Ok (with_timer state (timer_now state n id delay event receiver)) else Err TimersFull)
      by_room receiver runs_to true room =
          let target_record = running state.actors receiver runs_to in
          record {
            sound = scheduled_sound (MidKind ids) callers state (timer_now state n id delay event receiver) mid.sound room refl (record {
              order = (mid.sound.counts.timer.numbered, omega arith);
              owner = mid.runner;
              target = given_in state.next_actor state.actors mid.sound.tree receiver target_record.0 target_record.1;
              id = named;
              event = timed.well_formed;
              no_init = timed.no_init;
            });
            runner = mid.runner;
            differ = mid.differ;
          }
      by_room receiver runs_to false room = tt

      by_receiver : (o : Option ℕ) → receiver_of state n target ≡ o → MidFits ids (option_map_or (λ (receiver : ℕ). with_timer_if_room state (timer_now state n id delay event receiver)) o (Ok state))
      by_receiver None is = mid
      by_receiver (Some receiver) is = by_room receiver (receiver_runs target receiver is) (has_timer_room state (timer_now state n id delay event receiver)) refl

    cancelled_fits : (id : List ℕ) → MidSound ids (after_cancel n id state)
    cancelled_fits id = record { sound = fewer_timers_sound (MidKind ids) callers state (λ (timer : Timer). not (has_id n id timer)) mid.sound; runner = mid.runner; differ = mid.differ }

    -- ---- spawn

    free_id : (id : List ℕ) → list_any (bytes_eq id) ids ≡ false → AllByRecursion (λ (other : List ℕ). other ≢ id) ids
    free_id id free = each_free ids free where
      each_free : (others : List (List ℕ)) → list_any (bytes_eq id) others ≡ false → AllByRecursion (λ (other : List ℕ). other ≢ id) others
      each_free [] free = tt
      each_free (other ∷ others) free =
          let parts = or_parts (bytes_eq id other) (list_any (bytes_eq id) others) free in
          (λ same. true≢false (sym (bytes_same id other (sym same)) ∙ parts.0), each_free others parts.1)

    abbrev grown : List ℕ → ActorRecord → OfficeState
    grown id fresh = with_actor (with_record state fresh) n (with_kid id state.next_actor)

    grown_sound : (id : List ℕ) (fresh : ActorRecord) → has_actor_room state ≡ true → is_name_held state fresh.system ≡ false → has_level_below state n ≡ true
        → fresh.number ≡ state.next_actor → fresh.kids ≡ [] → fresh.parent ≡ Some n → fresh.mailbox ≡ [] → RecordRules fresh
        → SoundOffice (Except (MidKind (ids ++ id ∷ [])) state.next_actor (λ a. a ≡ fresh)) callers (grown id fresh)
    grown_sound id fresh room free level fresh_number fresh_kids fresh_parent empty stands =
        spawn_sound (MidKind ids) (MidKind (ids ++ id ∷ [])) callers state n id fresh mid.sound room free (sym (within_is state 15 n) ∙ level) mid.runner fresh_number fresh_kids fresh_parent empty stands
        (λ a differs kind. record { other = kind.other; one = λ same. absurd (differs same) })
        (λ a seen kind. record {
          other = λ differs. absurd (differs (look_number number_of state.actors n a seen));
          one = λ is. (
              let before = kind.one is in
              record {
                same = before.same;
                no_item = before.no_item;
                listed = map-append (λ (kid : List ℕ × ℕ). kid.0) a.kids ((id, state.next_actor) ∷ []) ∙ ap (λ (others : List (List ℕ)). others ++ id ∷ []) before.listed;
                no_init = before.no_init;
              });
        })

    grown_seen : (id : List ℕ) (fresh : ActorRecord) → fresh.number ≡ state.next_actor → fresh.kids ≡ [] → fresh.parent ≡ Some n → record_in (grown id fresh).actors state.next_actor ≡ Some fresh
    grown_seen id fresh fresh_number fresh_kids fresh_parent =
        let runner = running state.actors n mid.runner in
        spawned_new state.next_actor state.actors mid.sound.tree mid.sound.counts.actor.numbered n runner.0 id fresh runner.1 runner.2 fresh_number fresh_kids fresh_parent

    grown_runs : (id : List ℕ) (fresh : ActorRecord) → fresh.number ≡ state.next_actor → fresh.kids ≡ [] → fresh.parent ≡ Some n → runs_in (grown id fresh).actors n ≡ true
    grown_runs id fresh fresh_number fresh_kids fresh_parent =
        let runner = running state.actors n mid.runner in
        let adopt : ActorRecord → ActorRecord = change_at number_of n (with_kid id state.next_actor) in
        runs_from (grown id fresh).actors n (adopt runner.0)
        (spawned_seen state.next_actor state.actors mid.sound.tree mid.sound.counts.actor.numbered n runner.0 id fresh runner.1 runner.2 fresh_number fresh_kids fresh_parent n runner.0 runner.1)
        (at_same number_of is_active n (with_kid id state.next_actor) (λ a. refl) runner.0 ∙ runner.2)
        (at_same number_of (λ (z : ActorRecord). is_some z.own) n (with_kid id state.next_actor) (λ a. refl) runner.0 ∙ runner.3)

    grown_room : (id : List ℕ) (fresh : ActorRecord) → fresh.mailbox ≡ [] → has_letter_room state 1 ≡ true → has_letter_room (grown id fresh) 1 ≡ true
    grown_room id fresh empty room =
        let rooms = room_of state 1 room in
        let pushed = sum_push (λ (a : ActorRecord). length a.mailbox) state.actors fresh in
        let none : length fresh.mailbox ≡ 0 = ap length empty in
        let same = sum_map_le (λ (a : ActorRecord). length a.mailbox) (change_at number_of n (with_kid id state.next_actor)) (state.actors ++ fresh ∷ [])
        (λ a. either_at (λ (z : ActorRecord). length z.mailbox ≤ length a.mailbox) n (with_kid id state.next_actor) a (omega arith) (omega arith)) in
        room_from (grown id fresh) 1 (omega (arith, rooms.0)) rooms.1

    -- a letter and a child of two records, in either order
    kid_and_mail : (id : List ℕ) (m : ℕ) (letter : Letter) (actors : List ActorRecord)
        → map (change_at number_of n (with_kid id m)) (map (change_at number_of m (with_mail letter)) actors) ≡ map (change_at number_of m (with_mail letter)) (map (change_at number_of n (with_kid id m)) actors)
    kid_and_mail id m letter [] = refl
    kid_and_mail id m letter (a ∷ actors) =
        ap (λ (z : ActorRecord). z ∷ map (change_at number_of n (with_kid id m)) (map (change_at number_of m (with_mail letter)) actors)) (by_mail (nat_eq a.number m) refl)
        ∙ ap (λ (others : List ActorRecord). change_at number_of m (with_mail letter) (change_at number_of n (with_kid id m) a) ∷ others) (kid_and_mail id m letter actors) where
          with_it : (c : Bool) → nat_eq a.number m ≡ true → (if c then with_kid id m (with_mail letter a) else with_mail letter a) ≡ change_at number_of m (with_mail letter) (if c then with_kid id m a else a)
          with_it true is = sym (ap (λ (b : Bool). if b then with_mail letter (with_kid id m a) else with_kid id m a) is)
          with_it false is = sym (ap (λ (b : Bool). if b then with_mail letter a else a) is)

          without_it : (c : Bool) → nat_eq a.number m ≡ false → (if c then with_kid id m a else a) ≡ change_at number_of m (with_mail letter) (if c then with_kid id m a else a)
          without_it true is = sym (ap (λ (b : Bool). if b then with_mail letter (with_kid id m a) else with_kid id m a) is)
          without_it false is = sym (ap (λ (b : Bool). if b then with_mail letter a else a) is)

          by_mail : (b : Bool) → nat_eq a.number m ≡ b → change_at number_of n (with_kid id m) (if b then with_mail letter a else a) ≡ change_at number_of m (with_mail letter) (change_at number_of n (with_kid id m) a)
          by_mail true is = with_it (nat_eq a.number n) is
          by_mail false is = without_it (nat_eq a.number n) is

    machine_spawned : (id : List ℕ) (input : Value) (system : Option (List ℕ)) (machine : ℕ) → machine < length definitions.machines → is_short input ≡ true → IfSome system (λ name. IsTrue (is_name name))
        → list_any (bytes_eq id) ids ≡ false → is_name_held state system ≡ false → has_actor_room state ≡ true → has_letter_room state 1 ≡ true → has_level_below state n ≡ true
        → MidSound (ids ++ id ∷ []) (with_actor (with_machine state (origin.Actor n) (Some n) machine input system) n (with_kid id state.next_actor))
    machine_spawned id input system machine below_count short named free_ids free room letters level =
        let fresh : ActorRecord = fresh_record state.next_actor (Some n) system (Some (fresh_own machine)) None in
        let letter : Letter = new_letter (with_record state fresh) (origin.Actor n) (init_event input) in
        let given : IsGiven state.next_actor n = stepping_given in
        let sound : SoundOffice (MidKind (ids ++ id ∷ [])) callers (with_letter (grown id fresh) (origin.Actor n) state.next_actor (init_event input)) =
        begin_sound (MidKind (ids ++ id ∷ [])) callers (grown id fresh) state.next_actor fresh (origin.Actor n) input
        (grown_sound id fresh room free level refl refl refl refl (stands_fresh state.next_actor (Some n) system (Some (fresh_own machine)) None named))
        (grown_seen id fresh refl refl refl) refl refl (given.0, omega (arith, given.1)) short (grown_room id fresh refl letters)
        (record { other = λ differs. kind_begins definitions state.next_actor (Some n) system machine letter below_count (init_begins input); one = λ same. absurd (omega (arith, given.1)) }) in
        let same : with_letter (grown id fresh) (origin.Actor n) state.next_actor (init_event input) ≡ with_actor (with_machine state (origin.Actor n) (Some n) machine input system) n (with_kid id state.next_actor) =
        ap (λ (actors : List ActorRecord). record (with_record state fresh) { actors = actors; next_letter = state.next_letter + 1 }) (sym (kid_and_mail id state.next_actor letter (state.actors ++ fresh ∷ []))) in
        record {
          sound = subst (SoundOffice (MidKind (ids ++ id ∷ [])) callers) same sound;
          runner = subst (λ (after : OfficeState). runs_in after.actors n ≡ true) same (runs_mail letter (grown id fresh).actors state.next_actor n ∙ grown_runs id fresh refl refl refl);
          differ = pairs_push (λ (a b : List ℕ). a ≢ b) ids id mid.differ (free_id id free_ids);
        }

    item_spawned : (id src : List ℕ) (input : Value) (system : Option (List ℕ)) → is_short input ≡ true → IfSome system (λ name. IsTrue (is_name name))
        → list_any (bytes_eq id) ids ≡ false → is_name_held state system ≡ false → has_actor_room state ≡ true → has_level_below state n ≡ true
        → MidSound (ids ++ id ∷ []) (with_actor (with_item state (Some n) src input system) n (with_kid id state.next_actor))
    item_spawned id src input system short named free_ids free room level =
        let item : Item = record { actor = state.next_actor; src = src; input = input } in
        let fresh : ActorRecord = fresh_record state.next_actor (Some n) system None (Some item) in
        let given : IsGiven state.next_actor n = stepping_given in
        let kind : MidKind (ids ++ id ∷ []) fresh = record { other = λ differs. record { number = refl; input = short; kids = refl; letters = refl }; one = λ same. absurd (omega (arith, given.1)) } in
        record {
          sound = sound_kinds (Except (MidKind (ids ++ id ∷ [])) state.next_actor (λ a. a ≡ fresh)) (MidKind (ids ++ id ∷ [])) callers (grown id fresh)
              (λ a is. elim (cases_Bool (nat_eq a.number state.next_actor)) [
                | inl at_next ↦ subst (MidKind (ids ++ id ∷ [])) (sym (is.one (eqb-true a.number state.next_actor at_next))) kind
                | inr before ↦ is.other (eqb-false a.number state.next_actor before)
              ])
              (grown_sound id fresh room free level refl refl refl refl (stands_fresh state.next_actor (Some n) system None (Some item) named));
          runner = grown_runs id fresh refl refl refl;
          differ = pairs_push (λ (a b : List ℕ). a ≢ b) ids id mid.differ (free_id id free_ids);
        }

    spawned_fits : (id : List ℕ) (src : ℕ) (input : Value) (system : Option (List ℕ)) → IsSpawn definitions ids id src input system → MidFits (ids ++ id ∷ []) (after_spawn definitions n id src input system state)
    spawned_fits id src input system spawn = by_logic (slice_get definitions.actors src) refl where
      by_machine : (logic : ActorLogic) → slice_get definitions.actors src ≡ Some logic → is_name_held state system ≡ false → has_actor_room state ≡ true → has_level_below state n ≡ true → (o : Option ℕ) → logic.machine ≡ o
          → has_letter_room state (option_map_or (λ (machine : ℕ). 1) o 0) ≡ true
          → MidSound (ids ++ id ∷ []) (with_actor (option_map_or (λ (machine : ℕ). with_machine state (origin.Actor n) (Some n) machine input system) o (with_item state (Some n) logic.name input system)) n (with_kid id state.next_actor))
      by_machine logic row free room level None is letters = item_spawned id logic.name input system spawn.short spawn.system_name spawn.free free room level
      by_machine logic row free room level (Some machine) is letters =
          let fits : IfSome logic.machine (λ m. m < length definitions.machines) =
          get_each (λ (l : ActorLogic). IfSome l.machine (λ m. m < length definitions.machines)) definitions.actors src logic
          (recursion_from_All (λ (l : ActorLogic). IfSome l.machine (λ m. m < length definitions.machines)) definitions.actors linked) row in
          let below_count : machine < length definitions.machines = subst (λ (o : Option ℕ). IfSome o (λ m. m < length definitions.machines)) is fits in
          machine_spawned id input system machine below_count spawn.short spawn.system_name spawn.free free room letters level

      by_level : (logic : ActorLogic) → slice_get definitions.actors src ≡ Some logic → is_name_held state system ≡ false → has_actor_room state ≡ true → has_letter_room state (first_letters logic) ≡ true → (b : Bool) → has_level_below state n ≡ b
          → MidFits (ids ++ id ∷ []) (if not b then Err TooDeep else Ok (with_actor (with_logic state n logic input system) n (with_kid id state.next_actor)))
      by_level logic row free room letters true level = by_machine logic row free room level logic.machine refl letters
      by_level logic row free room letters false level = tt

      by_letters : (logic : ActorLogic) → slice_get definitions.actors src ≡ Some logic → is_name_held state system ≡ false → has_actor_room state ≡ true → (b : Bool) → has_letter_room state (first_letters logic) ≡ b
          → MidFits (ids ++ id ∷ []) (if not b then Err LettersFull else if not (has_level_below state n) then Err TooDeep else Ok (with_actor (with_logic state n logic input system) n (with_kid id state.next_actor)))
      by_letters logic row free room true letters = by_level logic row free room letters (has_level_below state n) refl
      by_letters logic row free room false letters = tt

      by_room : (logic : ActorLogic) → slice_get definitions.actors src ≡ Some logic → is_name_held state system ≡ false → (b : Bool) → has_actor_room state ≡ b
          → MidFits (ids ++ id ∷ []) (if not b then Err ActorsFull else if not (has_letter_room state (first_letters logic)) then Err LettersFull else if not (has_level_below state n) then Err TooDeep
          else Ok (with_actor (with_logic state n logic input system) n (with_kid id state.next_actor)))
      by_room logic row free true room = by_letters logic row free room (has_letter_room state (first_letters logic)) refl
      by_room logic row free false room = tt

      by_name : (logic : ActorLogic) → slice_get definitions.actors src ≡ Some logic → (b : Bool) → is_name_held state system ≡ b
          → MidFits (ids ++ id ∷ []) (if b then Err NameHeld else if not (has_actor_room state) then Err ActorsFull else if not (has_letter_room state (first_letters logic)) then Err LettersFull else if not (has_level_below state n) then Err TooDeep
          else Ok (with_actor (with_logic state n logic input system) n (with_kid id state.next_actor)))
      by_name logic row true free = tt
      by_name logic row false free = by_room logic row free (has_actor_room state) refl

      by_logic : (o : Option ActorLogic) → slice_get definitions.actors src ≡ o → MidFits (ids ++ id ∷ []) (option_map_or (λ (logic : ActorLogic). with_child n id logic input system state) o (Ok state))
      by_logic None row = absurd (get_within definitions.actors src spawn.row row)
      by_logic (Some logic) row = by_name logic row (is_name_held state system) refl

    -- ---- stop

    stopped_mid : (id : List ℕ) → list_any (bytes_eq id) ids ≡ true → MidSound (filter (λ (other : List ℕ). not (bytes_eq other id)) ids) (after_stop n id state)
    unfolding removed subtree_of
    stopped_mid id held =
        let runner = running state.actors n mid.runner in
        let at_n : runner.0.number ≡ n = look_number number_of state.actors n runner.0 runner.1 in
        let before = (each_look number_of (MidKind ids) state.actors mid.sound.kinds n runner.0 runner.1).one at_n in
        let found = found_among id runner.0.kids (ap (list_any (bytes_eq id)) before.listed ∙ held) in
        let differ : EachPair (λ (a b : List ℕ × ℕ). a.0 ≢ b.0) runner.0.kids =
        map_pairs (λ (a b : List ℕ). a ≢ b) (λ (kid : List ℕ × ℕ). kid.0) runner.0.kids (subst (EachPair (λ (a b : List ℕ). a ≢ b)) (sym before.listed) mid.differ) in
        let child : child_named state n id ≡ Some found.0 = ap (option_and_then (λ (actor : ActorRecord). lookup (bytes_eq id) actor.kids)) runner.1 ∙ found.1 in
        let left : List (List ℕ) = filter (λ (other : List ℕ). not (bytes_eq other id)) ids in
        let stopped : MidSound left (with_actor (removed found.0 state) n (without_kid id)) = record {
          sound = stop_sound (MidKind ids) (MidKind left) callers state n id found.0 runner.0 mid.sound runner.1 differ found.1
              (λ a differs kind. record { other = kind.other; one = λ same. absurd (differs same) })
              (λ a seen kind. record {
                other = λ differs. absurd (differs (look_number number_of state.actors n a seen));
                one = λ is. (
                    let was = kind.one is in
                    record { same = was.same; no_item = was.no_item; listed = ids_left id a.kids ∙ ap (filter (λ (other : List ℕ). not (bytes_eq other id))) was.listed; no_init = was.no_init });
              });
          runner = runs_from (with_actor (removed found.0 state) n (without_kid id)).actors n (change_at number_of n (without_kid id) runner.0)
              (stopped_seen state.next_actor state.actors mid.sound.tree n runner.0 id found.0 runner.1 differ found.1 n runner.0 runner.1
              (parent_stays state.next_actor state.actors mid.sound.tree n runner.0 id found.0 runner.1 differ found.1))
              (at_same number_of is_active n (without_kid id) (λ a. refl) runner.0 ∙ runner.2)
              (at_same number_of (λ (z : ActorRecord). is_some z.own) n (without_kid id) (λ a. refl) runner.0 ∙ runner.3);
          differ = pairs_filter (λ (a b : List ℕ). a ≢ b) (λ (other : List ℕ). not (bytes_eq other id)) ids mid.differ;
        } in
        subst (λ (o : Option ℕ). MidSound left (option_map_or (λ (c : ℕ). with_actor (removed c state) n (without_kid id)) o state)) (sym child) stopped

    effect_fits : (what : Effect) → IsAllowedEffect definitions ids what → MidFits (children_after ids what) (after_effect definitions n what state)
    effect_fits (effect.Send target event) allowed = sent_fits target event allowed
    effect_fits (effect.Schedule id delay target event) allowed = scheduled_fits id delay target event allowed.0 allowed.2
    effect_fits (effect.Cancel id) allowed = cancelled_fits id
    effect_fits (effect.Spawn id src input system) allowed = spawned_fits id src input system allowed
    effect_fits (effect.Stop id) allowed = stopped_mid id allowed

  -- effects one after the other
  pub effects_fit : (effects : List Effect) (ids : List (List ℕ)) (state : OfficeState) → MidSound ids state → AreAllowedEffects definitions ids effects → MidFits (fold children_after ids effects) (after_effects definitions n effects state)
  unfolding after_effects
  effects_fit [] ids state mid allowed = mid
  effects_fit (first ∷ others) ids state mid allowed =
      next_fits (after_effect definitions n first state) (effect_fits ids state mid first allowed.0) (λ after is. effects_fit others (children_after ids first) after is allowed.1) where
        next_fits : (x : Fitted) → MidFits (children_after ids first) x → ((after : OfficeState) → MidSound (children_after ids first) after → MidFits (fold children_after (children_after ids first) others) (after_effects definitions n others after))
            → MidFits (fold children_after (children_after ids first) others) (x >>= after_effects definitions n others)
        next_fits (Ok after) is rest = rest after is
        next_fits (Err name) is rest = tt
