-- What new actors, removals, ends and timers keep of a valid office.
use Rattle.std.proofs.Common.{◌≡◌, ◌≢◌, inl, inr, ℕ, ◌+◌, ◌<◌, ◌≤◌, Bool, true, false, not, true≢false, List, [], ◌∷◌, ◌++◌, length, refl, sym, ap, ◌∙◌, arith}
use Rattle.std.specs.Prelude.{Option, None, Some, is_some, filter, fold, nat_lt, if◌then◌else◌}
use Rattle.std.specs.List.{AllByRecursion}
use Rattle.std.specs.Map.{lookup}
use Rattle.std.specs.Option.{option_map_or, option_or}
use Rattle.std.specs.Str.{bytes_eq}
use Rattle.std.proofs.lemmas.Bool.{and_parts, cases_Bool, ltb-true}
use Rattle.office_types.specs.declared.limits.TheConstants.{MAX_ACTIVE_ACTORS, MAX_LETTERS, MAX_MOMENT, MAX_NEXT_NUMBER, MAX_TIMERS}
use Rattle.office_types.specs.declared.office.ActorRecord.{ActorRecord}
use Rattle.office_types.specs.declared.office.Caller.{Caller}
use Rattle.office_types.specs.declared.office.OfficeState.{OfficeState}
use Rattle.office_types.specs.declared.office.Status.TheVariants as status
use Rattle.office_types.specs.declared.office.Timer.{Timer}
use Rattle.office_types.specs.Effects.{has_actor_room, is_name_held, with_kid, with_record, without_kid}
use Rattle.office_types.specs.Ends.{after_end, ended_record, is_among, record_after_end, removed, subtree_of}
use Rattle.office_types.specs.Mailboxes.{waiting_letters}
use Rattle.office_types.specs.Records.{active_actors, is_active, with_actor}
use Rattle.office_types.specs.SystemNames.{holder_of, with_holder, without_holder}
use Rattle.office_types.specs.Timers.{without_owner}
use Rattle.office_types.specs.ValidOffice.{AreOfOneId, IsGiven, IsNextNumber}
use Rattle.office_types.proofs.ValidityListLemmas.{EachPair, Rises, change_at, each_at, each_filter, each_look, each_map, each_mono, length_filter_le, look_each, look_filter, look_number, look_push, pairs_filter, pairs_push, passing_filter_le, passing_map_le, passing_push_le, sum_filter_le, sum_map_le, sum_push}
use Rattle.office_types.proofs.ValidityTreeLemmas.{among_itself, all_below, below_closed, below_found, given_in, number_of, parents_smaller, record_in, tree_map, tree_spawn, tree_start, within}
use Rattle.office_types.proofs.ValidityStopLemmas.{tree_stop}
use Rattle.office_types.proofs.ValidityPartLemmas.{FitsTimer, RecordRules, running, runs_in}
use Rattle.office_types.proofs.ValidityEndLemmas.{end_cases, fold_without, mailbox_after, number_after, parts_end, parts_gone, parts_push, stays_after}
use Rattle.office_types.proofs.ValidityLemmas.{CountRules, SoundOffice}
use Rattle.office_types.proofs.ValidityChangeLemmas.{Except, active_at_le, either_at, kinds_push, parts_quiet}

-- ---- new actors

new_counts : (callers : List Caller) (state : OfficeState) (fresh : ActorRecord) → fresh.mailbox ≡ [] → has_actor_room state ≡ true → CountRules callers state → CountRules callers (with_record state fresh)
new_counts callers state fresh empty room counts =
    let rooms = and_parts (nat_lt (active_actors state) MAX_ACTIVE_ACTORS) (nat_lt state.next_actor MAX_NEXT_NUMBER) room in
    record {
      actor = (let few : state.next_actor < MAX_NEXT_NUMBER = ltb-true state.next_actor MAX_NEXT_NUMBER rooms.1 in record { numbered = omega arith; limit = omega arith });
      letter = counts.letter;
      timer = counts.timer;
      active = (
          let few : active_actors state < MAX_ACTIVE_ACTORS = ltb-true (active_actors state) MAX_ACTIVE_ACTORS rooms.0 in
          let one_more = passing_push_le is_active state.actors fresh in
          omega arith);
      waiting = (
          let few : waiting_letters state ≤ MAX_LETTERS = counts.waiting in
          let none : length fresh.mailbox ≡ 0 = ap length empty in
          let same = sum_push (λ (a : ActorRecord). length a.mailbox) state.actors fresh in
          omega arith);
      standing = counts.standing;
      moment = counts.moment;
      entries = counts.entries;
      same_callers = counts.same_callers;
    }

-- the name of a new actor is free
name_free : (state : OfficeState) (system : Option (List ℕ)) → is_name_held state system ≡ false → (name : List ℕ) → system ≡ Some name → holder_of name state.names ≡ None
name_free state None free name is = absurd (cc)
name_free state (Some other) free name is = by_holder (holder_of other state.names) refl free where
  by_holder : (o : Option ℕ) → holder_of other state.names ≡ o → is_some o ≡ false → holder_of name state.names ≡ None
  by_holder None holder free = (let same : other ≡ name = cc in ap (λ (n : List ℕ). holder_of n state.names) (sym same) ∙ holder)
  by_holder (Some n) holder free = absurd (true≢false free)

-- one without a parent
pub start_sound : (K : ActorRecord → Type 0) (callers : List Caller) (state : OfficeState) (fresh : ActorRecord) → SoundOffice K callers state → has_actor_room state ≡ true → is_name_held state fresh.system ≡ false
    → fresh.number ≡ state.next_actor → fresh.kids ≡ [] → fresh.parent ≡ None → fresh.mailbox ≡ [] → RecordRules fresh → SoundOffice (Except K state.next_actor (λ a. a ≡ fresh)) callers (with_record state fresh)
start_sound K callers state fresh sound room free fresh_number fresh_kids no_parent empty stands = record {
  counts = new_counts callers state fresh empty room sound.counts;
  tree = tree_start state.next_actor state.actors sound.tree sound.counts.actor.numbered fresh fresh_number fresh_kids no_parent;
  parts = parts_push state.next_actor state.next_letter state.next_timer state.actors state.timers state.names fresh empty stands (name_free state fresh.system free) sound.parts;
  kinds = kinds_push K state.next_actor state.actors fresh sound.tree fresh_number sound.kinds;
}

-- a child
pub spawn_sound : (K K' : ActorRecord → Type 0) (callers : List Caller) (state : OfficeState) (n : ℕ) (id : List ℕ) (fresh : ActorRecord) → SoundOffice K callers state → has_actor_room state ≡ true → is_name_held state fresh.system ≡ false
    → within state.actors 15 n ≡ true → runs_in state.actors n ≡ true
    → fresh.number ≡ state.next_actor → fresh.kids ≡ [] → fresh.parent ≡ Some n → fresh.mailbox ≡ [] → RecordRules fresh
    → ((a : ActorRecord) → a.number ≢ n → K a → K' a) → ((a : ActorRecord) → record_in state.actors n ≡ Some a → K a → K' (with_kid id state.next_actor a))
    → SoundOffice (Except K' state.next_actor (λ a. a ≡ fresh)) callers (with_actor (with_record state fresh) n (with_kid id state.next_actor))
spawn_sound K K' callers state n id fresh sound room free level runner fresh_number fresh_kids fresh_parent empty stands others target =
    let next : ℕ = state.next_actor in
    let before = new_counts callers state fresh empty room sound.counts in
    let adopt : ActorRecord → ActorRecord = with_kid id next in
    let parent = running state.actors n runner in
    let given : n < next = (given_in next state.actors sound.tree n parent.0 parent.1).1 in
    let same_waiting = sum_map_le (λ (a : ActorRecord). length a.mailbox) (change_at number_of n adopt) (state.actors ++ fresh ∷ [])
    (λ a. either_at (λ (z : ActorRecord). length z.mailbox ≤ length a.mailbox) n adopt a (omega arith) (omega arith)) in
    let pushed = parts_push next state.next_letter state.next_timer state.actors state.timers state.names fresh empty stands (name_free state fresh.system free) sound.parts in
    let names' : List (List ℕ × ℕ) = option_map_or (λ (name : List ℕ). with_holder state.names name fresh.number) fresh.system state.names in
    record {
      counts = record {
        actor = before.actor;
        letter = before.letter;
        timer = before.timer;
        active = (let fewer = active_at_le n adopt (state.actors ++ fresh ∷ []) (λ a. refl) in let few : active_actors (with_record state fresh) ≤ MAX_ACTIVE_ACTORS = before.active in omega arith);
        waiting = (let few : waiting_letters (with_record state fresh) ≤ MAX_LETTERS = before.waiting in omega arith);
        standing = before.standing;
        moment = before.moment;
        entries = before.entries;
        same_callers = before.same_callers;
      };
      tree = tree_spawn next state.actors sound.tree sound.counts.actor.numbered n parent.0 id fresh parent.1 parent.2 fresh_number fresh_kids fresh_parent level;
      parts = parts_quiet (next + 1) state.next_letter state.next_timer (state.actors ++ fresh ∷ []) state.timers names' n adopt
          (λ a. refl) (λ a. refl) (λ a. refl) (λ a. refl) (λ a. refl) (λ a. refl) (λ a is. is) pushed;
      kinds = each_at number_of (Except K next (λ a. a ≡ fresh)) (Except K' next (λ a. a ≡ fresh)) n adopt (state.actors ++ fresh ∷ [])
          (pairs_push (λ (x y : ActorRecord). x.number < y.number) state.actors fresh sound.tree.rise (each_mono (λ (z : ActorRecord). IsGiven next z.number) (λ (z : ActorRecord). z.number < fresh.number) state.actors (λ z given. omega (arith, given.1)) sound.tree.given))
          (kinds_push K next state.actors fresh sound.tree fresh_number sound.kinds)
          (λ a differs kind. record { other = λ old. others a differs (kind.other old); one = kind.one })
          (λ a seen kind. (
          let at_n : a.number ≡ n = look_number number_of (state.actors ++ fresh ∷ []) n a seen in
          record { other = λ old. target a (old_seen a seen) (kind.other old); one = λ new. absurd (omega arith) }));
    } where
      old_seen : (a : ActorRecord) → record_in (state.actors ++ fresh ∷ []) n ≡ Some a → record_in state.actors n ≡ Some a
      old_seen a seen =
          let parent = running state.actors n runner in
          let before : record_in (state.actors ++ fresh ∷ []) n ≡ Some parent.0 = look_push number_of state.actors fresh n ∙ ap (λ (o : Option ActorRecord). option_or o (record_in (fresh ∷ []) n)) parent.1 in
          parent.1 ∙ sym before ∙ seen

-- ---- a child is stopped

timers_fewer : (gone : List ℕ) (timers : List Timer) → length (fold (λ (others : List Timer) (m : ℕ). without_owner m others) timers gone) ≤ length timers
timers_fewer gone timers =
    omega (arith, ap length (fold_without (λ (timer : Timer). timer.owner) gone timers), length_filter_le (λ (timer : Timer). not (is_among gone timer.owner)) timers)

pub stop_sound : (K K' : ActorRecord → Type 0) (callers : List Caller) (state : OfficeState) (n : ℕ) (id : List ℕ) (x : ℕ) (parent : ActorRecord) → SoundOffice K callers state
    → record_in state.actors n ≡ Some parent → EachPair (λ (a b : List ℕ × ℕ). a.0 ≢ b.0) parent.kids → lookup (bytes_eq id) parent.kids ≡ Some x
    → ((a : ActorRecord) → a.number ≢ n → K a → K' a) → ((a : ActorRecord) → record_in state.actors n ≡ Some a → K a → K' (without_kid id a))
    → SoundOffice K' callers (with_actor (removed x state) n (without_kid id))
unfolding removed subtree_of
stop_sound K K' callers state n id x parent sound seen differ found others target =
    let gone : List ℕ = all_below state.actors (x ∷ []) in
    let left : List ActorRecord = filter (λ (a : ActorRecord). not (is_among gone a.number)) state.actors in
    let fewer_letters = sum_filter_le (λ (a : ActorRecord). length a.mailbox) (λ (a : ActorRecord). not (is_among gone a.number)) state.actors in
    let same_letters = sum_map_le (λ (a : ActorRecord). length a.mailbox) (change_at number_of n (without_kid id)) left
    (λ a. either_at (λ (z : ActorRecord). length z.mailbox ≤ length a.mailbox) n (without_kid id) a (omega arith) (omega arith)) in
    record {
      counts = record {
        actor = sound.counts.actor;
        letter = sound.counts.letter;
        timer = sound.counts.timer;
        active = (
            let few : active_actors state ≤ MAX_ACTIVE_ACTORS = sound.counts.active in
            let fewer = active_at_le n (without_kid id) left (λ a. refl) in
            let kept = passing_filter_le is_active (λ (a : ActorRecord). not (is_among gone a.number)) state.actors in
            omega arith);
        waiting = (let few : waiting_letters state ≤ MAX_LETTERS = sound.counts.waiting in omega arith);
        standing = (let few : length state.timers ≤ MAX_TIMERS = sound.counts.standing in omega (arith, timers_fewer gone state.timers));
        moment = sound.counts.moment;
        entries = sound.counts.entries;
        same_callers = sound.counts.same_callers;
      };
      tree = tree_stop state.next_actor state.actors sound.tree n parent id x seen differ found;
      parts = parts_quiet state.next_actor state.next_letter state.next_timer left (fold (λ (timers : List Timer) (m : ℕ). without_owner m timers) state.timers gone) (fold without_holder state.names gone) n (without_kid id)
          (λ a. refl) (λ a. refl) (λ a. refl) (λ a. refl) (λ a. refl) (λ a. refl) (λ a is. is)
          (parts_gone gone state.next_actor state.next_letter state.next_timer state.actors state.timers state.names sound.parts);
      kinds = each_at number_of K K' n (without_kid id) left (pairs_filter (λ (y z : ActorRecord). y.number < z.number) (λ (a : ActorRecord). not (is_among gone a.number)) state.actors sound.tree.rise)
          (each_filter K (λ (a : ActorRecord). not (is_among gone a.number)) state.actors sound.kinds) others (λ a there. target a (left_seen a there));
    } where
      left_seen : (a : ActorRecord) → record_in (filter (λ (z : ActorRecord). not (is_among (all_below state.actors (x ∷ [])) z.number)) state.actors) n ≡ Some a → record_in state.actors n ≡ Some a
      left_seen a there = by_test (is_among (all_below state.actors (x ∷ [])) n) (sym (look_filter number_of (λ m. not (is_among (all_below state.actors (x ∷ [])) m)) state.actors n) ∙ there) where
        by_test : (b : Bool) → (if not b then record_in state.actors n else None) ≡ Some a → record_in state.actors n ≡ Some a
        by_test true is = absurd (cc)
        by_test false is = is

-- ---- an actor ends

pub end_sound : (K K' : ActorRecord → Type 0) (callers : List Caller) (state : OfficeState) (n : ℕ) (end : ActorRecord → ActorRecord) → SoundOffice K callers state
    → ((a : ActorRecord) → (end a).number ≡ a.number) → ((a : ActorRecord) → (end a).parent ≡ a.parent) → ((a : ActorRecord) → (end a).kids ≡ a.kids) → ((a : ActorRecord) → is_active (end a) ≡ false)
    → ((a : ActorRecord) → (end a).mailbox ≡ []) → ((a : ActorRecord) → (end a).system ≡ None)
    → ((a : ActorRecord) → record_in state.actors n ≡ Some a → RecordRules a → RecordRules (end a)) → ((a : ActorRecord) → record_in state.actors n ≡ Some a → K a → K' (end a))
    → ((a : ActorRecord) → a.number ≢ n → is_active a ≡ true → K a → K' (ended_record status.Stopped a)) → ((a : ActorRecord) → a.number ≢ n → K a → K' a)
    → SoundOffice K' callers (after_end end n state)
unfolding after_end subtree_of
end_sound K K' callers state n end sound same_number same_parent same_kids inactive empty unnamed stands_end target stops others =
    let gone : List ℕ = all_below state.actors (n ∷ []) in
    let itself : is_among gone n ≡ true = below_found state.actors (n ∷ []) n (among_itself n) in
    let f : ActorRecord → ActorRecord = record_after_end gone n end in
    record {
      counts = record {
        actor = sound.counts.actor;
        letter = sound.counts.letter;
        timer = sound.counts.timer;
        active = (
            let few : active_actors state ≤ MAX_ACTIVE_ACTORS = sound.counts.active in
            let fewer = passing_map_le is_active f state.actors (λ a is. was_active gone a is) in
            omega arith);
        waiting = (
            let few : waiting_letters state ≤ MAX_LETTERS = sound.counts.waiting in
            let fewer = sum_map_le (λ (a : ActorRecord). length a.mailbox) f state.actors (mailbox_after gone n end same_number empty unnamed itself) in
            omega arith);
        standing = (let few : length state.timers ≤ MAX_TIMERS = sound.counts.standing in omega (arith, timers_fewer gone state.timers));
        moment = sound.counts.moment;
        entries = sound.counts.entries;
        same_callers = sound.counts.same_callers;
      };
      tree = tree_map state.next_actor state.actors sound.tree f (number_after gone n end same_number empty unnamed itself)
          (λ a. end_cases (λ (z : ActorRecord). z.parent ≡ a.parent) gone n end a (λ is. same_parent a) (λ other below active. refl) (λ other below ended. refl) (λ other beside. refl))
          (λ a. end_cases (λ (z : ActorRecord). z.kids ≡ a.kids) gone n end a (λ is. same_kids a) (λ other below active. refl) (λ other below ended. refl) (λ other beside. refl))
          (λ m a p b seen parent above active. (
          let child = sound.tree.parents m a p seen parent in
          let same_record : Some child.above ≡ Some b = sym child.seen ∙ above in
          let same : child.above ≡ b = cc in
          let at_m : a.number ≡ m = look_number number_of state.actors m a seen in
          let at_p : b.number ≡ p = look_number number_of state.actors p b above in
          let beside : is_among gone a.number ≡ false = active_beside gone itself a active in
          ap is_active (stays_after gone n end same_number empty unnamed itself b (ap (is_among gone) at_p ∙ up_beside m a p seen parent (ap (is_among gone) (sym at_m) ∙ beside)))
          ∙ ap is_active (sym same) ∙ child.active (was_active gone a active)));
      parts = parts_end gone n end same_number empty unnamed itself state.next_actor state.next_letter state.next_timer state.actors state.timers state.names sound.tree.rise stands_end sound.parts;
      kinds = each_map K' f state.actors (look_each number_of (λ (a : ActorRecord). K' (f a)) state.actors sound.tree.rise (λ m a seen. (
          let kind : K a = each_look number_of K state.actors sound.kinds m a seen in
          end_cases K' gone n end a (λ is. target a (ap (record_in state.actors) (sym is ∙ look_number number_of state.actors m a seen) ∙ seen) kind)
          (λ other below active. stops a other active kind) (λ other below ended. others a other kind) (λ other beside. others a other kind))));
    } where
      was_active : (gone : List ℕ) (a : ActorRecord) → is_active (record_after_end gone n end a) ≡ true → is_active a ≡ true
      was_active gone a = end_cases (λ (z : ActorRecord). is_active z ≡ true → is_active a ≡ true) gone n end a
          (λ is active. absurd (true≢false (sym active ∙ inactive a))) (λ other below active is. active) (λ other below ended is. is) (λ other beside is. is)

      active_beside : (gone : List ℕ) → is_among gone n ≡ true → (a : ActorRecord) → is_active (record_after_end gone n end a) ≡ true → is_among gone a.number ≡ false
      active_beside gone itself a = end_cases (λ (z : ActorRecord). is_active z ≡ true → is_among gone a.number ≡ false) gone n end a
          (λ is active. absurd (true≢false (sym active ∙ inactive a))) (λ other below active is. absurd (true≢false (sym is))) (λ other below ended is. absurd (true≢false (sym is ∙ ended))) (λ other beside is. beside)

      up_beside : (m : ℕ) (a : ActorRecord) (p : ℕ) → record_in state.actors m ≡ Some a → a.parent ≡ Some p → is_among (all_below state.actors (n ∷ [])) m ≡ false → is_among (all_below state.actors (n ∷ [])) p ≡ false
      up_beside m a p seen parent kept = elim (cases_Bool (is_among (all_below state.actors (n ∷ [])) p)) [
        | inl is ↦ absurd (true≢false (sym (below_closed state.actors (n ∷ []) m p a sound.tree.rise (parents_smaller state.next_actor state.actors sound.tree) seen parent is) ∙ kept))
        | inr is ↦ is
      ]

-- ---- timers and the moment

pub timers_sound : (K : ActorRecord → Type 0) (callers : List Caller) (state : OfficeState) (timers' : List Timer) (next : ℕ) → SoundOffice K callers state → IsNextNumber next → length timers' ≤ MAX_TIMERS
    → AllByRecursion (FitsTimer state.next_actor next state.actors) timers' → Rises (λ (timer : Timer). timer.order) timers' → EachPair (λ (a b : Timer). AreOfOneId a b → ⊥) timers'
    → SoundOffice K callers (record state { timers = timers'; next_timer = next })
timers_sound K callers state timers' next sound number few fit rising ids = record {
  counts = record {
    actor = sound.counts.actor;
    letter = sound.counts.letter;
    timer = number;
    active = sound.counts.active;
    waiting = sound.counts.waiting;
    standing = few;
    moment = sound.counts.moment;
    entries = sound.counts.entries;
    same_callers = sound.counts.same_callers;
  };
  tree = sound.tree;
  parts = record {
    stands = sound.parts.stands;
    mail = sound.parts.mail;
    once = sound.parts.once;
    timers_fit = fit;
    timers_rise = rising;
    timer_ids = ids;
    names_same = sound.parts.names_same;
    names_once = sound.parts.names_once;
  };
  kinds = sound.kinds;
}

-- some of the timers are left
pub fewer_timers_sound : (K : ActorRecord → Type 0) (callers : List Caller) (state : OfficeState) (keep : Timer → Bool) → SoundOffice K callers state → SoundOffice K callers (record state { timers = filter keep state.timers })
fewer_timers_sound K callers state keep sound =
    timers_sound K callers state (filter keep state.timers) state.next_timer sound sound.counts.timer
    (let few : length state.timers ≤ MAX_TIMERS = sound.counts.standing in omega (arith, length_filter_le keep state.timers))
    (each_filter (FitsTimer state.next_actor state.next_timer state.actors) keep state.timers sound.parts.timers_fit)
    (pairs_filter (λ (a b : Timer). a.order < b.order) keep state.timers sound.parts.timers_rise)
    (pairs_filter (λ (a b : Timer). AreOfOneId a b → ⊥) keep state.timers sound.parts.timer_ids)

pub moment_sound : (K : ActorRecord → Type 0) (callers : List Caller) (state : OfficeState) (moment' : ℕ) → moment' ≤ MAX_MOMENT → SoundOffice K callers state → SoundOffice K callers (record state { moment = moment' })
moment_sound K callers state moment' within sound = record {
  counts = record {
    actor = sound.counts.actor;
    letter = sound.counts.letter;
    timer = sound.counts.timer;
    active = sound.counts.active;
    waiting = sound.counts.waiting;
    standing = sound.counts.standing;
    moment = within;
    entries = sound.counts.entries;
    same_callers = sound.counts.same_callers;
  };
  tree = sound.tree;
  parts = sound.parts;
  kinds = sound.kinds;
}
