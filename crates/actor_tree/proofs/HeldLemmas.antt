-- What is held, after one record changed.
use Rattle.std.proofs.Common.{◌≡◌, ℕ, ◌+◌, ◌<◌, Bool, true, false, cond, List, [], ◌∷◌, filter, length, map, nat_eq, not, None, Option, Some, IfSome, refl, sym, ap, ◌∙◌, subst, arith}
use Rattle.std.specs.List.{AllByRecursion, cons_option, filter_map}
use Rattle.office_types.specs.declared.office.ActorRecord.{ActorRecord}
use Rattle.office_types.specs.declared.office.Item.{Item}
use Rattle.office_types.specs.declared.office.OfficeState.{OfficeState}
use Rattle.office_types.specs.declared.office.Timer.{Timer}
use Rattle.office_types.specs.Records.{is_active}
use Rattle.office_types.specs.SystemNames.{without_holder}
use Rattle.office_types.specs.Timers.{beside, has_id, with_scheduled, without_id, without_owner}
use Rattle.std.specs.Option.{option_map_or}
use Rattle.office_types.specs.WorkItems.{open_item, without_item}
use Rattle.actor_tree.specs.declared.actor.Actor.{Actor}
use Rattle.actor_tree.specs.declared.counts.Counts.{Counts}
use Rattle.actor_tree.specs.Actors.{records_of}
use Rattle.actor_tree.specs.HeldOffice.{active_in, HasOwnItem, IsChangedAt, IsHeld, IsTakenFrom, letters_in, Needs, office_with}
use Rattle.actor_tree.proofs.PushLemmas.{all_push, all_so}
use Rattle.actor_tree.proofs.ChangedLemmas.{active_kept, changed, given_kept, items_kept, numbered_kept}

-- those that pass a test still have what all had
pub all_passing : {X : Type 0} (P : X → Type 0) (test : X → Bool) (xs : List X) → AllByRecursion P xs → AllByRecursion P (filter test xs)
all_passing P test [] all = tt
all_passing P test (x ∷ xs) all = by_test (all_passing P test xs all.1) (test x)
  where
    by_test : AllByRecursion P (filter test xs) → (b : Bool) → AllByRecursion P (cond b (x ∷ filter test xs) (filter test xs))
    by_test rest true = (all.0, rest)
    by_test rest false = rest

abbrev ItemsBeside : ℕ → List Item → Option Item → Type 0
ItemsBeside number items o = cons_option o (without_item number items) ≡ without_item number (cons_option o items)

-- an item of another number stays
stays : (number : ℕ) (items : List Item) (o : Option Item) → ((item : Item) → o ≡ Some item → nat_eq item.actor number ≡ false) → ItemsBeside number items o
stays number items None other = refl
stays number items (Some item) other = rw (other item refl) refl

-- one of this number is left out
goes : (number : ℕ) (items : List Item) (o : Option Item) → ((item : Item) → o ≡ Some item → nat_eq item.actor number ≡ true) → without_item number items ≡ without_item number (cons_option o items)
goes number items None same = refl
goes number items (Some item) same = rw (same item refl) refl

-- the open item of a record has the record's number
its_number : (actor : ActorRecord) → HasOwnItem actor → (n : ℕ) (b : Bool) → nat_eq actor.number n ≡ b → (item : Item) → open_item actor ≡ Some item → nat_eq item.actor n ≡ b
its_number actor own n b is item opened = by_active (is_active actor) opened
  where
    of_item : (o : Option Item) → IfSome o (λ (i : Item). i.actor ≡ actor.number) → o ≡ Some item → nat_eq item.actor n ≡ b
    of_item None same e = absurd (cc)
    of_item (Some other) same e = let here : other.actor ≡ actor.number = same in let this : other ≡ item = cc in ap (λ (i : Item). nat_eq i.actor n) (sym this) ∙ ap (λ (m : ℕ). nat_eq m n) here ∙ is

    by_active : (t : Bool) → cond t actor.item None ≡ Some item → nat_eq item.actor n ≡ b
    by_active true e = of_item actor.item own e
    by_active false e = absurd (cc)

-- the open items after a record ended
pub items_after_end : (number : ℕ) (change : ActorRecord → ActorRecord) → ((actor : ActorRecord) → is_active (change actor) ≡ false) → (actors : List ActorRecord) → AllByRecursion HasOwnItem actors
    → filter_map open_item (map (changed number change) actors) ≡ without_item number (filter_map open_item actors)
items_after_end number change ends [] own = refl
items_after_end number change ends (first ∷ actors) own = by_number (items_after_end number change ends actors own.1) (nat_eq first.number number) refl
  where
    by_number : filter_map open_item (map (changed number change) actors) ≡ without_item number (filter_map open_item actors) → (b : Bool) → nat_eq first.number number ≡ b
        → cons_option (open_item (cond b (change first) first)) (filter_map open_item (map (changed number change) actors)) ≡ without_item number (cons_option (open_item first) (filter_map open_item actors))
    by_number rest true is =
        ap (λ (b : Bool). cons_option (cond b (change first).item None) (filter_map open_item (map (changed number change) actors))) (ends first) ∙ rest
        ∙ goes number (filter_map open_item actors) (open_item first) (its_number first own.0 number true is)
    by_number rest false is = ap (cons_option (open_item first)) rest ∙ stays number (filter_map open_item actors) (open_item first) (its_number first own.0 number false is)

-- the open items without a record
pub items_without : (number : ℕ) (actors : List ActorRecord) → AllByRecursion HasOwnItem actors
    → filter_map open_item (filter (λ (actor : ActorRecord). not (nat_eq actor.number number)) actors) ≡ without_item number (filter_map open_item actors)
items_without number [] own = refl
items_without number (first ∷ actors) own = by_number (items_without number actors own.1) (nat_eq first.number number) refl
  where
    by_number : filter_map open_item (filter (λ (actor : ActorRecord). not (nat_eq actor.number number)) actors) ≡ without_item number (filter_map open_item actors) → (b : Bool) → nat_eq first.number number ≡ b
        → filter_map open_item (cond (not b) (first ∷ filter (λ (actor : ActorRecord). not (nat_eq actor.number number)) actors) (filter (λ (actor : ActorRecord). not (nat_eq actor.number number)) actors))
        ≡ without_item number (cons_option (open_item first) (filter_map open_item actors))
    by_number rest true is = rest ∙ goes number (filter_map open_item actors) (open_item first) (its_number first own.0 number true is)
    by_number rest false is = ap (cons_option (open_item first)) rest ∙ stays number (filter_map open_item actors) (open_item first) (its_number first own.0 number false is)

module _ (actors new : List (ℕ × Actor)) (names : List (List ℕ × ℕ)) (timers : List Timer) (items : List Item) (counts : Counts) (held : IsHeld actors (office_with actors names timers counts) items counts) where
  -- one record changed, with its number, its item and whether it is active as before
  pub still_held : (number : ℕ) (change : ActorRecord → ActorRecord) (needs : Needs) → IsChangedAt number change needs actors new
      → ((actor : ActorRecord) → (change actor).number ≡ actor.number) → ((actor : ActorRecord) → (change actor).item ≡ actor.item) → ((actor : ActorRecord) → is_active (change actor) ≡ is_active actor)
      → (waiting next_letter : ℕ) → waiting ≡ letters_in new
      → IsHeld new (office_with new names timers (record counts { waiting = waiting; next_letter = next_letter })) items (record counts { waiting = waiting; next_letter = next_letter })
  still_held number change needs is number_kept item_kept active waiting next_letter counted = record {
    numbers_rise = is.rise;
    active = held.active ∙ sym (ap (λ (records : List ActorRecord). length (filter is_active records)) is.records ∙ active_kept number change active (records_of actors));
    waiting = counted;
    items_open = held.items_open ∙ sym (ap (filter_map open_item) is.records ∙ items_kept number change (λ actor. rw (active actor, item_kept actor) refl) (records_of actors));
    numbered = subst (AllByRecursion HasOwnItem) (sym is.records) (numbered_kept number change number_kept item_kept (records_of actors) held.numbered);
    actors_given = subst (AllByRecursion (λ (actor : ActorRecord). actor.number < counts.next_actor)) (sym is.records) (given_kept counts.next_actor number change number_kept (records_of actors) held.actors_given);
    holders_given = held.holders_given;
    timers_given = held.timers_given;
  }

  -- one record ended
  pub held_after_end : (number : ℕ) (change : ActorRecord → ActorRecord) (needs : Needs) → IsChangedAt number change needs actors new
      → ((actor : ActorRecord) → (change actor).number ≡ actor.number) → ((actor : ActorRecord) → (change actor).item ≡ actor.item) → ((actor : ActorRecord) → is_active (change actor) ≡ false)
      → (active waiting : ℕ) → active ≡ active_in new → waiting ≡ letters_in new
      → IsHeld new (office_with new (without_holder names number) (without_owner number timers) (record counts { active = active; waiting = waiting })) (without_item number items) (record counts { active = active; waiting = waiting })
  held_after_end number change needs is number_kept item_kept ends active waiting running counted = record {
    numbers_rise = is.rise;
    active = running;
    waiting = counted;
    items_open = ap (without_item number) held.items_open ∙ sym (ap (filter_map open_item) is.records ∙ items_after_end number change ends (records_of actors) held.numbered);
    numbered = subst (AllByRecursion HasOwnItem) (sym is.records) (numbered_kept number change number_kept item_kept (records_of actors) held.numbered);
    actors_given = subst (AllByRecursion (λ (actor : ActorRecord). actor.number < counts.next_actor)) (sym is.records) (given_kept counts.next_actor number change number_kept (records_of actors) held.actors_given);
    holders_given = all_passing (λ (holder : List ℕ × ℕ). holder.1 < counts.next_actor) (λ (holder : List ℕ × ℕ). not (nat_eq holder.1 number)) names held.holders_given;
    timers_given = all_passing (λ (timer : Timer). timer.order < counts.next_timer) (λ (timer : Timer). not (nat_eq timer.owner number)) timers held.timers_given;
  }

  -- one record is gone
  pub held_without : (number : ℕ) → IsTakenFrom number actors new → (active waiting : ℕ) → active ≡ active_in new → waiting ≡ letters_in new
      → IsHeld new (office_with new (without_holder names number) (without_owner number timers) (record counts { active = active; waiting = waiting })) (without_item number items) (record counts { active = active; waiting = waiting })
  held_without number is active waiting running counted =
      let others : ActorRecord → Bool = λ (actor : ActorRecord). not (nat_eq actor.number number) in
      record {
        numbers_rise = is.rise;
        active = running;
        waiting = counted;
        items_open = ap (without_item number) held.items_open ∙ sym (ap (filter_map open_item) is.records ∙ items_without number (records_of actors) held.numbered);
        numbered = subst (AllByRecursion HasOwnItem) (sym is.records) (all_passing HasOwnItem others (records_of actors) held.numbered);
        actors_given = subst (AllByRecursion (λ (actor : ActorRecord). actor.number < counts.next_actor)) (sym is.records)
            (all_passing (λ (actor : ActorRecord). actor.number < counts.next_actor) others (records_of actors) held.actors_given);
        holders_given = all_passing (λ (holder : List ℕ × ℕ). holder.1 < counts.next_actor) (λ (holder : List ℕ × ℕ). not (nat_eq holder.1 number)) names held.holders_given;
        timers_given = all_passing (λ (timer : Timer). timer.order < counts.next_timer) (λ (timer : Timer). not (nat_eq timer.owner number)) timers held.timers_given;
      }

  -- other timers stand
  pub held_with_timers : (others : List Timer) (moment next_timer : ℕ) → actors ≡ new → AllByRecursion (λ (timer : Timer). timer.order < next_timer) others
      → IsHeld actors (office_with actors names others (record counts { moment = moment; next_timer = next_timer })) items (record counts { moment = moment; next_timer = next_timer })
  held_with_timers others moment next_timer same given = record {
    numbers_rise = held.numbers_rise;
    active = held.active;
    waiting = held.waiting;
    items_open = held.items_open;
    numbered = held.numbered;
    actors_given = held.actors_given;
    holders_given = held.holders_given;
    timers_given = given;
  }

-- the timers beside a new one, and the new one
pub given_scheduled : (next : ℕ) (timer : Timer) (timers : List Timer) → timer.order < next + 1 → AllByRecursion (λ (timer : Timer). timer.order < next) timers → AllByRecursion (λ (timer : Timer). timer.order < next + 1) (with_scheduled timers timer)
given_scheduled next timer timers new below = all_push (λ (timer : Timer). timer.order < next + 1) (beside timer timers) timer
    (all_so (λ (timer : Timer). timer.order < next) (λ (timer : Timer). timer.order < next + 1) (beside timer timers) (λ other less. omega arith) (by_id timer.id)) new
  where
    by_id : (id : Option (List ℕ)) → AllByRecursion (λ (timer : Timer). timer.order < next) (option_map_or (λ (id : List ℕ). without_id timer.owner id timers) id timers)
    by_id None = below
    by_id (Some id) = all_passing (λ (timer : Timer). timer.order < next) (λ (other : Timer). not (has_id timer.owner id other)) timers below

-- an office of other actors, names and timers
pub same_office : (office : OfficeState) (actors others : List ActorRecord) (names other_names : List (List ℕ × ℕ)) (timers other_timers : List Timer) → actors ≡ others → names ≡ other_names → timers ≡ other_timers
    → record office { actors = actors; names = names; timers = timers } ≡ record office { actors = others; names = other_names; timers = other_timers }
same_office office actors others names other_names timers other_timers a n t =
    ap (λ (l : List ActorRecord). record office { actors = l; names = names; timers = timers }) a
    ∙ ap (λ (l : List (List ℕ × ℕ)). record office { actors = others; names = l; timers = timers }) n
    ∙ ap (λ (l : List Timer). record office { actors = others; names = other_names; timers = l }) t
