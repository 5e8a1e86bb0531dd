-- What one changed actor makes of the records, the letters and the rooms of all that are held.
use Rattle.std.proofs.Common.{◌≡◌, ℕ, ◌+◌, ◌<◌, ◌≤◌, Bool, true, false, cond, List, [], ◌∷◌, filter, length, map, nat_eq, unwrap_or, OnOk, Option, Result, Ok, Err, Some, None, IsSome, refl, sym, ap, ◌∙◌, subst, arith}
use Rattle.std.specs.declared.cmp.Ordering.TheVariants.{Less}
use Rattle.std.specs.Ordering.{nat_cmp}
use Rattle.std.specs.List.{AllByRecursion, cons_option, filter_map}
use Rattle.std.specs.List.Sorted.{IsStrictlySortedBy}
use Rattle.std.specs.Option.{option_map}
use Rattle.std.proofs.lemmas.Bool.{eqb-true, eq-eqb}
use Rattle.std.proofs.lemmas.Cmp.{ranked}
use Rattle.std.proofs.lemmas.List.Sums.{sum_by-cons}
use Rattle.office_types.specs.declared.office.ActorRecord.{ActorRecord}
use Rattle.office_types.specs.Records.{is_active, is_active_status}
use Rattle.office_types.specs.WorkItems.{open_item}
use Rattle.office_books.specs.NumberedItems.{numbered_item, NumbersRise, with_numbered_item}
use Rattle.office_books.proofs.KeyIndexLemmas.{other_number}
use Rattle.actor_tree.specs.declared.actor.Actor.{Actor}
use Rattle.actor_tree.specs.Actors.{record_of, records_of}
use Rattle.actor_tree.specs.HeldOffice.{active_in, AreRoomsBeside, HasOwnItem, HasRoomOf, IsChangedAt, kid_room, letter_room, letters_in, Needs, room_among, rooms_by, times_among}

abbrev pub changed : ℕ → (ActorRecord → ActorRecord) → ActorRecord → ActorRecord
changed number change actor = cond (nat_eq actor.number number) (change actor) actor

abbrev numbers : List (ℕ × Actor) → List ℕ
numbers actors = map (λ (pair : ℕ × Actor). pair.0) actors

inside : {x y : Actor} → ◌≡◌ {A = Option Actor} (Some x) (Some y) → x ≡ y
inside {x} e = ap (λ (o : Option Actor). unwrap_or o x) e

module _ (room : Actor → ℕ) where
  pub rooms_found : (number : ℕ) (actors : List (ℕ × Actor)) → numbered_item number (rooms_by room actors) ≡ option_map room (numbered_item number actors)
  rooms_found number [] = refl
  rooms_found number (first ∷ actors) = cases (rooms_found number actors) (nat_eq first.0 number)
    where
      cases : numbered_item number (rooms_by room actors) ≡ option_map room (numbered_item number actors) → (b : Bool)
          → cond b (Some (room first.1)) (numbered_item number (rooms_by room actors)) ≡ option_map room (cond b (Some first.1) (numbered_item number actors))
      cases rest true = refl
      cases rest false = rest

  -- the room of an actor that is held
  pub room_there : (number : ℕ) (actors : List (ℕ × Actor)) (actor : Actor) → numbered_item number actors ≡ Some actor → room_among number (rooms_by room actors) ≡ room actor
  room_there number actors actor held = ap (λ (o : Option ℕ). unwrap_or o 0) (rooms_found number actors ∙ ap (option_map room) held)

  pub is_there : (number : ℕ) (actors : List (ℕ × Actor)) (actor : Actor) → numbered_item number actors ≡ Some actor → IsSome (numbered_item number (rooms_by room actors))
  is_there number actors actor held = rw (rooms_found number actors, held) refl

  -- rooms that aren't touched
  pub rooms_stay : (users : List ℕ) (actors : List (ℕ × Actor)) → AreRoomsBeside users (rooms_by room actors) (rooms_by room actors)
  rooms_stay users actors number there = (there, omega arith)

pub letters_cons : (first : ℕ × Actor) (actors : List (ℕ × Actor)) → letters_in (first ∷ actors) ≡ length first.1.mailbox.items + letters_in actors
letters_cons first actors = sum_by-cons (λ (actor : ActorRecord). length actor.mailbox) (record_of first.0 first.1) (records_of actors)

pub active_cons : (first : ℕ × Actor) (actors : List (ℕ × Actor)) → active_in (first ∷ actors) ≡ cond (is_active_status first.1.status) 1 0 + active_in actors
active_cons first actors = cases (is_active_status first.1.status)
  where
    cases : (b : Bool) → length (cond b (record_of first.0 first.1 ∷ filter is_active (records_of actors)) (filter is_active (records_of actors))) ≡ cond b 1 0 + active_in actors
    cases true = omega arith
    cases false = omega arith

module _ (number : ℕ) (new : Actor) where
  same_numbers : (actors : List (ℕ × Actor)) → numbers (with_numbered_item number new actors) ≡ numbers actors
  same_numbers [] = refl
  same_numbers (first ∷ actors) = cases (same_numbers actors) (nat_eq first.0 number)
    where
      cases : numbers (with_numbered_item number new actors) ≡ numbers actors → (b : Bool) → (cond b (first.0, new) first).0 ∷ numbers (with_numbered_item number new actors) ≡ first.0 ∷ numbers actors
      cases rest true = ap (λ l. first.0 ∷ l) rest
      cases rest false = ap (λ l. first.0 ∷ l) rest

  apart : (other : ℕ) → nat_cmp number other ≡ Less → nat_eq other number ≡ false
  apart other e = let low : number < other = ranked number other Less (sym e) in other_number other number (λ same. omega arith)

  -- no actor of a greater number is changed
  as_before : (actors : List (ℕ × Actor)) → AllByRecursion (λ l. nat_cmp number l ≡ Less) (numbers actors) → with_numbered_item number new actors ≡ actors
  as_before [] above = refl
  as_before (first ∷ actors) above = rw (apart first.0 above.0) (ap (λ l. first ∷ l) (as_before actors above.1))

  same_records : (change : ActorRecord → ActorRecord) (actors : List (ℕ × Actor)) → AllByRecursion (λ l. nat_cmp number l ≡ Less) (numbers actors) → records_of actors ≡ map (changed number change) (records_of actors)
  same_records change [] above = refl
  same_records change (first ∷ actors) above = rw (apart first.0 above.0) (ap (λ l. record_of first.0 first.1 ∷ l) (same_records change actors above.1))

  found_with : (other : ℕ) (actors : List (ℕ × Actor))
      → numbered_item other (with_numbered_item number new actors) ≡ cond (nat_eq other number) (option_map (λ (actor : Actor). new) (numbered_item other actors)) (numbered_item other actors)
  found_with other [] = nothing (nat_eq other number)
    where
      nothing : (b : Bool) → ◌≡◌ {A = Option Actor} None (cond b None None)
      nothing true = refl
      nothing false = refl
  found_with other (first ∷ actors) = cases (found_with other actors) (nat_eq first.0 number) (nat_eq first.0 other) refl refl
    where
      cases : numbered_item other (with_numbered_item number new actors) ≡ cond (nat_eq other number) (option_map (λ (actor : Actor). new) (numbered_item other actors)) (numbered_item other actors)
          → (b c : Bool) → nat_eq first.0 number ≡ b → nat_eq first.0 other ≡ c
          → cond (nat_eq (cond b (first.0, new) first).0 other) (Some (cond b (first.0, new) first).1) (numbered_item other (with_numbered_item number new actors))
          ≡ cond (nat_eq other number) (option_map (λ (actor : Actor). new) (cond c (Some first.1) (numbered_item other actors))) (cond c (Some first.1) (numbered_item other actors))
      cases rest true true e f = let here : nat_eq other number ≡ true = ap (λ (n : ℕ). nat_eq n number) (sym (eqb-true first.0 other f)) ∙ e in rw (f, here) refl
      cases rest false true e f = let there : nat_eq other number ≡ false = ap (λ (n : ℕ). nat_eq n number) (sym (eqb-true first.0 other f)) ∙ e in rw (f, there) refl
      cases rest true false e f = rw f rest
      cases rest false false e f = rw f rest

  module _ (old : Actor) (change : ActorRecord → ActorRecord) (same : record_of number new ≡ change (record_of number old)) where
    pub records_with : (actors : List (ℕ × Actor)) → NumbersRise actors → numbered_item number actors ≡ Some old
        → records_of (with_numbered_item number new actors) ≡ map (changed number change) (records_of actors)
    unfolding IsStrictlySortedBy
    records_with [] rise = λ held. absurd (cc)
    records_with (first ∷ actors) rise = cases (records_with actors rise.1) (nat_eq first.0 number) refl
      where
        cases : (numbered_item number actors ≡ Some old → records_of (with_numbered_item number new actors) ≡ map (changed number change) (records_of actors)) → (b : Bool) → nat_eq first.0 number ≡ b
            → cond b (Some first.1) (numbered_item number actors) ≡ Some old
            → record_of (cond b (first.0, new) first).0 (cond b (first.0, new) first).1 ∷ records_of (with_numbered_item number new actors)
            ≡ cond b (change (record_of first.0 first.1)) (record_of first.0 first.1) ∷ map (changed number change) (records_of actors)
        cases rest true e held =
            let is : first.0 ≡ number = eqb-true first.0 number e in
            let above : AllByRecursion (λ l. nat_cmp number l ≡ Less) (numbers actors) = subst (λ (n : ℕ). AllByRecursion (λ l. nat_cmp n l ≡ Less) (numbers actors)) is rise.0 in
            let head : record_of first.0 new ≡ change (record_of first.0 first.1) = rw (is, inside held) same in
            rw (head, as_before actors above) (ap (λ l. change (record_of first.0 first.1) ∷ l) (same_records change actors above))
        cases rest false e held = ap (λ l. record_of first.0 first.1 ∷ l) (rest held)

    pub letters_with : (actors : List (ℕ × Actor)) → NumbersRise actors → numbered_item number actors ≡ Some old
        → letters_in (with_numbered_item number new actors) + length old.mailbox.items ≡ letters_in actors + length new.mailbox.items
    unfolding IsStrictlySortedBy
    letters_with [] rise = λ held. absurd (cc)
    letters_with (first ∷ actors) rise = cases (letters_with actors rise.1) (nat_eq first.0 number) refl
      where
        cases : (numbered_item number actors ≡ Some old → letters_in (with_numbered_item number new actors) + length old.mailbox.items ≡ letters_in actors + length new.mailbox.items)
            → (b : Bool) → nat_eq first.0 number ≡ b → cond b (Some first.1) (numbered_item number actors) ≡ Some old
            → letters_in (cond b (first.0, new) first ∷ with_numbered_item number new actors) + length old.mailbox.items ≡ letters_in (first ∷ actors) + length new.mailbox.items
        cases rest true e held =
            let is : first.0 ≡ number = eqb-true first.0 number e in
            let above : AllByRecursion (λ l. nat_cmp number l ≡ Less) (numbers actors) = subst (λ (n : ℕ). AllByRecursion (λ l. nat_cmp n l ≡ Less) (numbers actors)) is rise.0 in
            let this : length first.1.mailbox.items ≡ length old.mailbox.items = ap (λ (actor : Actor). length actor.mailbox.items) (inside held) in
            let all : letters_in ((first.0, new) ∷ actors) + length old.mailbox.items ≡ letters_in (first ∷ actors) + length new.mailbox.items =
            omega (arith, this, letters_cons (first.0, new) actors, letters_cons first actors) in
            rw (as_before actors above) all
        cases rest false e held =
            let others = rest held in
            let all : letters_in (first ∷ with_numbered_item number new actors) + length old.mailbox.items ≡ letters_in (first ∷ actors) + length new.mailbox.items =
            omega (arith, others, letters_cons first (with_numbered_item number new actors), letters_cons first actors) in
            all

    pub active_with : (actors : List (ℕ × Actor)) → NumbersRise actors → numbered_item number actors ≡ Some old
        → active_in (with_numbered_item number new actors) + cond (is_active_status old.status) 1 0 ≡ active_in actors + cond (is_active_status new.status) 1 0
    unfolding IsStrictlySortedBy
    active_with [] rise = λ held. absurd (cc)
    active_with (first ∷ actors) rise = cases (active_with actors rise.1) (nat_eq first.0 number) refl
      where
        cases : (numbered_item number actors ≡ Some old → active_in (with_numbered_item number new actors) + cond (is_active_status old.status) 1 0 ≡ active_in actors + cond (is_active_status new.status) 1 0)
            → (b : Bool) → nat_eq first.0 number ≡ b → cond b (Some first.1) (numbered_item number actors) ≡ Some old
            → active_in (cond b (first.0, new) first ∷ with_numbered_item number new actors) + cond (is_active_status old.status) 1 0 ≡ active_in (first ∷ actors) + cond (is_active_status new.status) 1 0
        cases rest true e held =
            let is : first.0 ≡ number = eqb-true first.0 number e in
            let above : AllByRecursion (λ l. nat_cmp number l ≡ Less) (numbers actors) = subst (λ (n : ℕ). AllByRecursion (λ l. nat_cmp n l ≡ Less) (numbers actors)) is rise.0 in
            let this : ◌≡◌ {A = ℕ} (cond (is_active_status first.1.status) 1 0) (cond (is_active_status old.status) 1 0) = ap {B = ℕ} (λ (actor : Actor). cond (is_active_status actor.status) 1 0) (inside held) in
            let all : active_in ((first.0, new) ∷ actors) + cond (is_active_status old.status) 1 0 ≡ active_in (first ∷ actors) + cond (is_active_status new.status) 1 0 =
            omega (arith, this, active_cons (first.0, new) actors, active_cons first actors) in
            rw (as_before actors above) all
        cases rest false e held =
            let others = rest held in
            let all : active_in (first ∷ with_numbered_item number new actors) + cond (is_active_status old.status) 1 0 ≡ active_in (first ∷ actors) + cond (is_active_status new.status) 1 0 =
            omega (arith, others, active_cons first (with_numbered_item number new actors), active_cons first actors) in
            all

  rooms_with : (room : Actor → ℕ) (old : Actor) (users : List ℕ) (actors : List (ℕ × Actor)) → numbered_item number actors ≡ Some old → room old ≤ room new + times_among number users
      → AreRoomsBeside users (rooms_by room actors) (rooms_by room (with_numbered_item number new actors))
  rooms_with room old users actors held within other =
      rw (rooms_found room other actors, rooms_found room other (with_numbered_item number new actors), found_with other actors) (cases (nat_eq other number) refl)
    where
      both : ℕ → (b : Bool) → Type 0
      both n b = IsSome (option_map room (cond b (option_map (λ (actor : Actor). new) (numbered_item n actors)) (numbered_item n actors)))
          → IsSome (option_map room (numbered_item n actors))
          × (unwrap_or (option_map room (numbered_item n actors)) 0 ≤ unwrap_or (option_map room (cond b (option_map (λ (actor : Actor). new) (numbered_item n actors)) (numbered_item n actors))) 0 + times_among n users)

      at : numbered_item number actors ≡ Some old → both number true
      at found = rw found (λ there. (refl, within))

      cases : (b : Bool) → nat_eq other number ≡ b → both other b
      cases true e = subst (λ (n : ℕ). both n true) (sym (eqb-true other number e)) (at held)
      cases false e = λ there. (there, omega arith)

  pub changed_at : (old : Actor) (change : ActorRecord → ActorRecord) (needs : Needs) (actors : List (ℕ × Actor)) → NumbersRise actors → numbered_item number actors ≡ Some old
      → record_of number new ≡ change (record_of number old) → letter_room old ≤ letter_room new + times_among number needs.receivers → kid_room old ≤ kid_room new + times_among number needs.parents
      → IsChangedAt number change needs actors (with_numbered_item number new actors)
  changed_at old change needs actors rise held same letters kids = record {
    records = records_with old change same actors rise held;
    rise = subst (IsStrictlySortedBy nat_cmp) (sym (same_numbers actors)) rise;
    letters = rooms_with letter_room old needs.receivers actors held letters;
    kids = rooms_with kid_room old needs.parents actors held kids;
  }

records_kept : (number : ℕ) (change : ActorRecord → ActorRecord) (actors : List (ℕ × Actor)) → numbered_item number actors ≡ None → records_of actors ≡ map (changed number change) (records_of actors)
records_kept number change [] = λ none. refl
records_kept number change (first ∷ actors) = cases (records_kept number change actors) (nat_eq first.0 number)
  where
    cases : (numbered_item number actors ≡ None → records_of actors ≡ map (changed number change) (records_of actors)) → (b : Bool) → cond b (Some first.1) (numbered_item number actors) ≡ None
        → record_of first.0 first.1 ∷ records_of actors ≡ cond b (change (record_of first.0 first.1)) (record_of first.0 first.1) ∷ map (changed number change) (records_of actors)
    cases rest true none = absurd (cc)
    cases rest false none = ap (λ l. record_of first.0 first.1 ∷ l) (rest none)

-- without an actor of the number nothing is changed
pub unchanged_at : (number : ℕ) (change : ActorRecord → ActorRecord) (needs : Needs) (actors : List (ℕ × Actor)) → NumbersRise actors → numbered_item number actors ≡ None
    → IsChangedAt number change needs actors actors
unchanged_at number change needs actors rise none = record {
  records = records_kept number change actors none;
  rise = rise;
  letters = rooms_stay letter_room needs.receivers actors;
  kids = rooms_stay kid_room needs.parents actors;
}

-- ---- what an office counts

-- an actor that stays as active as it was
pub active_kept : (number : ℕ) (change : ActorRecord → ActorRecord) → ((actor : ActorRecord) → is_active (change actor) ≡ is_active actor) → (actors : List ActorRecord)
    → length (filter is_active (map (changed number change) actors)) ≡ length (filter is_active actors)
active_kept number change same [] = refl
active_kept number change same (first ∷ actors) = rw (alike (nat_eq first.number number)) (cases (is_active first) (active_kept number change same actors))
  where
    alike : (b : Bool) → is_active (cond b (change first) first) ≡ is_active first
    alike true = same first
    alike false = refl

    cases : (b : Bool) → length (filter is_active (map (changed number change) actors)) ≡ length (filter is_active actors)
        → length (cond b (changed number change first ∷ filter is_active (map (changed number change) actors)) (filter is_active (map (changed number change) actors))) ≡ length (cond b (first ∷ filter is_active actors) (filter is_active actors))
    cases true rest = omega (arith, rest)
    cases false rest = rest

-- an actor whose open item stays as it was
pub items_kept : (number : ℕ) (change : ActorRecord → ActorRecord) → ((actor : ActorRecord) → open_item (change actor) ≡ open_item actor) → (actors : List ActorRecord)
    → filter_map open_item (map (changed number change) actors) ≡ filter_map open_item actors
items_kept number change same [] = refl
items_kept number change same (first ∷ actors) = rw (alike (nat_eq first.number number)) (ap (cons_option (open_item first)) (items_kept number change same actors))
  where
    alike : (b : Bool) → open_item (cond b (change first) first) ≡ open_item first
    alike true = same first
    alike false = refl

-- an actor that keeps its number and its item
pub numbered_kept : (number : ℕ) (change : ActorRecord → ActorRecord) → ((actor : ActorRecord) → (change actor).number ≡ actor.number) → ((actor : ActorRecord) → (change actor).item ≡ actor.item) → (actors : List ActorRecord)
    → AllByRecursion HasOwnItem actors → AllByRecursion HasOwnItem (map (changed number change) actors)
numbered_kept number change same item [] all = tt
numbered_kept number change same item (first ∷ actors) all = (alike (nat_eq first.number number), numbered_kept number change same item actors all.1)
  where
    alike : (b : Bool) → HasOwnItem (cond b (change first) first)
    alike true = rw (same first, item first) all.0
    alike false = all.0

pub given_kept : (next number : ℕ) (change : ActorRecord → ActorRecord) → ((actor : ActorRecord) → (change actor).number ≡ actor.number) → (actors : List ActorRecord)
    → AllByRecursion (λ (actor : ActorRecord). actor.number < next) actors → AllByRecursion (λ (actor : ActorRecord). actor.number < next) (map (changed number change) actors)
given_kept next number change same [] all = tt
given_kept next number change same (first ∷ actors) all = (alike (nat_eq first.number number), given_kept next number change same actors all.1)
  where
    alike : (b : Bool) → (cond b (change first) first).number < next
    alike true = rw (same first) all.0
    alike false = all.0

-- ---- room that is made

module _ (room : Actor → ℕ) (number : ℕ) where
  itself_with : (new old : Actor) (actors : List (ℕ × Actor)) → numbered_item number actors ≡ Some old → numbered_item number (with_numbered_item number new actors) ≡ Some new
  itself_with new old actors held =
      found_with number new number actors
      ∙ ap (λ (b : Bool). cond b (option_map (λ (actor : Actor). new) (numbered_item number actors)) (numbered_item number actors)) (eq-eqb number number refl)
      ∙ ap (option_map (λ (actor : Actor). new)) held

  pub reserved_there : (new old : Actor) (many : ℕ) (actors : List (ℕ × Actor)) → numbered_item number actors ≡ Some old → many ≤ room new → HasRoomOf many number (rooms_by room (with_numbered_item number new actors))
  reserved_there new old many actors held within there = rw (room_there room number (with_numbered_item number new actors) new (itself_with new old actors held)) within

  pub reserved_nowhere : (many : ℕ) (actors : List (ℕ × Actor)) → numbered_item number actors ≡ None → HasRoomOf many number (rooms_by room actors)
  reserved_nowhere many actors none there = absurd (let nothing : numbered_item number (rooms_by room actors) ≡ None = rooms_found room number actors ∙ ap (option_map room) none in nobody (numbered_item number (rooms_by room actors)) nothing there)
    where
      nobody : (o : Option ℕ) → o ≡ None → IsSome o → ⊥
      nobody None e is = absurd (cc)
      nobody (Some n) e is = absurd (cc)

pub same_records_changed : (number : ℕ) (records : List ActorRecord) → map (changed number (λ (actor : ActorRecord). actor)) records ≡ records
same_records_changed number [] = refl
same_records_changed number (first ∷ records) = cases (nat_eq first.number number) (same_records_changed number records)
  where
    cases : (b : Bool) → map (changed number (λ (actor : ActorRecord). actor)) records ≡ records → cond b first first ∷ map (changed number (λ (actor : ActorRecord). actor)) records ≡ first ∷ records
    cases true rest = ap (λ l. first ∷ l) rest
    cases false rest = ap (λ l. first ∷ l) rest

-- what holds where a call succeeds, and what follows from it
pub so_ok : {A B : Type 0} (r : Result A B) (P Q : Type 0) → (P → Q) → OnOk r P → OnOk r Q
so_ok (Ok x) P Q so is = so is
so_ok (Err e) P Q so is = tt
