-- What is left where one actor is taken out of all that are held.
use Rattle.std.proofs.Common.{◌≡◌, ℕ, ◌+◌, ◌<◌, ◌≤◌, Bool, true, false, cond, List, [], ◌∷◌, filter, length, map, nat_eq, not, unwrap_or, Option, Some, None, IsSome, refl, sym, ap, ◌∙◌, subst, arith}
use Rattle.std.specs.declared.cmp.Ordering.TheVariants.{Less}
use Rattle.std.specs.Ordering.{nat_cmp}
use Rattle.std.specs.List.{AllByRecursion}
use Rattle.std.specs.List.Sorted.{IsStrictlySortedBy}
use Rattle.std.proofs.lemmas.Bool.{eqb-true}
use Rattle.std.proofs.lemmas.Cmp.{ranked}
use Rattle.office_types.specs.declared.office.ActorRecord.{ActorRecord}
use Rattle.office_types.specs.Records.{is_active_status}
use Rattle.office_books.specs.NumberedItems.{numbered_item, NumbersRise, without_numbered_item}
use Rattle.office_books.proofs.KeyIndexLemmas.{other_number}
use Rattle.actor_tree.specs.declared.actor.Actor.{Actor}
use Rattle.actor_tree.specs.Actors.{record_of, records_of}
use Rattle.actor_tree.specs.HeldOffice.{active_in, AreRoomsBeside, IsTakenFrom, kid_room, letter_room, letters_in, rooms_by}
use Rattle.actor_tree.proofs.ChangedLemmas.{active_cons, letters_cons}

abbrev numbers : List (ℕ × Actor) → List ℕ
numbers actors = map (λ (pair : ℕ × Actor). pair.0) actors

module _ (number : ℕ) where
  records_without : (actors : List (ℕ × Actor)) → records_of (without_numbered_item number actors) ≡ filter (λ (actor : ActorRecord). not (nat_eq actor.number number)) (records_of actors)
  records_without [] = refl
  records_without (first ∷ actors) = by_number (records_without actors) (nat_eq first.0 number)
    where
      by_number : records_of (without_numbered_item number actors) ≡ filter (λ (actor : ActorRecord). not (nat_eq actor.number number)) (records_of actors) → (b : Bool)
          → records_of (cond (not b) (first ∷ without_numbered_item number actors) (without_numbered_item number actors))
          ≡ cond (not b) (record_of first.0 first.1 ∷ filter (λ (actor : ActorRecord). not (nat_eq actor.number number)) (records_of actors)) (filter (λ (actor : ActorRecord). not (nat_eq actor.number number)) (records_of actors))
      by_number rest true = rest
      by_number rest false = ap (λ (l : List ActorRecord). record_of first.0 first.1 ∷ l) rest

  above_without : (P : ℕ → Type 0) (actors : List (ℕ × Actor)) → AllByRecursion P (numbers actors) → AllByRecursion P (numbers (without_numbered_item number actors))
  above_without P [] above = tt
  above_without P (first ∷ actors) above = by_number (above_without P actors above.1) (nat_eq first.0 number)
    where
      by_number : AllByRecursion P (numbers (without_numbered_item number actors)) → (b : Bool) → AllByRecursion P (numbers (cond (not b) (first ∷ without_numbered_item number actors) (without_numbered_item number actors)))
      by_number rest true = rest
      by_number rest false = (above.0, rest)

  rise_without : (actors : List (ℕ × Actor)) → NumbersRise actors → NumbersRise (without_numbered_item number actors)
  unfolding IsStrictlySortedBy
  rise_without [] rise = tt
  rise_without (first ∷ actors) rise = by_number (rise_without actors rise.1) (nat_eq first.0 number)
    where
      by_number : NumbersRise (without_numbered_item number actors) → (b : Bool) → NumbersRise (cond (not b) (first ∷ without_numbered_item number actors) (without_numbered_item number actors))
      by_number rest true = rest
      by_number rest false = (above_without (λ (l : ℕ). nat_cmp first.0 l ≡ Less) actors rise.0, rest)

  gone : (room : Actor → ℕ) (actors : List (ℕ × Actor)) → numbered_item number (rooms_by room (without_numbered_item number actors)) ≡ None
  gone room [] = refl
  gone room (first ∷ actors) = by_number (gone room actors) (nat_eq first.0 number) refl
    where
      by_number : numbered_item number (rooms_by room (without_numbered_item number actors)) ≡ None → (b : Bool) → nat_eq first.0 number ≡ b
          → numbered_item number (rooms_by room (cond (not b) (first ∷ without_numbered_item number actors) (without_numbered_item number actors))) ≡ None
      by_number rest true is = rest
      by_number rest false is = rw is rest

  abbrev RoomBeside : Option ℕ → Option ℕ → Type 0
  RoomBeside old new = IsSome new → IsSome old × (unwrap_or old 0 ≤ unwrap_or new 0 + 0)

  rooms_without : (room : Actor → ℕ) (actors : List (ℕ × Actor)) → AreRoomsBeside [] (rooms_by room actors) (rooms_by room (without_numbered_item number actors))
  rooms_without room [] other = λ there. (there, omega arith)
  rooms_without room (first ∷ actors) other = by_number (rooms_without room actors other) (nat_eq first.0 number) refl (nat_eq first.0 other) refl
    where
      by_number : RoomBeside (numbered_item other (rooms_by room actors)) (numbered_item other (rooms_by room (without_numbered_item number actors)))
          → (b : Bool) → nat_eq first.0 number ≡ b → (d : Bool) → nat_eq first.0 other ≡ d
          → RoomBeside (cond d (Some (room first.1)) (numbered_item other (rooms_by room actors)))
          (numbered_item other (rooms_by room (cond (not b) (first ∷ without_numbered_item number actors) (without_numbered_item number actors))))
      by_number rest true is true also = λ there.
          let same : number ≡ other = sym (eqb-true first.0 number is) ∙ eqb-true first.0 other also in
          let none : numbered_item other (rooms_by room (without_numbered_item number actors)) ≡ None = subst (λ (n : ℕ). numbered_item n (rooms_by room (without_numbered_item number actors)) ≡ None) same (gone room actors) in
          absurd (cc)
      by_number rest true is false also = rest
      by_number rest false is true also = rw also (λ there. (refl, omega arith))
      by_number rest false is false also = rw also rest

  pub taken_from : (actors : List (ℕ × Actor)) → NumbersRise actors → IsTakenFrom number actors (without_numbered_item number actors)
  taken_from actors rise = record {
    records = records_without actors;
    rise = rise_without actors rise;
    letters = rooms_without letter_room actors;
    kids = rooms_without kid_room actors;
  }

  pub none_without : (actors : List (ℕ × Actor)) → numbered_item number actors ≡ None → without_numbered_item number actors ≡ actors
  none_without [] none = refl
  none_without (first ∷ actors) none = by_number (none_without actors) (nat_eq first.0 number) none
    where
      by_number : (numbered_item number actors ≡ None → without_numbered_item number actors ≡ actors) → (b : Bool) → cond b (Some first.1) (numbered_item number actors) ≡ None
          → cond (not b) (first ∷ without_numbered_item number actors) (without_numbered_item number actors) ≡ first ∷ actors
      by_number rest true none = absurd (cc)
      by_number rest false none = ap (λ (l : List (ℕ × Actor)). first ∷ l) (rest none)

  above_stay : (actors : List (ℕ × Actor)) → AllByRecursion (λ l. nat_cmp number l ≡ Less) (numbers actors) → without_numbered_item number actors ≡ actors
  above_stay [] above = refl
  above_stay (first ∷ actors) above =
      let low : number < first.0 = ranked number first.0 Less (sym above.0) in
      let other : nat_eq first.0 number ≡ false = other_number first.0 number (λ same. omega arith) in
      rw other (ap (λ (l : List (ℕ × Actor)). first ∷ l) (above_stay actors above.1))

  module _ (old : Actor) (measure : List (ℕ × Actor) → ℕ) (one : Actor → ℕ) (cons : (first : ℕ × Actor) (actors : List (ℕ × Actor)) → measure (first ∷ actors) ≡ one first.1 + measure actors) where
    measured : (actors : List (ℕ × Actor)) → NumbersRise actors → numbered_item number actors ≡ Some old → measure (without_numbered_item number actors) + one old ≡ measure actors
    unfolding IsStrictlySortedBy
    measured [] rise = λ held. absurd (cc)
    measured (first ∷ actors) rise = by_number (measured actors rise.1) (nat_eq first.0 number) refl
      where
        by_number : (numbered_item number actors ≡ Some old → measure (without_numbered_item number actors) + one old ≡ measure actors) → (b : Bool) → nat_eq first.0 number ≡ b
            → cond b (Some first.1) (numbered_item number actors) ≡ Some old → measure (cond (not b) (first ∷ without_numbered_item number actors) (without_numbered_item number actors)) + one old ≡ measure (first ∷ actors)
        by_number rest true is held =
            let same : first.0 ≡ number = eqb-true first.0 number is in
            let above : AllByRecursion (λ l. nat_cmp number l ≡ Less) (numbers actors) = subst (λ (n : ℕ). AllByRecursion (λ l. nat_cmp n l ≡ Less) (numbers actors)) same rise.0 in
            let this : one first.1 ≡ one old = ap (λ (o : Option Actor). one (unwrap_or o old)) held in
            omega (arith, this, cons first actors, ap measure (above_stay actors above))
        by_number rest false is held = omega (arith, rest held, cons first actors, cons first (without_numbered_item number actors))

  pub letters_without : (old : Actor) (actors : List (ℕ × Actor)) → NumbersRise actors → numbered_item number actors ≡ Some old → letters_in (without_numbered_item number actors) + length old.mailbox.items ≡ letters_in actors
  letters_without old = measured old letters_in (λ (actor : Actor). length actor.mailbox.items) letters_cons

  pub active_without : (old : Actor) (actors : List (ℕ × Actor)) → NumbersRise actors → numbered_item number actors ≡ Some old → active_in (without_numbered_item number actors) + cond (is_active_status old.status) 1 0 ≡ active_in actors
  active_without old = measured old active_in (λ (actor : Actor). cond (is_active_status actor.status) 1 0) active_cons
