-- What it says that letters find room, and what room is left.
use Rattle.std.proofs.Common.{◌≡◌, inl, inr, ℕ, ◌+◌, ◌<◌, ◌≤◌, Bool, true, false, ◌&&◌, List, [], ◌∷◌, refl, sym, ap, ◌∙◌, subst, arith}
use Rattle.std.proofs.lemmas.Bool.{eq-eqb, leb-true, ltb-true}
use Rattle.std.proofs.lemmas.List.Sums.{sum_by-cons}
use Rattle.office_types.specs.declared.limits.TheConstants.{MAX_LETTERS, MAX_NEXT_NUMBER}
use Rattle.office_types.specs.declared.office.OfficeState.{OfficeState}
use Rattle.office_types.specs.declared.office.Timer.{Timer}
use Rattle.office_types.specs.Effects.{has_timer_room}
use Rattle.office_types.specs.Mailboxes.{has_letter_room, waiting_letters}
use Rattle.actor_tree.specs.declared.part.Newcomer.{Newcomer}
use Rattle.actor_tree.specs.declared.part.Part.{Part}
use Rattle.actor_tree.specs.declared.part.Part.TheVariants as part
use Rattle.actor_tree.specs.HeldOffice.{AreRoomsBeside, HasRoomAt, HeldOffice, HeldRoom, IsRoomBeside, Needs, no_needs, room_among, times_among}
use Rattle.actor_tree.specs.Making.{HasRoomToMake, IsRoomAfterMaking}
use Rattle.actor_tree.specs.Rooms.{HasRoomForAll, HaveOwnRooms, kids_for, letters_for, needs_of, next_after}

both : (a b : Bool) → (a && b) ≡ true → (a ≡ true) × (b ≡ true)
both true b e = (refl, e)
both false b e = absurd (cc)

pub letters_find_room : (state : OfficeState) (more : ℕ) → has_letter_room state more ≡ true → (waiting_letters state + more ≤ MAX_LETTERS) × (state.next_letter + more ≤ MAX_NEXT_NUMBER)
letters_find_room state more e =
    let parts = both _ _ e in
    (leb-true (waiting_letters state + more) MAX_LETTERS parts.0, leb-true (state.next_letter + more) MAX_NEXT_NUMBER parts.1)

pub timer_finds_number : (state : OfficeState) (timer : Timer) → has_timer_room state timer ≡ true → state.next_timer < MAX_NEXT_NUMBER
timer_finds_number state timer e = ltb-true state.next_timer MAX_NEXT_NUMBER (both _ _ e).1

-- ---- room that is left

beside_twice : (users : List ℕ) (a b c : List (ℕ × ℕ)) → AreRoomsBeside [] a b → AreRoomsBeside users b c → AreRoomsBeside users a c
beside_twice users a b c one two number there =
    let after = two number there in
    let before = one number after.0 in
    (before.0, omega (arith, before.1, after.1))

-- nothing was used, and then so much
pub room_twice : (needs : Needs) (a b c : HeldRoom) → IsRoomBeside no_needs a b → IsRoomBeside needs b c → IsRoomBeside needs a c
room_twice needs a b c one two = record {
  actors = omega (arith, one.actors, two.actors);
  names = omega (arith, one.names, two.names);
  items = omega (arith, one.items, two.items);
  timers = omega (arith, one.timers, two.timers);
  letters = beside_twice needs.receivers a.letters b.letters c.letters one.letters two.letters;
  kids = beside_twice needs.parents a.kids b.kids c.kids one.kids two.kids;
}

pub room_stays : (room : HeldRoom) → IsRoomBeside no_needs room room
room_stays room = record {
  actors = omega arith;
  names = omega arith;
  items = omega arith;
  timers = omega arith;
  letters = λ number there. (there, omega arith);
  kids = λ number there. (there, omega arith);
}

-- what a part leaves is enough for the later ones
pub room_left : (first : Part) (later : List Part) (old new : HeldOffice) → IsRoomBeside (needs_of first) old.room new.room → new.office.next_actor ≡ next_after old.office.next_actor first
    → HasRoomForAll old (first ∷ later) → HasRoomForAll new later
room_left first later old new is next has = record {
  actors = omega (arith, is.actors, has.actors, sum_by-cons (λ (part : Part). (needs_of part).actors) first later);
  names = omega (arith, is.names, has.names, sum_by-cons (λ (part : Part). (needs_of part).names) first later);
  items = omega (arith, is.items, has.items, sum_by-cons (λ (part : Part). (needs_of part).items) first later);
  timers = omega (arith, is.timers, has.timers, sum_by-cons (λ (part : Part). (needs_of part).timers) first later);
  letters = λ number there. (
      let before = is.letters number there in
      omega (arith, before.1, has.letters number before.0, sum_by-cons (λ (part : Part). times_among number (needs_of part).receivers) first later));
  kids = λ number there. (
      let before = is.kids number there in
      omega (arith, before.1, has.kids number before.0, sum_by-cons (λ (part : Part). times_among number (needs_of part).parents) first later));
  newcomers = subst (λ (n : ℕ). HaveOwnRooms n later) (sym next) has.newcomers.1;
}

-- an actor that is made brings what room it needs
pub room_left_made : (newcomer : Newcomer) (later : List Part) (old new : HeldOffice) → IsRoomAfterMaking old.office.next_actor newcomer.actor old.room new.room → new.office.next_actor ≡ old.office.next_actor + 1
    → HasRoomForAll old (part.Make newcomer ∷ later) → HasRoomForAll new later
room_left_made newcomer later old new is next has =
    let first : Part = part.Make newcomer in
    record {
      actors = omega (arith, is.actors, has.actors, sum_by-cons (λ (part : Part). (needs_of part).actors) first later);
      names = omega (arith, is.names, has.names, sum_by-cons (λ (part : Part). (needs_of part).names) first later);
      items = omega (arith, is.items, has.items, sum_by-cons (λ (part : Part). (needs_of part).items) first later);
      timers = omega (arith, is.timers, has.timers, sum_by-cons (λ (part : Part). (needs_of part).timers) first later);
      letters = λ number there. elim (is.letters number there) [
        | inl made ↦ subst (λ (n : ℕ). letters_for n later ≤ room_among number new.room.letters) (sym made.0) (omega (arith, made.1, has.newcomers.0.0))
        | inr before ↦ omega (arith, before.1, has.letters number before.0, sum_by-cons (λ (part : Part). times_among number (needs_of part).receivers) first later)
      ];
      kids = λ number there. elim (is.kids number there) [
        | inl made ↦ subst (λ (n : ℕ). kids_for n later ≤ room_among number new.room.kids) (sym made.0) (omega (arith, made.1, has.newcomers.0.1))
        | inr before ↦ omega (arith, before.1, has.kids number before.0, sum_by-cons (λ (part : Part). times_among number (needs_of part).parents) first later)
      ];
      newcomers = subst (λ (n : ℕ). HaveOwnRooms n later) (sym next) has.newcomers.1;
    }

-- ---- room that is asked for

one_time : (number : ℕ) → times_among number (number ∷ []) ≡ 1
one_time number = rw (eq-eqb number number refl) refl

pub room_to_make : (newcomer : Newcomer) (later : List Part) (held : HeldOffice) → HasRoomForAll held (part.Make newcomer ∷ later) → HasRoomToMake held.room
room_to_make newcomer later held has =
    let first : Part = part.Make newcomer in
    record {
      actors = omega (arith, has.actors, sum_by-cons (λ (part : Part). (needs_of part).actors) first later);
      names = omega (arith, has.names, sum_by-cons (λ (part : Part). (needs_of part).names) first later);
      items = omega (arith, has.items, sum_by-cons (λ (part : Part). (needs_of part).items) first later);
    }

module _ (first : Part) (later : List Part) (held : HeldOffice) (has : HasRoomForAll held (first ∷ later)) where
  pub room_for_timer : (needs_of first).timers ≡ 1 → 0 < held.room.timers
  room_for_timer one = omega (arith, one, has.timers, sum_by-cons (λ (part : Part). (needs_of part).timers) first later)

  pub room_for_letter : (number : ℕ) → (needs_of first).receivers ≡ number ∷ [] → HasRoomAt number held.room.letters
  room_for_letter number one there =
      let here : times_among number (needs_of first).receivers ≡ 1 = ap (times_among number) one ∙ one_time number in
      omega (arith, here, has.letters number there, sum_by-cons (λ (part : Part). times_among number (needs_of part).receivers) first later)

  pub room_for_kid : (number : ℕ) → (needs_of first).parents ≡ number ∷ [] → HasRoomAt number held.room.kids
  room_for_kid number one there =
      let here : times_among number (needs_of first).parents ≡ 1 = ap (times_among number) one ∙ one_time number in
      omega (arith, here, has.kids number there, sum_by-cons (λ (part : Part). times_among number (needs_of part).parents) first later)
