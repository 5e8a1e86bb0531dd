-- Parts that were given more room are as good as the ones before, and there is room for all of them.
use Rattle.std.proofs.Common.{◌≡◌, ℕ, ◌+◌, ◌≤◌, List, [], ◌∷◌, length, sum_by, refl, sym, ap, ◌∙◌, subst, arith}
use Rattle.std.proofs.lemmas.List.Sums.{sum_by-cons}
use Rattle.office_types.specs.declared.office.ActorRecord.{ActorRecord}
use Rattle.office_types.specs.declared.office.OfficeState.{OfficeState}
use Rattle.office_types.specs.Effects.{with_record}
use Rattle.actor_tree.specs.declared.part.Newcomer.{Newcomer}
use Rattle.actor_tree.specs.declared.part.Part.{Part}
use Rattle.actor_tree.specs.declared.part.Part.TheVariants as part
use Rattle.actor_tree.specs.Actors.{record_of}
use Rattle.actor_tree.specs.Following.{actors_made}
use Rattle.actor_tree.specs.HeldOffice.{HasRoomOf, HeldOffice, HeldRoom, IsRoomBeside, kid_room, letter_room, Needs, no_needs, times_among}
use Rattle.actor_tree.specs.Making.{HasRoomToMakeAll}
use Rattle.actor_tree.specs.Parts.{CanBeMade, CanPutAll, put, put_part, with_newcomer}
use Rattle.actor_tree.specs.Rooms.{AreRoomier, HasOwnRoom, HasRoomForAll, HaveOwnRooms, IsRoomier, kids_for, letters_for, needs_of, next_after}

-- ---- one part

abbrev with_made : OfficeState → ActorRecord → OfficeState
with_made state made = record (with_record state made) { next_letter = state.next_letter + length made.mailbox }

module _ (old new : Newcomer) (records : (number : ℕ) → record_of number new.actor ≡ record_of number old.actor) (name : new.name ≡ old.name) (item : new.item ≡ old.item) where
  pub can_be_made : (state : OfficeState) → CanBeMade state old → CanBeMade state new
  can_be_made state can =
      let same = records 0 in
      let system : new.actor.system ≡ old.actor.system = ap (λ (r : ActorRecord). r.system) same in
      let own_item : new.actor.item ≡ old.actor.item = ap (λ (r : ActorRecord). r.item) same in
      let status : new.actor.status ≡ old.actor.status = ap (λ (r : ActorRecord). r.status) same in
      let mailbox : new.actor.mailbox.items ≡ old.actor.mailbox.items = ap (λ (r : ActorRecord). r.mailbox) same in
      record {
        complete = record { name = name ∙ can.complete.name ∙ sym system; item = item ∙ can.complete.item ∙ sym own_item };
        active = status ∙ can.active;
        item_number = rw item can.item_number;
        name_free = rw system can.name_free;
        actor_room = can.actor_room;
        letter_room = rw mailbox can.letter_room;
      }

  pub made_the_same : (state : OfficeState) → with_newcomer state new ≡ with_newcomer state old
  made_the_same state = ap (with_made state) (records state.next_actor)

  pub newcomer_roomier : (letters kids : ℕ → ℕ) (number : ℕ) → letters number ≤ letter_room new.actor → kids number ≤ kid_room new.actor → IsRoomier letters kids number (part.Make old) (part.Make new)
  newcomer_roomier letters kids number for_letters for_kids = record {
    put = made_the_same;
    fits = can_be_made;
    needs = refl;
    next = λ next. refl;
    own = λ later letters_fit kids_fit. (omega (arith, for_letters, letters_fit), omega (arith, for_kids, kids_fit));
  }

module _ (letters kids : ℕ → ℕ) where
  -- one that makes no actor needs nothing of its own
  pub as_it_was : (number : ℕ) (one : Part) → ((newcomer : Newcomer) → one ≡ part.Make newcomer → ⊥) → IsRoomier letters kids number one one
  as_it_was number one none = record {
    put = λ state. refl;
    fits = λ state can. can;
    needs = refl;
    next = λ next. refl;
    own = λ later letters_fit kids_fit. own_of one none later;
  }
    where
      own_of : (one : Part) → ((newcomer : Newcomer) → one ≡ part.Make newcomer → ⊥) → (later : List Part) → HasOwnRoom number one later
      own_of (part.Make newcomer) none later = absurd (none newcomer refl)
      own_of (part.TakeHead actor) none later = tt
      own_of (part.Own actor own) none later = tt
      own_of (part.Mail origin receiver event) none later = tt
      own_of (part.Schedule timer) none later = tt
      own_of (part.Cancel owner id) none later = tt
      own_of (part.Join parent id child) none later = tt
      own_of (part.Stop parent id subtree) none later = tt
      own_of (part.Done actor output subtree) none later = tt
      own_of (part.Fail actor error subtree) none later = tt
      own_of (part.Advance moment) none later = tt

  -- ---- all parts

  pub put_same : (number : ℕ) (olds news : List Part) → AreRoomier letters kids number olds news → (state : OfficeState) → put state news ≡ put state olds
  put_same number [] [] are state = refl
  put_same number [] (new ∷ news) are state = absurd are
  put_same number (old ∷ olds) [] are state = absurd are
  put_same number (old ∷ olds) (new ∷ news) are state = ap (λ (s : OfficeState). put s news) (are.0.put state) ∙ put_same (next_after number old) olds news are.1 (put_part state old)

  pub fit_too : (number : ℕ) (olds news : List Part) → AreRoomier letters kids number olds news → (state : OfficeState) → CanPutAll state olds → CanPutAll state news
  fit_too number [] [] are state can = tt
  fit_too number [] (new ∷ news) are state can = absurd are
  fit_too number (old ∷ olds) [] are state can = absurd are
  fit_too number (old ∷ olds) (new ∷ news) are state can =
      (are.0.fits state can.0, subst (λ (s : OfficeState). CanPutAll s news) (sym (are.0.put state)) (fit_too (next_after number old) olds news are.1 (put_part state old) can.1))

  pub need_the_same : (f : Needs → ℕ) (number : ℕ) (olds news : List Part) → AreRoomier letters kids number olds news
      → sum_by (λ (part : Part). f (needs_of part)) news ≡ sum_by (λ (part : Part). f (needs_of part)) olds
  need_the_same f number [] [] are = refl
  need_the_same f number [] (new ∷ news) are = absurd are
  need_the_same f number (old ∷ olds) [] are = absurd are
  need_the_same f number (old ∷ olds) (new ∷ news) are =
      omega (arith, sum_by-cons (λ (part : Part). f (needs_of part)) old olds, sum_by-cons (λ (part : Part). f (needs_of part)) new news, ap f are.0.needs, need_the_same f (next_after number old) olds news are.1)

  pub have_own : (number : ℕ) (olds news : List Part) → AreRoomier letters kids number olds news → ((n : ℕ) → letters_for n news ≤ letters n) → ((n : ℕ) → kids_for n news ≤ kids n) → HaveOwnRooms number news
  have_own number [] [] are for_letters for_kids = tt
  have_own number [] (new ∷ news) are for_letters for_kids = absurd are
  have_own number (old ∷ olds) [] are for_letters for_kids = absurd are
  have_own number (old ∷ olds) (new ∷ news) are for_letters for_kids =
      let letters_left : (n : ℕ) → letters_for n news ≤ letters n =
      λ n. omega (arith, for_letters n, sum_by-cons (λ (part : Part). times_among n (needs_of part).receivers) new news) in
      let kids_left : (n : ℕ) → kids_for n news ≤ kids n =
      λ n. omega (arith, for_kids n, sum_by-cons (λ (part : Part). times_among n (needs_of part).parents) new news) in (
        are.0.own news (letters_left number) (kids_left number),
        subst (λ (n : ℕ). HaveOwnRooms n news) (sym (are.0.next number)) (have_own (next_after number old) olds news are.1 letters_left kids_left),
      )

-- ---- the room that was made

made_of : (one : Part) → actors_made one ≡ (needs_of one).actors
made_of (part.TakeHead actor) = refl
made_of (part.Own actor own) = refl
made_of (part.Mail origin receiver event) = refl
made_of (part.Schedule timer) = refl
made_of (part.Cancel owner id) = refl
made_of (part.Make newcomer) = refl
made_of (part.Join parent id child) = refl
made_of (part.Stop parent id subtree) = refl
made_of (part.Done actor output subtree) = refl
made_of (part.Fail actor error subtree) = refl
made_of (part.Advance moment) = refl

-- each actor that is made is reckoned to need a name and an item
need_alike : (one : Part) → ((needs_of one).names ≡ (needs_of one).actors) × ((needs_of one).items ≡ (needs_of one).actors)
need_alike (part.TakeHead actor) = (refl, refl)
need_alike (part.Own actor own) = (refl, refl)
need_alike (part.Mail origin receiver event) = (refl, refl)
need_alike (part.Schedule timer) = (refl, refl)
need_alike (part.Cancel owner id) = (refl, refl)
need_alike (part.Make newcomer) = (refl, refl)
need_alike (part.Join parent id child) = (refl, refl)
need_alike (part.Stop parent id subtree) = (refl, refl)
need_alike (part.Done actor output subtree) = (refl, refl)
need_alike (part.Fail actor error subtree) = (refl, refl)
need_alike (part.Advance moment) = (refl, refl)

sum_alike : (f g : Part → ℕ) → ((one : Part) → f one ≡ g one) → (parts : List Part) → sum_by f parts ≡ sum_by g parts
sum_alike f g alike [] = refl
sum_alike f g alike (first ∷ others) = omega (arith, sum_by-cons f first others, sum_by-cons g first others, alike first, sum_alike f g alike others)

-- room that was made stays, and is enough for parts that need as much
pub room_for_all : (parts made : List Part) (held : HeldOffice) (first second : HeldRoom) (letters kids : ℕ → ℕ)
    → HasRoomToMakeAll (sum_by actors_made parts) (sum_by (λ (part : Part). (needs_of part).timers) parts) first
    → IsRoomBeside no_needs first second → IsRoomBeside no_needs second held.room
    → ((n : ℕ) → HasRoomOf (letters_for n parts) n second.letters) → ((n : ℕ) → HasRoomOf (kids_for n parts) n held.room.kids)
    → ((n : ℕ) → letters n ≡ letters_for n parts) → ((n : ℕ) → kids n ≡ kids_for n parts)
    → AreRoomier letters kids held.office.next_actor parts made → HasRoomForAll held made
room_for_all parts made held first second letters kids enough one two for_letters for_kids letters_are kids_are are =
    let same : (f : Needs → ℕ) → sum_by (λ (part : Part). f (needs_of part)) made ≡ sum_by (λ (part : Part). f (needs_of part)) parts =
    λ f. need_the_same letters kids f held.office.next_actor parts made are in
    let actors_sum = sum_alike actors_made (λ (part : Part). (needs_of part).actors) made_of parts in
    let names_sum = sum_alike (λ (part : Part). (needs_of part).names) (λ (part : Part). (needs_of part).actors) (λ one. (need_alike one).0) parts in
    let items_sum = sum_alike (λ (part : Part). (needs_of part).items) (λ (part : Part). (needs_of part).actors) (λ one. (need_alike one).1) parts in
    let letters_same : (n : ℕ) → letters_for n made ≡ letters_for n parts = λ n. same (λ (needs : Needs). times_among n needs.receivers) in
    let kids_same : (n : ℕ) → kids_for n made ≡ kids_for n parts = λ n. same (λ (needs : Needs). times_among n needs.parents) in
    record {
      actors = omega (arith, same (λ (needs : Needs). needs.actors), actors_sum, enough.room_actors, one.actors, two.actors);
      names = omega (arith, same (λ (needs : Needs). needs.names), names_sum, actors_sum, enough.room_names, one.names, two.names);
      items = omega (arith, same (λ (needs : Needs). needs.items), items_sum, actors_sum, enough.room_items, one.items, two.items);
      timers = omega (arith, same (λ (needs : Needs). needs.timers), enough.room_timers, one.timers, two.timers);
      letters = λ number there. (
          let before = two.letters number there in
          omega (arith, before.1, for_letters number before.0, letters_same number));
      kids = λ number there. omega (arith, for_kids number there, kids_same number);
      newcomers = have_own letters kids held.office.next_actor parts made are (λ n. omega (arith, letters_same n, letters_are n)) (λ n. omega (arith, kids_same n, kids_are n));
    }
