use Rattle.std.proofs.Common.{◌≡◌, ℕ, List, sum_by, ap, ◌∙◌, subst, arith}
use Rattle.std.proofs.lemmas.Result.{IfOk-weaker}
use Rattle.actor_tree.specs.declared.part.Part.{Part}
use Rattle.actor_tree.specs.Following.{actors_made}
use Rattle.actor_tree.specs.HeldOffice.{HasRoomOf}
use Rattle.actor_tree.specs.Making.{HasRoomToMakeAll}
use Rattle.actor_tree.specs.Rooms.{AreRoomier, kids_for, letters_for, needs_of}
use Rattle.actor_tree.specs.Tally.{tallied}
use Rattle.actor_tree.proofs.MakingRoomLemmas.{fit_too, put_same, room_for_all}
use Rattle.actor_tree.proofs.making_room.make_room.Goals as goal

pub returns-clause-same : goal.returns-clause-same
returns-clause-same c =
    IfOk-weaker c.with_room_of_newcomers.result _ _ (λ made are. put_same (tallied c.in_ok-letters.letters) (tallied c.in_ok-kids.kids) c.next_actor.result c.args.parts made are) c.with_room_of_newcomers.ensures

pub returns-clause-fits : goal.returns-clause-fits
returns-clause-fits c =
    IfOk-weaker c.with_room_of_newcomers.result _ _ (λ made are. fit_too (tallied c.in_ok-letters.letters) (tallied c.in_ok-kids.kids) c.next_actor.result c.args.parts made are) c.with_room_of_newcomers.ensures

pub returns-clause-room : goal.returns-clause-room
returns-clause-room c =
    let parts = c.args.parts in
    let first = c.reserve.new.self.room in
    let second = c.make_letter_rooms.new.held.room in
    let third = c.make_kid_rooms.new.held in
    let letters = tallied c.in_ok-letters.letters in
    let kids = tallied c.in_ok-kids.kids in
    let timers_of : List Part → ℕ = sum_by (λ (part : Part). (needs_of part).timers) in
    let made_room = c.in_ok-reserve.ensures.room in
    let actors : c.room_for-actors.result ≡ sum_by actors_made parts = c.room_for-actors.ensures ∙ ap (sum_by actors_made) c.as_slice.ensures in
    let timers : c.timers_in-timers.result ≡ timers_of parts = c.timers_in-timers.ensures ∙ ap timers_of c.as_slice-2.ensures in
    let enough : HasRoomToMakeAll (sum_by actors_made parts) (timers_of parts) first = record {
      room_actors = omega (arith, actors, made_room.room_actors);
      room_names = omega (arith, actors, made_room.room_names);
      room_items = omega (arith, actors, made_room.room_items);
      room_timers = omega (arith, timers, made_room.room_timers);
    } in
    let for_letters : (n : ℕ) → HasRoomOf (letters_for n parts) n second.letters =
    subst (λ (ps : List Part). (n : ℕ) → HasRoomOf (letters_for n ps) n second.letters) c.as_slice-3.ensures c.in_ok-letters.ensures.room in
    let for_kids : (n : ℕ) → HasRoomOf (kids_for n parts) n third.room.kids =
    subst (λ (ps : List Part). (n : ℕ) → HasRoomOf (kids_for n ps) n third.room.kids) c.as_slice-4.ensures c.in_ok-kids.ensures.room in
    let letters_are : (n : ℕ) → letters n ≡ letters_for n parts =
    subst (λ (ps : List Part). (n : ℕ) → letters n ≡ letters_for n ps) c.as_slice-3.ensures c.in_ok-letters.ensures.counts in
    let kids_are : (n : ℕ) → kids n ≡ kids_for n parts =
    subst (λ (ps : List Part). (n : ℕ) → kids n ≡ kids_for n ps) c.as_slice-4.ensures c.in_ok-kids.ensures.counts in
    IfOk-weaker c.with_room_of_newcomers.result _ _
    (λ made are. room_for_all parts made third first second letters kids enough c.make_letter_rooms.ensures.keeps_room c.make_kid_rooms.ensures.keeps_room for_letters for_kids letters_are kids_are
    (subst (λ (n : ℕ). AreRoomier letters kids n parts made) c.next_actor.ensures are))
    c.with_room_of_newcomers.ensures
