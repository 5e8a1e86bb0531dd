use Rattle.std.proofs.Common.{◌≡◌, true, List, [], ◌∷◌, ◌+◌, refl, ap, arith}
use Rattle.office_types.specs.declared.office.ActorRecord.{ActorRecord}
use Rattle.office_types.specs.declared.office.Letter.{Letter}
use Rattle.office_types.specs.Mailboxes.{has_letter_room, with_mail}
use Rattle.actor_tree.specs.HeldOffice.{no_needs, office_with}
use Rattle.actor_tree.proofs.HeldLemmas.{still_held}
use Rattle.actor_tree.proofs.RoomLemmas.{letters_find_room}
use Rattle.actor_tree.proofs.held.Held.mail.Goals as goal

pub invariant_of-self : goal.invariant_of-self
invariant_of-self c =
    let inside = c.self.inside in
    let letter : Letter = record { number = inside.counts.next_letter; origin = c.args.origin; event = c.args.event } in
    still_held inside.actors.items _ inside.names.names inside.timers.timers inside.items.items inside.counts c.self.invariant
    c.args.receiver (with_mail letter) (record no_needs { receivers = c.args.receiver ∷ [] }) c.add_letter-entered.ensures.changed (λ actor. refl) (λ actor. refl) (λ actor. refl)
    _ (inside.counts.next_letter + 1) (omega (arith, c.self.invariant.waiting, c.add_letter-entered.ensures.count))

pub returns-clause-office : goal.returns-clause-office
returns-clause-office c =
    let inside = c.self.inside in
    rw (← c.self.view_is)
    (ap (λ (records : List ActorRecord). record (office_with inside.actors.items inside.names.names inside.timers.timers inside.counts) { actors = records; next_letter = inside.counts.next_letter + 1 }) c.add_letter-entered.ensures.changed.records)

pub returns-clause-room : goal.returns-clause-room
returns-clause-room c =
    let changed = c.add_letter-entered.ensures.changed in
    rw (← c.self.view_is)
    (record { actors = omega (arith, c.add_letter-entered.ensures.keeps_room); names = omega arith; items = omega arith; timers = omega arith; letters = changed.letters; kids = changed.kids })

pub overflow_add-self : goal.overflow_add-self
overflow_add-self c =
    let inside = c.self.inside in
    let office = office_with inside.actors.items inside.names.names inside.timers.timers inside.counts in
    let room : has_letter_room office 1 ≡ true = rw (← c.self.view_is) at c.requires.fits in
    let rooms = letters_find_room office 1 room in
    omega (arith, rooms.0, c.self.invariant.waiting, c.add_letter-entered.ensures.at_most_one)
