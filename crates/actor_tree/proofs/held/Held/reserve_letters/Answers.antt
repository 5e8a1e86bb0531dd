use Rattle.std.proofs.Common.{List, refl, sym, ap, ◌∙◌, arith}
use Rattle.office_types.specs.declared.office.ActorRecord.{ActorRecord}
use Rattle.actor_tree.specs.Actors.{records_of}
use Rattle.actor_tree.specs.HeldOffice.{no_needs, office_with}
use Rattle.actor_tree.proofs.ChangedLemmas.{same_records_changed}
use Rattle.actor_tree.proofs.HeldLemmas.{still_held}
use Rattle.actor_tree.proofs.held.Held.reserve_letters.Goals as goal

pub invariant_of-self : goal.invariant_of-self
invariant_of-self c =
    let inside = c.self.inside in
    still_held inside.actors.items _ inside.names.names inside.timers.timers inside.items.items inside.counts c.self.invariant
    c.args.receiver (λ (actor : ActorRecord). actor) no_needs c.reserve_letters.ensures.changed (λ actor. refl) (λ actor. refl) (λ actor. refl)
    inside.counts.waiting inside.counts.next_letter (c.self.invariant.waiting ∙ sym c.reserve_letters.ensures.count)

pub returns-clause-office : goal.returns-clause-office
returns-clause-office c =
    let inside = c.self.inside in
    rw (← c.self.view_is)
    (ap (λ (records : List ActorRecord). record (office_with inside.actors.items inside.names.names inside.timers.timers inside.counts) { actors = records })
    (c.reserve_letters.ensures.changed.records ∙ same_records_changed c.args.receiver (records_of inside.actors.items)))

pub returns-clause-keeps_room : goal.returns-clause-keeps_room
returns-clause-keeps_room c =
    let changed = c.reserve_letters.ensures.changed in
    rw (← c.self.view_is)
    (record { actors = omega (arith, c.reserve_letters.ensures.keeps_room); names = omega arith; items = omega arith; timers = omega arith; letters = changed.letters; kids = changed.kids })
