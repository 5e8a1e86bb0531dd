use Rattle.std.proofs.Common.{List, drop, refl, ap, arith}
use Rattle.office_types.specs.declared.office.ActorRecord.{ActorRecord}
use Rattle.actor_tree.specs.HeldOffice.{no_needs, office_with}
use Rattle.actor_tree.proofs.HeldLemmas.{still_held}
use Rattle.actor_tree.proofs.held.Held.take_head.Goals as goal

pub invariant_of-self : goal.invariant_of-self
invariant_of-self c =
    let inside = c.self.inside in
    still_held inside.actors.items _ inside.names.names inside.timers.timers inside.items.items inside.counts c.self.invariant
    c.args.actor (λ (actor : ActorRecord). record actor { mailbox = drop 1 actor.mailbox }) no_needs c.drop_head-taken.ensures.changed (λ actor. refl) (λ actor. refl) (λ actor. refl)
    _ inside.counts.next_letter (omega (arith, c.self.invariant.waiting, c.drop_head-taken.ensures.count))

pub returns-clause-office : goal.returns-clause-office
returns-clause-office c =
    let inside = c.self.inside in
    rw (← c.self.view_is)
    (ap (λ (records : List ActorRecord). record (office_with inside.actors.items inside.names.names inside.timers.timers inside.counts) { actors = records }) c.drop_head-taken.ensures.changed.records)

pub returns-clause-room : goal.returns-clause-room
returns-clause-room c =
    let changed = c.drop_head-taken.ensures.changed in
    rw (← c.self.view_is)
    (record { actors = omega (arith, c.drop_head-taken.ensures.keeps_room); names = omega arith; items = omega arith; timers = omega arith; letters = changed.letters; kids = changed.kids })
