use Rattle.std.proofs.Common.{Some, refl, sym, ap, ◌∙◌, List, arith}
use Rattle.office_types.specs.declared.office.ActorRecord.{ActorRecord}
use Rattle.actor_tree.specs.HeldOffice.{no_needs, office_with}
use Rattle.actor_tree.proofs.HeldLemmas.{still_held}
use Rattle.actor_tree.proofs.held.Held.set_own.Goals as goal

pub invariant_of-self : goal.invariant_of-self
invariant_of-self c =
    let inside = c.self.inside in
    still_held inside.actors.items _ inside.names.names inside.timers.timers inside.items.items inside.counts c.self.invariant
    c.args.actor (λ (actor : ActorRecord). record actor { own = Some c.args.own }) no_needs c.set_own.ensures.changed (λ actor. refl) (λ actor. refl) (λ actor. refl)
    inside.counts.waiting inside.counts.next_letter (c.self.invariant.waiting ∙ sym c.set_own.ensures.count)

pub returns-clause-office : goal.returns-clause-office
returns-clause-office c =
    let inside = c.self.inside in
    rw (← c.self.view_is)
    (ap (λ (records : List ActorRecord). record (office_with inside.actors.items inside.names.names inside.timers.timers inside.counts) { actors = records }) c.set_own.ensures.changed.records)

pub returns-clause-room : goal.returns-clause-room
returns-clause-room c =
    rw (← c.self.view_is)
    (record { actors = omega (arith, c.set_own.ensures.keeps_room); names = omega arith; items = omega arith; timers = omega arith; letters = c.set_own.ensures.changed.letters; kids = c.set_own.ensures.changed.kids })
