use Rattle.std.proofs.Common.{◌∷◌, [], List, refl, sym, ap, ◌∙◌, arith}
use Rattle.office_types.specs.declared.office.ActorRecord.{ActorRecord}
use Rattle.office_types.specs.Effects.{with_kid}
use Rattle.actor_tree.specs.HeldOffice.{no_needs, office_with}
use Rattle.actor_tree.proofs.HeldLemmas.{still_held}
use Rattle.actor_tree.proofs.held.Held.join.Goals as goal

pub invariant_of-self : goal.invariant_of-self
invariant_of-self c =
    let inside = c.self.inside in
    still_held inside.actors.items _ inside.names.names inside.timers.timers inside.items.items inside.counts c.self.invariant
    c.args.parent (with_kid c.args.id c.args.child) (record no_needs { parents = c.args.parent ∷ [] }) c.add_kid.ensures.changed (λ actor. refl) (λ actor. refl) (λ actor. refl)
    inside.counts.waiting inside.counts.next_letter (c.self.invariant.waiting ∙ sym c.add_kid.ensures.count)

pub returns-clause-office : goal.returns-clause-office
returns-clause-office c =
    let inside = c.self.inside in
    rw (← c.self.view_is)
    (ap (λ (records : List ActorRecord). record (office_with inside.actors.items inside.names.names inside.timers.timers inside.counts) { actors = records }) c.add_kid.ensures.changed.records)

pub returns-clause-room : goal.returns-clause-room
returns-clause-room c =
    let changed = c.add_kid.ensures.changed in
    rw (← c.self.view_is)
    (record { actors = omega (arith, c.add_kid.ensures.keeps_room); names = omega arith; items = omega arith; timers = omega arith; letters = changed.letters; kids = changed.kids })
