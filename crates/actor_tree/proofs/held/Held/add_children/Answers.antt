use Rattle.std.proofs.Common.{[], refl, sym}
use Rattle.office_types.specs.declared.office.ActorRecord.{ActorRecord}
use Rattle.actor_tree.proofs.RecordLemmas.{word_of, word_of_none}
use Rattle.actor_tree.proofs.held.Held.add_children.Goals as goal

pub returns-in-Some : goal.returns-in-Some
returns-in-Some c =
    let actor = c.in-Some.actor.now in
    let kids = word_of (λ (actor : ActorRecord). actor.kids) [] c.args.number c.self.inside.actors.items actor (sym c.in-Some.ensures) in
    rw (← c.self.view_is, kids, ← c.as_slice.ensures.value) c.add_numbers.ensures

pub returns-in-None : goal.returns-in-None
returns-in-None c =
    let kids = word_of_none (λ (actor : ActorRecord). actor.kids) [] c.args.number c.self.inside.actors.items (sym c.in-None.ensures) in
    rw (← c.self.view_is, kids) refl
