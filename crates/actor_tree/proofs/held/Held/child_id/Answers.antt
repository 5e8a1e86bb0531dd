use Rattle.std.proofs.Common.{[], sym}
use Rattle.office_types.specs.declared.office.ActorRecord.{ActorRecord}
use Rattle.actor_tree.specs.Kids.{id_among}
use Rattle.actor_tree.proofs.RecordLemmas.{word_of, word_of_none}
use Rattle.actor_tree.proofs.held.Held.child_id.Goals as goal

pub returns-in-Some : goal.returns-in-Some
returns-in-Some c =
    rw (c.id_among.ensures, c.as_slice.ensures.value, ← c.self.view_is)
    (sym (word_of (λ (actor : ActorRecord). id_among actor.kids c.args.number) [] c.args.parent c.self.inside.actors.items c.in-Some.actor.now (sym c.in-Some.ensures)))

pub returns-in-None : goal.returns-in-None
returns-in-None c =
    rw (← c.self.view_is) (sym (word_of_none (λ (actor : ActorRecord). id_among actor.kids c.args.number) [] c.args.parent c.self.inside.actors.items (sym c.in-None.ensures)))
