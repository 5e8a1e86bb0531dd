use Rattle.std.proofs.Common.{length, sym, ◌∙◌}
use Rattle.office_types.specs.declared.office.ActorRecord.{ActorRecord}
use Rattle.actor_tree.proofs.RecordLemmas.{word_of, word_of_none}
use Rattle.actor_tree.proofs.held.Held.letters_of.Goals as goal

pub returns-in-Some : goal.returns-in-Some
returns-in-Some c =
    let actor = c.in-Some.actor.now in
    rw (c.len.ensures, ← c.self.view_is)
    (actor.mailbox.ok.0 ∙ sym (word_of (λ (actor : ActorRecord). length actor.mailbox) 0 c.args.number c.self.inside.actors.items actor (sym c.in-Some.ensures)))

pub returns-in-None : goal.returns-in-None
returns-in-None c = rw (← c.self.view_is) (sym (word_of_none (λ (actor : ActorRecord). length actor.mailbox) 0 c.args.number c.self.inside.actors.items (sym c.in-None.ensures)))
