use Rattle.std.proofs.Common.{false, sym}
use Rattle.office_types.specs.Records.{is_active}
use Rattle.actor_tree.proofs.RecordLemmas.{word_of, word_of_none}
use Rattle.actor_tree.proofs.held.Held.is_active.Goals as goal

pub returns-in-Some : goal.returns-in-Some
returns-in-Some c = rw (c.is_active.ensures, ← c.self.view_is) (sym (word_of is_active false c.args.number c.self.inside.actors.items c.in-Some.actor.now (sym c.in-Some.ensures)))

pub returns-in-None : goal.returns-in-None
returns-in-None c = rw (← c.self.view_is) (sym (word_of_none is_active false c.args.number c.self.inside.actors.items (sym c.in-None.ensures)))
