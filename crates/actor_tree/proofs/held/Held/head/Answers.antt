use Rattle.std.proofs.Common.{sym}
use Rattle.std.specs.List.{slice_get}
use Rattle.office_types.specs.declared.office.ActorRecord.{ActorRecord}
use Rattle.actor_tree.proofs.RecordLemmas.{part_of, part_of_none}
use Rattle.actor_tree.proofs.held.Held.head.Goals as goal

pub returns-in_err-find : goal.returns-in_err-find
returns-in_err-find c =
    rw (c.from_residual.ensures, ← c.self.view_is) (sym (part_of_none (λ (actor : ActorRecord). slice_get actor.mailbox 0) c.args.number c.self.inside.actors.items (sym c.in_err-find.ensures)))

pub returns : goal.returns
returns c =
    rw (c.head.ensures, ← c.self.view_is)
    (sym (part_of (λ (actor : ActorRecord). slice_get actor.mailbox 0) c.args.number c.self.inside.actors.items c.in_ok-find.field-0.now (sym c.in_ok-find.ensures)))
