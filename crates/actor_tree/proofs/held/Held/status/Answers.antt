use Rattle.std.proofs.Common.{◌≡◌, sym, ap, ◌∙◌}
use Rattle.std.specs.Option.{option_map}
use Rattle.office_types.specs.declared.office.ActorRecord.{ActorRecord}
use Rattle.actor_tree.specs.Actors.{record_of}
use Rattle.actor_tree.proofs.RecordLemmas.{record_found}
use Rattle.actor_tree.proofs.held.Held.status.Goals as goal

pub returns-in-Some : goal.returns-in-Some
returns-in-Some c =
    rw (← c.self.view_is)
    (sym (ap (option_map (λ (actor : ActorRecord). actor.status)) (record_found c.args.number c.self.inside.actors.items ∙ ap (option_map (record_of c.args.number)) (sym c.in-Some.ensures))))

pub returns-in-None : goal.returns-in-None
returns-in-None c =
    rw (← c.self.view_is)
    (sym (ap (option_map (λ (actor : ActorRecord). actor.status)) (record_found c.args.number c.self.inside.actors.items ∙ ap (option_map (record_of c.args.number)) (sym c.in-None.ensures))))
