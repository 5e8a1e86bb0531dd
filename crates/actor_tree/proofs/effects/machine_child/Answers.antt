use Rattle.std.proofs.Common.{◌∙◌, Some, ap}
use Rattle.office_types.specs.declared.office.ActorRecord.{ActorRecord}
use Rattle.office_types.specs.declared.office.Origin.TheVariants as origin
use Rattle.office_types.specs.Effects.{fresh_own}
use Rattle.actor_tree.proofs.ChildLemmas.{born_machine, next_free}
use Rattle.actor_tree.proofs.GrantLemmas.{first_letter, made_machine}
use Rattle.actor_tree.proofs.effects.machine_child.Goals as goal

pub returns : goal.returns
returns c =
    let office = c.args.ahead.now.office in
    let actor = c.args.ahead.now.actor in
    let made = rw (c.next_letter.ensures, c.in_ok-init_event.ensures, c.actor-parent.ensures) at (c.in_ok-made.ensures.made) in
    record {
      made = made_machine office c.in_ok-made.made (origin.Actor actor) (Some actor) c.args.machine c.args.input c.args.system (next_free office c.next_is_free.ensures) (made office.next_actor);
      born = born_machine c.in_ok-made.made (first_letter office.next_letter (origin.Actor actor) c.args.input) actor c.args.system (Some (fresh_own c.args.machine)) made c.in_ok-made.ensures.complete;
      item = c.in_ok-made.ensures.complete.item ∙ ap (λ (r : ActorRecord). r.item) (made 0);
    }
