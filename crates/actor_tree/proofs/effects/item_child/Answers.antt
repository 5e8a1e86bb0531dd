use Rattle.std.proofs.Common.{◌≡◌, ◌∙◌, Some, ap, refl, subst, sym}
use Rattle.std.specs.Prelude.{IfSome, Option}
use Rattle.office_types.specs.declared.office.ActorRecord.{ActorRecord}
use Rattle.office_types.specs.declared.office.Item.{Item}
use Rattle.actor_tree.proofs.ChildLemmas.{born_item, made_item}
use Rattle.actor_tree.proofs.effects.item_child.Goals as goal

pub returns : goal.returns
returns c =
    let office = c.args.ahead.now.office in
    let actor = c.args.ahead.now.actor in
    let made = rw (c.next_actor.ensures, c.actor.ensures) at (c.in_ok-made.ensures.made) in
    record {
      made = made_item office c.in_ok-made.made (Some actor) c.args.src c.args.input c.args.system (made office.next_actor);
      born = born_item c.in_ok-made.made actor c.args.system (record { actor = office.next_actor; src = c.args.src; input = c.args.input }) made c.in_ok-made.ensures.complete;
      item = subst (λ (o : Option Item). IfSome o (λ item. item.actor ≡ office.next_actor)) (sym (c.in_ok-made.ensures.complete.item ∙ ap (λ (r : ActorRecord). r.item) (made 0))) refl;
    }
