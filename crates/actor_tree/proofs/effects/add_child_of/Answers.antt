use Rattle.std.proofs.Common.{◌≡◌, ◌∙◌, Ok, ap, rules, sym}
use Rattle.office_types.specs.Fitting.{Fitted}
use Rattle.action_table.specs.Definitions.{actor_logic}
use Rattle.actor_tree.specs.declared.part.Part.TheVariants as part
use Rattle.actor_tree.specs.Changes.{AheadOffice, at_office, with_part}
use Rattle.actor_tree.proofs.ChildLemmas.{child_fits}
use Rattle.actor_tree.proofs.effects.add_child_of.Goals as goal

pub returns : goal.returns
returns c =
    let old = c.args.ahead in
    let office : AheadOffice → Fitted = λ (a : AheadOffice). Ok a.office in
    let spawned : c.in_ok-spawn.field-0 ≡ with_part (with_part old (part.Make c.in_ok-child.child)) (part.Join old.actor c.args.id.now old.office.next_actor) = search rules in
    record {
      goes = (
        child_fits old c.args.id.now (actor_logic (c.args.name.now, c.args.logic)) c.args.input.now c.args.system.now c.in_ok-child.child c.in_default.ensures.none c.in_ok-child.ensures.made
            ∙ ap office (sym spawned),
        spawned ∙ ap (λ (a : AheadOffice). at_office old a.office) (sym spawned),
      );
    }
