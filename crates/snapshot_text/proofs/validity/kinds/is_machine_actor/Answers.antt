use Rattle.std.proofs.Common.{◌≡◌, ◌∙◌, List, Some, ap, sym, subst}
use Rattle.std.specs.Prelude.{slice_get}
use Rattle.node_tree.specs.declared.node.Node.{Node}
use Rattle.office_types.specs.OwnParts.{IsOwnPart}
use Rattle.snapshot_text.proofs.DefinitionLemmas.{machine_inside, machine_nodes, no_machine}
use Rattle.snapshot_text.proofs.ListLemmas.{if_ok_weaker}
use Rattle.snapshot_text.proofs.validity.kinds.is_machine_actor.Goals as goal

pub returns-in_default : goal.returns-in_default
returns-in_default c = ((λ holds. absurd cc), (λ machine. absurd (no_machine c.args.defs.now c.args.own.now.def (sym c.in_default.ensures) machine.machine)))

pub returns-then-not-have_ids : goal.returns-then-not-have_ids
returns-then-not-have_ids c = ((λ holds. absurd cc), (λ machine. absurd (let good = c.have_ids.ensures.1 (rw (c.as_slice-kids.ensures, c.as_slice-ids.ensures) machine.kids) in let bad = c.if-not-have_ids.true in cc)))

pub returns : goal.returns
returns c =
    let def = c.deref.result.now in
    let found : slice_get c.args.defs.now.defs c.args.own.now.def ≡ Some c.deref.result.now = sym c.in-Some.ensures ∙ ap Some (sym c.deref.ensures) in
    let same = machine_nodes c.args.defs.now c.args.own.now.def c.deref.result.now found in
    let P : List Node → Type 0 = λ nodes. IsOwnPart nodes c.args.own.now in
    if_ok_weaker c.is_own_part.result c.is_own_part.ensures
    (λ valid tells. (
      (λ holds. record {
        machine = machine_inside c.args.defs.now c.args.own.now.def c.deref.result.now found;
        part = subst P (sym same) (tells.0 holds);
        kids = rw (c.as_slice-kids.ensures, c.as_slice-ids.ensures) at (c.have_ids.ensures.0 c.if-not-have_ids.false);
        init = c.begins_as_it_may.ensures.0 c.if-not-begins_as_it_may.false;
      }),
      (λ machine. tells.1 (subst P same machine.part)),
    ))
