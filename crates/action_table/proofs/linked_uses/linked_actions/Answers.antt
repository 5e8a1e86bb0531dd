use Rattle.std.proofs.Common.{◌≡◌, ◌++◌, List, Some, ap, ◌∙◌, subst, sym}
use Rattle.std.specs.Option.{option_map}
use Rattle.std.proofs.lemmas.List.{take_all}
use Rattle.guard_eval.specs.declared.transition.ActionUse.{ActionUse}
use Rattle.action_table.specs.Linking.{linked_action, linked_actions}
use Rattle.action_table.proofs.ThereLemmas.{joined-more}
use Rattle.action_table.proofs.linked_uses.linked_actions.Goals as goal

pub loop-one-preserved : goal.loop-one-preserved
loop-one-preserved c =
    joined-more (linked_action c.args.table.now) c.args.used.now c.loop-one.one-index c.one-item.result c.loop-one.uses.items c.append.new.self.items
    c.loop-one-test.true c.one-item.is c.loop-one.invariant
    (ap (option_map (λ (more : List ActionUse). c.loop-one.uses.items ++ more)) c.in_ok-more.ensures ∙ ap Some (sym c.in_ok-append.ensures.items))

pub returns : goal.returns
returns c =
    rw c.from_vec.ensures
    (subst (λ l. linked_actions c.args.table.now l ≡ Some c.loop-one.uses.items) (take_all c.loop-one.one-index c.args.used.now c.loop-one-test.false) c.loop-one.invariant)
