use Rattle.std.proofs.Common.{◌≡◌, List, Some, map, subst}
use Rattle.machine_json.specs.declared.machine.UnlinkedTransition.{UnlinkedTransition}
use Rattle.action_table.specs.Linking.{all_there, linked_transition}
use Rattle.action_table.proofs.ThereLemmas.{there-all, there-more}
use Rattle.action_table.proofs.linked_nodes.linked_transitions.Goals as goal

pub loop-transition-preserved : goal.loop-transition-preserved
loop-transition-preserved c =
    rw c.in_ok-push.ensures.items
    (there-more (linked_transition c.args.table.now) c.as_slice-transition-items.result.now c.loop-transition.transition-index c.transition-item.result c.loop-transition.linked.items c.in_ok-one.one c.loop-transition-test.true c.transition-item.is c.loop-transition.invariant c.in_ok-one.ensures)

pub returns : goal.returns
returns c =
    rw c.from_vec.ensures
    (subst (λ (l : List UnlinkedTransition). all_there (map (linked_transition c.args.table.now) l) ≡ Some c.loop-transition.linked.items) c.as_slice-transition-items.ensures
    (there-all (linked_transition c.args.table.now) c.as_slice-transition-items.result.now c.loop-transition.transition-index c.loop-transition.linked.items c.loop-transition-test.false c.loop-transition.invariant))
