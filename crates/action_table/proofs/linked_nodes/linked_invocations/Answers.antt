use Rattle.std.proofs.Common.{◌≡◌, List, Some, map, subst}
use Rattle.machine_json.specs.declared.machine.UnlinkedInvocation.{UnlinkedInvocation}
use Rattle.action_table.specs.Linking.{all_there, linked_invocation}
use Rattle.action_table.proofs.ThereLemmas.{there-all, there-more}
use Rattle.action_table.proofs.linked_nodes.linked_invocations.Goals as goal

pub loop-invocation-preserved : goal.loop-invocation-preserved
loop-invocation-preserved c =
    rw c.in_ok-push.ensures.items
    (there-more (linked_invocation c.args.table.now) c.as_slice-invocation-items.result.now c.loop-invocation.invocation-index c.invocation-item.result c.loop-invocation.linked.items c.in_ok-one.one c.loop-invocation-test.true c.invocation-item.is c.loop-invocation.invariant c.in_ok-one.ensures)

pub returns : goal.returns
returns c =
    rw c.from_vec.ensures
    (subst (λ (l : List UnlinkedInvocation). all_there (map (linked_invocation c.args.table.now) l) ≡ Some c.loop-invocation.linked.items) c.as_slice-invocation-items.ensures
    (there-all (linked_invocation c.args.table.now) c.as_slice-invocation-items.result.now c.loop-invocation.invocation-index c.loop-invocation.linked.items c.loop-invocation-test.false c.loop-invocation.invariant))
