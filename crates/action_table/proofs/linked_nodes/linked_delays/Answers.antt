use Rattle.std.proofs.Common.{◌≡◌, ℕ, List, Some, map, subst}
use Rattle.machine_json.specs.declared.machine.UnlinkedDelay.{UnlinkedDelay}
use Rattle.action_table.specs.Linking.{all_there, linked_after}
use Rattle.action_table.proofs.ThereLemmas.{there-all, there-more}
use Rattle.action_table.proofs.linked_nodes.linked_delays.Goals as goal

pub loop-after-preserved : goal.loop-after-preserved
loop-after-preserved c =
    rw c.in_ok-push.ensures.items
    (there-more (linked_after c.args.table.now) c.as_slice-after-items.result.now c.loop-after.after-index c.after-item.result c.loop-after.linked.items c.in_ok-one.one c.loop-after-test.true c.after-item.is c.loop-after.invariant c.in_ok-one.ensures)

pub returns : goal.returns
returns c =
    rw c.from_vec.ensures
    (subst (λ (l : List (List ℕ × UnlinkedDelay)). all_there (map (linked_after c.args.table.now) l) ≡ Some c.loop-after.linked.items) c.as_slice-after-items.ensures
    (there-all (linked_after c.args.table.now) c.as_slice-after-items.result.now c.loop-after.after-index c.loop-after.linked.items c.loop-after-test.false c.loop-after.invariant))
