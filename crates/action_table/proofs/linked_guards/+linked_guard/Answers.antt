use Rattle.action_table.specs.Linking.{linked_guard}
use Rattle.action_table.proofs.ThereLemmas.{there-all, there-more}
use Rattle.action_table.proofs.linked_guards.+linked_guard.Goals as goal

pub linked_guards-loop-guard-preserved : goal.linked_guards-loop-guard-preserved
linked_guards-loop-guard-preserved t c =
    rw c.in_ok-push.ensures.items
    (there-more (linked_guard c.args.table.now) c.args.guards.now c.loop-guard.guard-index c.guard-item.result c.loop-guard.linked.items c.in_ok-one.one c.loop-guard-test.true c.guard-item.is c.loop-guard.invariant c.in_ok-one.ensures)

pub linked_guards-returns : goal.linked_guards-returns
linked_guards-returns t c =
    rw c.from_vec.ensures
    (there-all (linked_guard c.args.table.now) c.args.guards.now c.loop-guard.guard-index c.loop-guard.linked.items c.loop-guard-test.false c.loop-guard.invariant)
