use Rattle.action_table.specs.Linking.{linked_item}
use Rattle.action_table.proofs.ThereLemmas.{there-all, there-more}
use Rattle.action_table.proofs.linked_forms.+linked_form.Goals as goal

pub linked_items-loop-item-preserved : goal.linked_items-loop-item-preserved
linked_items-loop-item-preserved t c =
    rw c.in_ok-push.ensures.items
    (there-more (linked_item c.args.table.now) c.args.items.now c.loop-item.item-index c.item-item.result c.loop-item.linked.items c.in_ok-one.one c.loop-item-test.true c.item-item.is c.loop-item.invariant c.in_ok-one.ensures)

pub linked_items-returns : goal.linked_items-returns
linked_items-returns t c =
    rw c.from_vec.ensures
    (there-all (linked_item c.args.table.now) c.args.items.now c.loop-item.item-index c.loop-item.linked.items c.loop-item-test.false c.loop-item.invariant)
