use Rattle.action_table.specs.Linking.{IsLinkedNode}
use Rattle.action_table.proofs.ThereLemmas.{zip-all, zip-more}
use Rattle.action_table.proofs.linked_nodes.linked_nodes.Goals as goal

pub loop-node-preserved : goal.loop-node-preserved
loop-node-preserved c =
    rw c.in_ok-push.ensures.items
    (zip-more (IsLinkedNode c.args.table.now) c.args.nodes.now c.loop-node.node-index c.node-item.result c.loop-node.linked.items c.in_ok-one.one c.loop-node-test.true c.node-item.is c.loop-node.invariant c.in_ok-one.ensures)

pub returns : goal.returns
returns c =
    rw c.from_vec.ensures
    (zip-all (IsLinkedNode c.args.table.now) c.args.nodes.now c.loop-node.node-index c.loop-node.linked.items c.loop-node-test.false c.loop-node.invariant)
