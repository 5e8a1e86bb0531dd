use Rattle.std.proofs.Common.{◌∙◌}
use Rattle.action_table.specs.Uses.{uses_of_node}
use Rattle.action_table.proofs.UseLemmas.{unnamed-more, unnamed-all}
use Rattle.action_table.proofs.unnamed.unnamed_in_nodes.Goals as goal

pub loop-node-preserved : goal.loop-node-preserved
loop-node-preserved c =
    c.least_of-least.ensures
    ∙ unnamed-more c.args.ids.now c.args.table.now uses_of_node c.args.nodes.now c.loop-node.node-index c.node-item.result c.loop-node.least c.unnamed_in_node.result c.loop-node-test.true c.node-item.is c.loop-node.invariant
    c.unnamed_in_node.ensures

pub returns : goal.returns
returns c = unnamed-all c.args.ids.now c.args.table.now uses_of_node c.args.nodes.now c.loop-node.node-index c.loop-node.least c.loop-node-test.false c.loop-node.invariant
