use Rattle.microstep.proofs.UnionLemmas.{merged-all, merged-more, merged-start}
use Rattle.microstep.proofs.node_sets.merge.Goals as goal

pub loop-node-init : goal.loop-node-init
loop-node-init c = rw c.new-both.ensures.items (merged-start c.args.first.now c.args.second.now)

pub loop-node-preserved : goal.loop-node-preserved
loop-node-preserved c =
    rw c.in_ok-push.ensures.items
    (merged-more c.args.first.now c.args.second.now c.requires.first c.requires.second _ _ _ _ _ _ c.loop-node.invariant c.in-Some.ensures c.past-i.ensures c.past-j.ensures)

pub returns : goal.returns
returns c = merged-all c.args.first.now c.args.second.now _ _ _ c.loop-node.invariant c.in_default.ensures.0 c.in_default.ensures.1
