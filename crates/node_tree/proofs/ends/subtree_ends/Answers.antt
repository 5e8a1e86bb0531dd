use Rattle.std.proofs.Common.{arith}
use Rattle.node_tree.proofs.TreeLemmas.{subtree_ends}
use Rattle.node_tree.proofs.ends.subtree_ends.Goals as goal

pub returns-clause-below : goal.returns-clause-below
returns-clause-below c = λ low high low_inside high_inside.
    let end = c.loop-n.invariant.later high (omega arith) high_inside in
    subtree_ends c.args.nodes.now c.requires.placed high _ end.after end.below end.last low low_inside
