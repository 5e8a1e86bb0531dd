use Rattle.node_tree.specs.Nodes.{IsBelow}
use Rattle.microstep.specs.Climbing.{IsAtEnd}
use Rattle.microstep.proofs.DoneLemmas.{held-back}
use Rattle.microstep.proofs.done.holds_back.Goals as goal

pub returns-then-below : goal.returns-then-below
returns-then-below c =
    held-back (IsBelow c.args.tree.now c.args.node c.args.high) (IsAtEnd c.args.tree.now c.args.later.now c.args.node) c.is_at_end.result c.is_at_end.ensures (c.below.ensures.0 c.if-below.true)
