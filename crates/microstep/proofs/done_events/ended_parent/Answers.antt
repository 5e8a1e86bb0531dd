use Rattle.std.proofs.Common.{refl, sym}
use Rattle.microstep.proofs.EndLemmas.{ends-parent}
use Rattle.microstep.proofs.done_events.ended_parent.Goals as goal

pub returns-then-ends : goal.returns-then-ends
returns-then-ends c =
    ends-parent c.args.tree.now c.args.node c.in_ok-parent.parent c.node.result.now.kind c.node-then-parent-ne0.result.now.kind (sym c.in_ok-parent.ensures.parent) (rw c.node.ensures refl)
    (rw c.node-then-parent-ne0.ensures refl) c.if-parent-ne0.true (c.ends.ensures.0 c.if-ends.true)
