use Rattle.std.proofs.Common.{refl, sym}
use Rattle.microstep.proofs.DoneLemmas.{at-end-iff}
use Rattle.microstep.proofs.done.is_at_end.Goals as goal

pub returns : goal.returns
returns c =
    at-end-iff c.args.tree.now c.args.later.now c.args.node c.in-Some.parent c.node.result.now.kind c.node-2.result.now.kind c.is_among-active.result c.lets_end.result
    (sym c.in-Some.ensures.parent) (rw c.node.ensures refl) (rw c.node-2.ensures refl) c.is_among-active.ensures c.lets_end.ensures
