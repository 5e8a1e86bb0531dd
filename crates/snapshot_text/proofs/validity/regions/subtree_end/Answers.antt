use Rattle.std.proofs.Common.{◌≡◌, ◌+◌, arith}
use Rattle.step_sets.proofs.ChildLemmas.{end_is}
use Rattle.snapshot_text.proofs.validity.regions.subtree_end.Goals as goal

pub returns : goal.returns
returns c =
    let found = c.loop-end-2.invariant in
    let close = c.loop-end-2-test.false in
    let next : c.loop-end-2.last + 1 ≡ c.loop-end-2.end = let ordered = found.ordered in omega arith in
    end_is c.args.tree.now c.len-count.ensures.tree c.args.node c.loop-end-2.last c.loop-end-2.end next found.inside found.from found.within found.stop
