use Rattle.std.proofs.Common.{◌<◌, length, slice_index, arith, refl}
use Rattle.node_tree.specs.Tables.{IsEnd}
use Rattle.node_tree.proofs.TreeLemmas.{past_is_below_none, stops_here, goes_on}
use Rattle.node_tree.proofs.ends.subtree_end.Goals as goal

pub loop-at-preserved : goal.loop-at-preserved
loop-at-preserved c =
    let inside : c.loop-at.at < length c.args.nodes.now = c.loop-at-test.true in
    let ends : IsEnd c.args.nodes.now c.loop-at.at (slice_index c.args.ends.now c.loop-at.at) = c.requires.later c.loop-at.at c.loop-at.invariant.after inside in
    record {
      after = let more = ends.after in let before = c.loop-at.invariant.after in omega arith;
      inside = ends.inside;
      below = goes_on c.args.nodes.now c.args.n c.loop-at.at (slice_index c.args.ends.now c.loop-at.at) c.index-nodes-at.result c.requires.placed c.loop-at.invariant.after inside c.loop-at.invariant.below c.index-nodes-at.is (c.if-has_parent_from.ensures.0 refl) ends;
    }

pub returns-else-has_parent_from : goal.returns-else-has_parent_from
returns-else-has_parent_from c = record {
  after = c.loop-at.invariant.after;
  inside = c.loop-at.invariant.inside;
  below = c.loop-at.invariant.below;
  last = stops_here c.args.nodes.now c.args.n c.loop-at.at c.index-nodes-at.result c.requires.placed c.loop-at-test.true c.index-nodes-at.is (λ from. let yes_is_no = c.if-has_parent_from.ensures.1 from in cc);
}

pub returns-after-loop-at : goal.returns-after-loop-at
returns-after-loop-at c = record {
  after = c.loop-at.invariant.after;
  inside = c.loop-at.invariant.inside;
  below = c.loop-at.invariant.below;
  last = past_is_below_none _ _ _ c.loop-at-test.false;
}
