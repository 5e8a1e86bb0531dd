use Rattle.std.proofs.Common.{◌<◌, length, arith}
use Rattle.node_tree.specs.Nodes.{IsBelow}
use Rattle.step_sets.proofs.ChildLemmas.{first_child, next_child}
use Rattle.snapshot_text.proofs.RegionLemmas.{regions_all, regions_none, regions_push, regions_skip}
use Rattle.snapshot_text.proofs.validity.regions.regions.Goals as goal
use Rattle.snapshot_text.proofs.validity.regions.regions.Goals.{then-loop-at-test+else-below, else-loop-at-test}

pub loop-at-init : goal.loop-at-init
loop-at-init c =
    let nodes = c.args.tree.now in
    let tree = c.len-count.ensures.tree in
    let inside = c.requires in
    record {
      after = omega arith;
      inside = omega arith;
      next = first_child nodes tree c.args.parent;
      set = rw c.new-nodes.ensures.items (regions_none nodes tree c.args.parent);
    }

pub loop-at-preserved-then-is_history : goal.loop-at-preserved-then-is_history
loop-at-preserved-then-is_history c =
    let nodes = c.args.tree.now in
    let tree = c.len-count.ensures.tree in
    let end = c.subtree_end-at.ensures in
    let is-child = c.loop-at.invariant.next (c.below.ensures.0 c.if-below.true) in
    record {
      after = let first = c.loop-at.invariant.after in let more = end.after in omega arith;
      inside = end.inside;
      next = next_child nodes tree c.args.parent c.loop-at.at c.subtree_end-at.result is-child end;
      set = regions_skip nodes tree c.args.parent c.loop-at.at c.subtree_end-at.result c.loop-at.nodes.items is-child end (c.is_history.ensures.0 c.if-is_history.true) c.loop-at.invariant.set;
    }

pub loop-at-preserved : goal.loop-at-preserved
loop-at-preserved c =
    let nodes = c.args.tree.now in
    let tree = c.len-count.ensures.tree in
    let end = c.subtree_end-at.ensures in
    let is-child = c.loop-at.invariant.next (c.below.ensures.0 c.if-below.true) in
    record {
      after = let first = c.loop-at.invariant.after in let more = end.after in omega arith;
      inside = end.inside;
      next = next_child nodes tree c.args.parent c.loop-at.at c.subtree_end-at.result is-child end;
      set = rw c.in_ok-push.ensures.items (regions_push nodes tree c.args.parent c.loop-at.at c.subtree_end-at.result c.loop-at.nodes.items is-child end (λ h. let yes = c.is_history.ensures.1 h in let off = c.if-is_history.false in cc) c.loop-at.invariant.set);
    }

pub returns : goal.returns
returns c =
    let stop : c.loop-at.at < length c.args.tree.now → IsBelow c.args.tree.now c.loop-at.at c.args.parent → ⊥ =
    elim c.loop-at-test.branch [
      | then-loop-at-test+else-below w ↦ (λ inside below. let yes = w.below.ensures.1 below in let no = w.if-below.false in cc)
      | else-loop-at-test w ↦ (λ inside below. let past = w.loop-at-test.false in let count = c.len-count.ensures.count in omega arith)
    ] in
    regions_all c.args.tree.now c.len-count.ensures.tree c.args.parent c.loop-at.at c.loop-at.nodes.items c.loop-at.invariant.after stop c.loop-at.invariant.set
