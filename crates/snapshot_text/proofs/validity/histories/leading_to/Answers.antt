use Rattle.std.proofs.Common.{◌==◌, ◌↔◌, arith}
use Rattle.std.specs.List.{Contains}
use Rattle.std.proofs.lemmas.List.Filters.{dedup_is}
use Rattle.std.proofs.lemmas.List.{take_all}
use Rattle.snapshot_text.specs.Histories.{LeadsToSome}
use Rattle.snapshot_text.proofs.FitLemmas.{leads_none, leads_one_more}
use Rattle.snapshot_text.proofs.RecordLemmas.{sorted_once}
use Rattle.snapshot_text.proofs.validity.histories.leading_to.Goals as goal

pub push_path-requires : goal.push_path-requires
push_path-requires c = (c.requires c.loop-leaf.leaf-index 0 c.loop-leaf-test.true).0

pub loop-leaf-init : goal.loop-leaf-init
loop-leaf-init c = leads_none c.args.tree.now c.args.leaves.now c.new-nodes.result.items c.args.top c.new-nodes.ensures.items

pub loop-leaf-preserved : goal.loop-leaf-preserved
loop-leaf-preserved c =
    leads_one_more c.args.tree.now c.args.leaves.now c.push_path.new.nodes.items c.loop-leaf.nodes.items c.args.top c.loop-leaf.leaf-index c.loop-leaf-test.true c.loop-leaf.invariant c.in_ok-push_path.ensures

pub returns : goal.returns
returns c =
    let once = sorted_once c.loop-leaf.nodes.items c.sort_unstable.new.self.items c.dedup.new.self.items c.sort_unstable.ensures.permutation c.sort_unstable.ensures.sorted (dedup_is (λ a b. a == b) c.sort_unstable.new.self.items c.dedup.new.self.items c.dedup.ensures.filtered) in
    record {
      rise = once.0;
      exact = λ n.
          let before : Contains c.loop-leaf.nodes.items n ↔ LeadsToSome c.args.tree.now c.args.leaves.now c.args.top n =
          rw (take_all c.loop-leaf.leaf-index c.args.leaves.now (omega arith)) at (c.loop-leaf.invariant n) in
          ((λ has. before.0 ((once.1 n).0 has)), (λ leads. (once.1 n).1 (before.1 leads)));
    }
