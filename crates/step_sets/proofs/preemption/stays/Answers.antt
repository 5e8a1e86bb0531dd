use Rattle.std.proofs.Common.{[], ◌∙◌, arith}
use Rattle.std.specs.BTreeSet.{contains}
use Rattle.std.specs.Ordering.{nat_cmp}
use Rattle.std.proofs.lemmas.List.{get_or_default}
use Rattle.step_sets.proofs.PreemptionLemmas.{AreDecided-more}
use Rattle.step_sets.proofs.preemption.stays.Goals as goal

pub loop-exit-preserved : goal.loop-exit-preserved
loop-exit-preserved c =
    let exits = c.args.exits.now in
    let i = c.loop-exit.exit-index in
    let is = c.as_slice.ensures.nodes ∙ (c.exit-item.is ∙ get_or_default exits i c.exit-item.result [] c.loop-exit-test.true) in
    rw c.in_ok-push.ensures.items
    (AreDecided-more exits c.loop-exit.flags.items (contains nat_cmp c.loop-exit.taken) (contains nat_cmp c.take_apart.new.taken) i c.in_ok-stays.stays c.as_slice.result.now is c.loop-exit.invariant c.in_ok-stays.ensures)

pub returns : goal.returns
returns c =
    rw c.from_vec.ensures
    record {
      each = let each = c.loop-exit.invariant.each in let end = c.loop-exit-test.false in let within = c.loop-exit.auto.exit-index-end in omega arith;
      cases = λ k inside. c.loop-exit.invariant.cases k (let end = c.loop-exit-test.false in omega arith);
    }
