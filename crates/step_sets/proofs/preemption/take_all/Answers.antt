use Rattle.std.specs.BTreeSet.{contains}
use Rattle.std.specs.Ordering.{nat_cmp}
use Rattle.step_sets.proofs.PreemptionLemmas.{taken_more}
use Rattle.step_sets.proofs.preemption.take_all.Goals as goal

pub loop-n-preserved : goal.loop-n-preserved
loop-n-preserved c = λ n.
    taken_more (contains nat_cmp c.args.taken.now n) (contains nat_cmp c.loop-n.taken n) (contains nat_cmp c.insert.new.self n) c.args.nodes.now c.loop-n.n-index n c.loop-n-test.true (c.in_ok-insert.ensures.updates.0 n) (c.loop-n.invariant n)
