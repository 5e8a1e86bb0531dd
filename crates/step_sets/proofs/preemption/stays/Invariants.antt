use Rattle.std.specs.BTreeSet.{contains}
use Rattle.std.specs.Ordering.{nat_cmp}
use Rattle.step_sets.proofs.PreemptionLemmas.{AreDecided}
use Rattle.step_sets.proofs.preemption.stays.Given as goal

abbrev pub invariant-loop-exit : goal.invariant-loop-exit
invariant-loop-exit l = AreDecided l.exits l.flags.items (contains nat_cmp l.taken) l.exit-index
