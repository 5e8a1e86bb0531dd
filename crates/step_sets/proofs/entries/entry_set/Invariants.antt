use Rattle.std.proofs.Common.{ℕ, ◌-◌, length, get_or}
use Rattle.std.specs.BTreeSet.{contains}
use Rattle.std.specs.Ordering.{nat_cmp}
use Rattle.step_sets.proofs.ProspectLemmas.{IsDone}
use Rattle.step_sets.proofs.entries.entry_set.Given as goal

-- all is done before some node, and each prospect from there on is pending
abbrev pub invariant-loop-node : goal.invariant-loop-node
invariant-loop-node l = (bound : ℕ) × IsDone l.tree l.goals l.domain bound (contains nat_cmp l.pending) l.entries.items

-- the first prospect rises
abbrev pub decreases-loop-node : goal.decreases-loop-node
decreases-loop-node l = length l.tree - get_or l.pending.keys 0 (length l.tree)
