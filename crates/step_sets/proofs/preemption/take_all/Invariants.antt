use Rattle.std.proofs.Common.{ℕ, ◌↔◌, ◌⊎◌, IsTrue, take}
use Rattle.std.specs.BTreeSet.{contains}
use Rattle.std.specs.List.{Contains}
use Rattle.std.specs.Ordering.{nat_cmp}
use Rattle.step_sets.proofs.preemption.take_all.Given as goal

-- what was taken before, and the nodes so far
abbrev pub invariant-loop-n : goal.invariant-loop-n
invariant-loop-n l =
    (n : ℕ) → IsTrue (contains nat_cmp l.taken n) ↔ (IsTrue (contains nat_cmp l.initial.taken n) ⊎ Contains (take l.n-index l.nodes) n)
