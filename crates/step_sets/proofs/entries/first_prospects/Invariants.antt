use Rattle.std.proofs.Common.{ℕ, ◌↔◌, IsTrue, take}
use Rattle.std.specs.BTreeSet.{contains}
use Rattle.std.specs.Ordering.{nat_cmp}
use Rattle.step_sets.specs.Entries.{LeadsToGoal}
use Rattle.step_sets.proofs.entries.first_prospects.Given as goal

-- the nodes that lead to the goals so far
abbrev pub invariant-loop-goal : goal.invariant-loop-goal
invariant-loop-goal l = (n : ℕ) → IsTrue (contains nat_cmp l.nodes n) ↔ LeadsToGoal l.tree (take l.goal-index l.goals) n
