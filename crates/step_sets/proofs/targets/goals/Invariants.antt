use Rattle.std.proofs.Common.{◌≡◌, take}
use Rattle.step_sets.specs.Goals.{goals_of}
use Rattle.step_sets.proofs.targets.goals.Given as goal

-- where the targets so far lead
abbrev pub invariant-loop-target : goal.invariant-loop-target
invariant-loop-target l = l.goals.items ≡ goals_of l.tree l.history (take l.target-index l.targets)
