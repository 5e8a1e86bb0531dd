use Rattle.std.proofs.Common.{◌≡◌, drop}
use Rattle.actor_tree.specs.Following.{without_numbers}
use Rattle.actor_tree.proofs.following.remove_all.Given as goal

abbrev pub invariant-loop-number : goal.invariant-loop-number
invariant-loop-number l = (without_numbers (drop l.number-index l.numbers) l.heads.items ≡ without_numbers l.numbers l.initial.heads.items) × (l.heads.spare ≡ l.initial.heads.spare)
