use Rattle.std.proofs.Common.{◌≡◌, ◌+◌, ◌≤◌, length, take}
use Rattle.actor_tree.specs.Following.{head_numbers}
use Rattle.actor_tree.proofs.following.heads_of.Given as goal

abbrev pub invariant-loop-actor : goal.invariant-loop-actor
invariant-loop-actor l = (l.heads.items ≡ head_numbers (take l.actor-index l.actors)) × (length l.actors ≤ l.heads.spare + l.actor-index)
