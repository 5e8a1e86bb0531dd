use Rattle.std.proofs.Common.{◌≡◌, ◌≤◌, sum_by, take}
use Rattle.actor_tree.specs.Following.{actors_made}
use Rattle.actor_tree.proofs.following.room_for.Given as goal

abbrev pub invariant-loop-part : goal.invariant-loop-part
invariant-loop-part l = (l.count ≡ sum_by actors_made (take l.part-index l.parts)) × (l.count ≤ l.part-index)
