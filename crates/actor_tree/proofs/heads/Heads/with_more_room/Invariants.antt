use Rattle.std.proofs.Common.{◌≡◌, ◌+◌, ◌≤◌, ◌++◌, length}
use Rattle.actor_tree.specs.Heads.{letters_of_spots}
use Rattle.actor_tree.proofs.heads.Heads.with_more_room.Given as goal

abbrev pub invariant-loop-actor : goal.invariant-loop-actor
invariant-loop-actor l = (l.made.items ++ letters_of_spots l.actor-iterator ≡ l.self.items) × (length l.actor-iterator + l.more ≤ l.made.spare)
