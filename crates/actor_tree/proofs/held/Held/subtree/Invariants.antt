use Rattle.std.proofs.Common.{◌-◌, length}
use Rattle.actor_tree.proofs.WalkLemmas.{IsWalk, walk_bound}
use Rattle.actor_tree.proofs.held.Held.subtree.Given as goal

abbrev pub invariant-loop-actor : goal.invariant-loop-actor
invariant-loop-actor l = IsWalk l.self.office l.fn.number l.found.items l.pending.keys

abbrev pub decreases-loop-actor : goal.decreases-loop-actor
decreases-loop-actor l = walk_bound l.self.office l.fn.number - length l.found.items
