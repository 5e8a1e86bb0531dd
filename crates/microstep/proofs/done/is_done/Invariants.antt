use Rattle.std.proofs.Common.{ℕ, ◌<◌, ◌≤◌, length, get_or}
use Rattle.node_tree.specs.Nodes.{IsBelow}
use Rattle.microstep.specs.Climbing.{IsAtEnd}
use Rattle.microstep.proofs.done.is_done.Given as goal

-- those of the active nodes from here on that are below the node are at their end
abbrev pub invariant-loop-i : goal.invariant-loop-i
invariant-loop-i l = (k : ℕ) → l.i ≤ k → k < length l.configuration → IsBelow l.tree (get_or l.configuration k 0) l.node → IsAtEnd l.tree l.later (get_or l.configuration k 0)
