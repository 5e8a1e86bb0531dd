use Rattle.std.proofs.Common.{ℕ, ◌<◌, ◌≤◌, ◌-◌, length, get_or}
use Rattle.node_tree.specs.Nodes.{IsBelow}
use Rattle.step_sets.proofs.runs.run_below.Given as goal

-- the nodes from the first one on are below the node so far
abbrev pub invariant-loop-end : goal.invariant-loop-end
invariant-loop-end l = record {
  ordered : l.start ≤ l.end;
  inside : l.end ≤ length l.nodes;
  all : (k : ℕ) → l.start ≤ k → k < l.end → IsBelow l.tree (get_or l.nodes k 0) l.high;
}

abbrev pub decreases-loop-end : goal.decreases-loop-end
decreases-loop-end l = length l.nodes - l.end
