use Rattle.std.proofs.Common.{◌<◌, ◌≤◌, ◌-◌, length}
use Rattle.node_tree.specs.Nodes.{IsBelow, IsWithin}
use Rattle.snapshot_text.proofs.validity.regions.subtree_end.Given as goal

-- the last node so far that is the node or below it
abbrev pub invariant-loop-end : goal.invariant-loop-end
invariant-loop-end l = record {
  from : l.node ≤ l.last;
  ordered : l.last < l.end;
  inside : l.end ≤ length l.tree;
  within : IsWithin l.tree l.last l.node;
}

abbrev pub decreases-loop-end : goal.decreases-loop-end
decreases-loop-end l = length l.tree - l.end

-- and one that is not, or the end of the tree
abbrev pub invariant-loop-end-2 : goal.invariant-loop-end-2
invariant-loop-end-2 l = record {
  from : l.node ≤ l.last;
  ordered : l.last < l.end;
  inside : l.end ≤ length l.tree;
  within : IsWithin l.tree l.last l.node;
  stop : l.end < length l.tree → IsBelow l.tree l.end l.node → ⊥;
}

abbrev pub decreases-loop-end-2 : goal.decreases-loop-end-2
decreases-loop-end-2 l = l.end - l.last
