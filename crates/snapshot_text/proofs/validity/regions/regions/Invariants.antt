use Rattle.std.proofs.Common.{◌<◌, ◌≤◌, ◌-◌, length}
use Rattle.node_tree.specs.Nodes.{IsBelow, IsChild}
use Rattle.step_sets.specs.Sets.{IsSetOf}
use Rattle.snapshot_text.specs.Histories.{IsRegion}
use Rattle.snapshot_text.proofs.validity.regions.regions.Given as goal

-- the regions before the place, which is a child itself if it is below the parent
abbrev pub invariant-loop-at : goal.invariant-loop-at
invariant-loop-at l = record {
  after : l.parent < l.at;
  inside : l.at ≤ length l.tree;
  next : IsBelow l.tree l.at l.parent → IsChild l.tree l.at l.parent;
  set : IsSetOf (λ n. (n < l.at) × IsRegion l.tree l.parent n) l.nodes.items;
}

abbrev pub decreases-loop-at : goal.decreases-loop-at
decreases-loop-at l = length l.tree - l.at
