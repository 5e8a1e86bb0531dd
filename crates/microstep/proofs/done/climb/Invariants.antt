use Rattle.std.proofs.Common.{List, ◌++◌}
use Rattle.std.specs.List.{Contains}
use Rattle.node_tree.specs.Nodes.{AreNodes}
use Rattle.microstep.specs.Acts.{Act}
use Rattle.microstep.specs.Climbing.{IsActiveYet, parallel_done}
use Rattle.microstep.specs.DoneEvents.{IsClimb}
use Rattle.microstep.proofs.done.climb.Given as goal

-- what climbs from here climbs from the node, behind the nodes so far
abbrev pub invariant-loop-high : goal.invariant-loop-high
invariant-loop-high l =
    Contains l.configuration l.low
    × ((above : List Act) → IsClimb l.def (IsActiveYet l.configuration l.later) l.low above → IsClimb l.def (IsActiveYet l.configuration l.later) l.node (parallel_done l.def l.nodes.items ++ above))
    × AreNodes l.def.tree l.nodes.items

abbrev pub decreases-loop-high : goal.decreases-loop-high
decreases-loop-high l = l.low
