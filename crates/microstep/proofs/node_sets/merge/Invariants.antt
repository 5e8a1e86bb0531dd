use Rattle.std.proofs.Common.{◌+◌, ◌-◌, length}
use Rattle.microstep.proofs.UnionLemmas.{IsMerged}
use Rattle.microstep.proofs.node_sets.merge.Given as goal

-- the nodes before both places, which stand before those at the places
abbrev pub invariant-loop-node : goal.invariant-loop-node
invariant-loop-node l = IsMerged l.first l.i l.second l.j l.both.items

abbrev pub decreases-loop-node : goal.decreases-loop-node
decreases-loop-node l = (length l.first - l.i) + (length l.second - l.j)
