use Rattle.std.specs.List.{Contains}
use Rattle.step_sets.proofs.SetLemmas.{IsPicked}
use Rattle.microstep.proofs.node_sets.without.Given as goal

-- those of the nodes so far that are not in the set
abbrev pub invariant-loop-node : goal.invariant-loop-node
invariant-loop-node l = IsPicked (λ n. ¬ Contains l.others n) l.nodes l.node-index l.rest.items
