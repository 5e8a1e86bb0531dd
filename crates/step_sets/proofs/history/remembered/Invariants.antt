use Rattle.step_sets.specs.History.{CanBeRemembered}
use Rattle.step_sets.proofs.SetLemmas.{IsPicked}
use Rattle.step_sets.proofs.history.remembered.Given as goal

-- those of the nodes so far that can be remembered
abbrev pub invariant-loop-node : goal.invariant-loop-node
invariant-loop-node l = IsPicked (CanBeRemembered l.tree l.history) l.node-items l.node-index l.nodes.items
