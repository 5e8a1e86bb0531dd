use Rattle.std.proofs.Common.{ℕ, List, take}
use Rattle.std.specs.List.{All}
use Rattle.step_sets.specs.Statechart.{IsFitRecord}
use Rattle.snapshot_text.proofs.validity.histories.is_recorded_history.Given as goal

abbrev pub invariant-loop-node : goal.invariant-loop-node
invariant-loop-node l = All (λ (entry : ℕ × List ℕ). IsFitRecord l.tree entry.0 entry.1) (take l.node-index l.history)
