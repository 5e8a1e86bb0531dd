use Rattle.std.proofs.Common.{take}
use Rattle.std.specs.List.{Contains}
use Rattle.node_tree.specs.Kinds.{IsHistory}
use Rattle.step_sets.specs.History.{AreRenewed, RecordsNodes}
use Rattle.step_sets.proofs.history.record_children.Given as goal

-- the history nodes among the children so far are recorded
abbrev pub invariant-loop-child : goal.invariant-loop-child
invariant-loop-child l = record {
  renewed : AreRenewed l.tree l.active (λ h. IsHistory l.tree h × Contains (take l.child-index l.child-items) h) l.initial.records.entries l.records.entries;
  named : RecordsNodes l.tree l.records.entries;
}
