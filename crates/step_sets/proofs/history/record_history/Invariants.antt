use Rattle.std.proofs.Common.{take}
use Rattle.step_sets.specs.History.{AreRenewed, IsRecordedNow, RecordsNodes}
use Rattle.step_sets.proofs.history.record_history.Given as goal

-- what is recorded once the parents so far are left
abbrev pub invariant-loop-parent : goal.invariant-loop-parent
invariant-loop-parent l = record {
  renewed : AreRenewed l.tree l.active (IsRecordedNow l.tree (take l.parent-index l.parent-items)) l.old l.records.entries;
  named : RecordsNodes l.tree l.records.entries;
}
