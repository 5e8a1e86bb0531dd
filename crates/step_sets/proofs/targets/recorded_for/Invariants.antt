use Rattle.std.proofs.Common.{◌≡◌, drop}
use Rattle.step_sets.specs.Goals.{record_of}
use Rattle.step_sets.proofs.targets.recorded_for.Given as goal

-- none of the records so far is that of the node
abbrev pub invariant-loop-record : goal.invariant-loop-record
invariant-loop-record l = record_of l.record-items l.node ≡ record_of (drop l.record-index l.record-items) l.node
