use Rattle.std.proofs.Common.{◌≡◌, ◌++◌, length}
use Rattle.microstep.proofs.recording.in_document_order.Given as goal

-- the records so far and those that are left
abbrev pub invariant-loop-record : goal.invariant-loop-record
invariant-loop-record l = l.list.items ++ l.records.entries ≡ l.initial.records.entries

abbrev pub decreases-loop-record : goal.decreases-loop-record
decreases-loop-record l = length l.records.entries
