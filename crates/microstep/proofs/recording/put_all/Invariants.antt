use Rattle.std.proofs.Common.{length}
use Rattle.microstep.proofs.RecordingLemmas.{IsPut}
use Rattle.microstep.proofs.recording.put_all.Given as goal

-- those that are left before what is there
abbrev pub invariant-loop-record : goal.invariant-loop-record
invariant-loop-record l = IsPut l.fn.history l.initial.records.entries l.rest.items l.records.entries

abbrev pub decreases-loop-record : goal.decreases-loop-record
decreases-loop-record l = length l.rest.items
