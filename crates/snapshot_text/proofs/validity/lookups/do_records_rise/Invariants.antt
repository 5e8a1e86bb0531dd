use Rattle.std.proofs.Common.{ℕ, ◌+◌, ◌<◌, get_or}
use Rattle.office_types.specs.declared.office.ActorRecord.{ActorRecord}
use Rattle.snapshot_text.proofs.validity.lookups.do_records_rise.Given as goal

abbrev pub invariant-loop-place : goal.invariant-loop-place
invariant-loop-place l = (k : ℕ) (d : ActorRecord) → k + 1 < l.place → (get_or l.actors k d).number < (get_or l.actors (k + 1) d).number
