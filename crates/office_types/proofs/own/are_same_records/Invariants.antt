use Rattle.std.proofs.Common.{◌≡◌, length, take}
use Rattle.office_types.proofs.own.are_same_records.Given as goal

abbrev pub invariant-loop-place : goal.invariant-loop-place
invariant-loop-place l = (length l.history-items ≡ length l.rest) × (take l.place l.history-items ≡ take l.place l.rest)
