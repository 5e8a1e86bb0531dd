use Rattle.std.proofs.Common.{◌≡◌, length, take}
use Rattle.office_types.proofs.own.are_same_texts.Given as goal

abbrev pub invariant-loop-place : goal.invariant-loop-place
invariant-loop-place l = (length l.text-items ≡ length l.rest) × (take l.place l.text-items ≡ take l.place l.rest)
