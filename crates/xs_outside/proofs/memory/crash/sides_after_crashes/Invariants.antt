use Rattle.std.proofs.Common.{◌≡◌, map, reverse, take}
use Rattle.xs_outside.specs.Crash.{side_after_crash, fates_of}
use Rattle.xs_outside.proofs.memory.crash.sides_after_crashes.Given as goal

abbrev pub invariant-loop-fate : goal.invariant-loop-fate
invariant-loop-fate l = l.sides.items ≡ map (λ fate. side_after_crash fate l.start (reverse l.changes)) (take l.fate-index (fates_of (reverse l.changes)))
