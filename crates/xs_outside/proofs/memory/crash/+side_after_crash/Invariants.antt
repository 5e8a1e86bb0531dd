use Rattle.std.proofs.Common.{length}
use Rattle.xs_outside.proofs.memory.crash.+side_after_crash.Given as goal

abbrev pub decreases-side_after_crash : goal.decreases-side_after_crash
decreases-side_after_crash l = length l.changes.now
