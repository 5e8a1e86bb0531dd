use Rattle.std.proofs.Common.{◌≡◌, reverse, take}
use Rattle.xs_outside.specs.History.{content_of}
use Rattle.xs_outside.proofs.memory.crash.content_after.Given as goal

abbrev pub invariant-loop-change : goal.invariant-loop-change
invariant-loop-change l = l.content.items ≡ content_of l.start (reverse (take l.change-index l.changes))
