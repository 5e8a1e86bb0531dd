use Rattle.std.proofs.Common.{◌≡◌, take}
use Rattle.xs_outside.specs.Crash.{images_of}
use Rattle.xs_outside.proofs.memory.crash.images.Given as goal

abbrev pub invariant-loop-side : goal.invariant-loop-side
invariant-loop-side l = l.images ≡ images_of (take l.side-index l.sides) l.others l.output
