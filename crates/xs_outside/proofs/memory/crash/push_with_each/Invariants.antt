use Rattle.std.proofs.Common.{◌≡◌, ◌++◌, map, take}
use Rattle.xs_outside.proofs.memory.crash.push_with_each.Given as goal

abbrev pub invariant-loop-other : goal.invariant-loop-other
invariant-loop-other l = l.images ≡ l.initial.images ++ map (λ b. record { a = l.side; b = b; output = l.output }) (take l.other-index l.others)
