use Rattle.std.proofs.Common.{◌+◌, ◌≡◌, ◌≤◌, decimal, length}
use Rattle.xs_model.proofs.size.decimal_len.Given as goal

abbrev pub invariant-loop-rest : goal.invariant-loop-rest
invariant-loop-rest l = (l.len + length (decimal l.rest) ≡ 1 + length (decimal l.number)) × (1 ≤ length (decimal l.rest))

abbrev pub decreases-loop-rest : goal.decreases-loop-rest
decreases-loop-rest l = l.rest
