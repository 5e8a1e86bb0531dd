use Rattle.std.proofs.Common.{ℕ, ◌+◌, ◌<◌, get_or}
use Rattle.office_types_tests.proofs.tests.state_values.is_rising.Given as goal

-- the numbers so far rise
abbrev pub invariant-loop-i : goal.invariant-loop-i
invariant-loop-i l = (k : ℕ) → k + 1 < l.i → get_or l.nodes k 0 < get_or l.nodes (k + 1) 0
