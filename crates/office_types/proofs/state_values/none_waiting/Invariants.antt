use Rattle.std.proofs.Common.{ℕ, ◌≡◌, ◌<◌, [], length, slice_index_or}
use Rattle.office_types.proofs.state_values.none_waiting.Given as goal

abbrev pub invariant-loop : goal.invariant-loop
invariant-loop l = record {
  len : length l.waiting.items ≡ l.counter;
  empty : (n : ℕ) → n < l.counter → slice_index_or l.waiting.items n [] ≡ [];
}
