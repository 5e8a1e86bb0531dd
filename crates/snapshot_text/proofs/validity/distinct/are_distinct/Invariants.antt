use Rattle.std.proofs.Common.{ℕ, ◌+◌, ◌<◌, ◌≢◌, get_or}
use Rattle.std.specs.declared.cmp.Ordering.TheVariants.{Equal}
use Rattle.snapshot_text.proofs.validity.distinct.are_distinct.Given as goal

abbrev pub invariant-loop-place : goal.invariant-loop-place
invariant-loop-place g l = (k : ℕ) (d : g.row.K.Denot) → k + 1 < l.place → g.K.Ord.cmp (get_or l.keys.items k d) (get_or l.keys.items (k + 1) d) ≢ Equal
