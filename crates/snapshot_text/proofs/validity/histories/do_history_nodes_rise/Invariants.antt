use Rattle.std.proofs.Common.{ℕ, ◌+◌, ◌<◌, List, get_or}
use Rattle.snapshot_text.proofs.validity.histories.do_history_nodes_rise.Given as goal

abbrev pub invariant-loop-place : goal.invariant-loop-place
invariant-loop-place l = (k : ℕ) (d : ℕ × List ℕ) → k + 1 < l.place → (get_or l.history k d).0 < (get_or l.history (k + 1) d).0
