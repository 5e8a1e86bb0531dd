use Rattle.std.proofs.Common.{ℕ, ◌<◌, get_or}
use Rattle.snapshot_text.specs.Configurations.{FitsAt}
use Rattle.snapshot_text.proofs.validity.configurations.is_legal_from.Given as goal

abbrev pub invariant-loop-place : goal.invariant-loop-place
invariant-loop-place l = (k : ℕ) → k < l.place → FitsAt l.tree l.nodes l.top (get_or l.nodes k 0)
