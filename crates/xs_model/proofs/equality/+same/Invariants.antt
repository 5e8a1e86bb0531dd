use Rattle.std.proofs.Common.{◌≡◌, length, map, drop}
use Rattle.xs_model.specs.Equality.{pass_in_turn, same}
use Rattle.xs_model.proofs.SameLemmas.{member_same}
use Rattle.xs_model.proofs.equality.+same.Given as goal

abbrev pub invariant-loop-place : goal.invariant-loop-place
invariant-loop-place l = (same l.a l.b ≡ pass_in_turn (map same (drop l.place l.x-items)) (drop l.place l.ys)) × (length l.x-items ≡ length l.ys)

abbrev pub invariant-loop-place-2 : goal.invariant-loop-place-2
invariant-loop-place-2 l = (same l.a l.b ≡ pass_in_turn (map member_same (drop l.place l.key-items)) (drop l.place l.ys)) × (length l.key-items ≡ length l.ys)
