use Rattle.std.proofs.Common.{◌≡◌, ◌↔◌, ℕ, List, drop, map}
use Rattle.snapshot_text.proofs.validity.kinds.have_ids.Given as goal

-- what is left of both is the same exactly where both are
abbrev pub invariant-loop-id : goal.invariant-loop-id
invariant-loop-id l = (map (λ (kid : List ℕ × ℕ). kid.0) l.kids ≡ l.ids) ↔ (map (λ (kid : List ℕ × ℕ). kid.0) (drop l.id-index l.kids) ≡ l.rest)
