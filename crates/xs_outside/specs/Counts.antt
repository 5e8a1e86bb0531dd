-- Counts that are kept in 64 bits, those of faults among them.
use Rattle.std.specs.Prelude.{◌≡◌, ℕ, ◌+◌, ◌-◌, ◌^◌, ◌≤◌, min, Result, MatchResult}

-- the next number that 64 bits hold
abbrev pub saturating_next : ℕ → ℕ
saturating_next n = min (n + 1) (2 ^ 64 - 1)

-- a count went up; one that stands at its greatest number counts as risen
abbrev pub Rose : ℕ → ℕ → Type 0
Rose before now = saturating_next before ≤ now

-- a count of faults rose where the call failed, and stayed where it didn't
abbrev pub CountsFailure : {T E : Type 0} → Result T E → ℕ → ℕ → Type 0
CountsFailure result before now = MatchResult result (λ _. now ≡ before) (λ _. Rose before now)
