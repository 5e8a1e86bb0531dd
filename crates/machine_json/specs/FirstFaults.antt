-- Which of several faults is answered.
use Rattle.std.specs.Prelude.{◌≡◌, ℕ, ◌≤◌}

-- of the faults that there are, none stands at a lesser place, and none at its place has a lesser number
pub record IsFirst {F : Type 0} (place_in_text number : F → ℕ) (IsThere : F → Type 0) (fault : F) : Type 0 where
  pub there : IsThere fault
  pub no_earlier : (other : F) → IsThere other → place_in_text fault ≤ place_in_text other
  pub least_number : (other : F) → IsThere other → place_in_text other ≡ place_in_text fault → number fault ≤ number other

-- the least of the places
pub record IsLeastPlace (IsThere : ℕ → Type 0) (place : ℕ) : Type 0 where
  pub there : IsThere place
  pub no_earlier : (other : ℕ) → IsThere other → place ≤ other
