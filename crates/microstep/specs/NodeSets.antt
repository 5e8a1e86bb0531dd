-- How two sets of nodes in document order are gone through side by side.
use Rattle.std.specs.Prelude.{◌≡◌, ◌≢◌, ◌⊎◌, ◌<◌, ◌≤◌, ◌+◌, ℕ, List, length, slice_index}

-- the least of the nodes that stand at these places and behind them
pub record IsLeast (first : List ℕ) (i : ℕ) (second : List ℕ) (j node : ℕ) : Type 0 where
  pub there : ((i < length first) × (slice_index first i ≡ node)) ⊎ ((j < length second) × (slice_index second j ≡ node))
  pub first_upto : i < length first → node ≤ slice_index first i
  pub second_upto : j < length second → node ≤ slice_index second j

-- the next place where the node stands at the place, else the place
abbrev pub IsPast : List ℕ → ℕ → ℕ → ℕ → Type 0
IsPast nodes place node next =
    ((place < length nodes) × (slice_index nodes place ≡ node) × (next ≡ place + 1))
    ⊎ ((next ≡ place) × (place < length nodes → slice_index nodes place ≢ node))
