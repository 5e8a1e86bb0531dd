-- What a disk has beside its sides. A station keeps its input and its output there.
use Rattle.std.specs.Prelude.{◌≡◌, ℕ, ◌<◌, ◌≤◌, leb, List, [], ◌++◌, length, take, None, IfSome}
use Rattle.std.specs.declared.option.Option.{Option}
use Rattle.std.specs.List.{All, count_by}
use Rattle.std.specs.Option.{option_map}

-- what is left of an input and was taken of it, the counts of both ends, the output, and the moment of each of its bytes
pub record Beside : Type 0 where
  pub left : Option (List ℕ)
  pub taken : ℕ
  pub read_faults : ℕ
  pub write_faults : ℕ
  pub output : Option (List ℕ)
  pub moments : List ℕ

-- a disk that is no station has nothing beside it
abbrev pub nothing : Beside
nothing = record { left = None; taken = 0; read_faults = 0; write_faults = 0; output = None; moments = [] }

-- the output as it was at a moment
abbrev pub output_at : ℕ → Beside → Option (List ℕ)
output_at moment beside = option_map (λ output. take (count_by (λ m. leb m moment) beside.moments) output) beside.output

-- each byte that came later has a moment after then and up to now
abbrev pub Stamped : ℕ → ℕ → List ℕ → List ℕ → Type 0
Stamped then now before after = (added : List ℕ) × (after ≡ before ++ added) × All (λ m. (then < m) × (m ≤ now)) added

-- each byte that is told has its moment, none of them later than now
pub record HasMoments (now : ℕ) (beside : Beside) : Type 0 where
  pub each : IfSome beside.output (λ output. length output ≡ length beside.moments)
  pub past : All (λ m. m ≤ now) beside.moments
