-- A text that is written behind a closed gate, which is opened when the text stands.
use Rattle.std.specs.Prelude.{◌≡◌, ◌⊎◌, ℕ, ◌+◌, List, ◌∷◌, ◌++◌, length, take, drop}
use Rattle.gate_journal.specs.declared.parts.TheConstants.{OPEN}
use Rattle.gate_journal.specs.Layout.{IsClosed}

-- the text stands behind this gate, in the place of what was there
abbrev pub StandsBehind : ℕ → ℕ → List ℕ → List ℕ → List ℕ → Type 0
StandsBehind byte gate text old new = new ≡ take gate old ++ byte ∷ text ++ drop (gate + 1 + length text) old

-- on the way there: nothing has changed up to the gate and with it, or the text stands behind some gate
abbrev pub IsOpening : ℕ → List ℕ → List ℕ → List ℕ → Type 0
IsOpening gate text old new = (take (gate + 1) new ≡ take (gate + 1) old) ⊎ ((byte : ℕ) × StandsBehind byte gate text old new)

-- a side begins with this text behind an open gate
abbrev pub BeginsWith : List ℕ → List ℕ → Type 0
BeginsWith text side = (behind : List ℕ) × (side ≡ OPEN ∷ text ++ behind)

-- a side is on its way to begin with this text: it is as it was, or closed, or it begins so
abbrev pub IsBeingMade : List ℕ → List ℕ → List ℕ → Type 0
IsBeingMade text old new = (new ≡ old) ⊎ IsClosed new ⊎ BeginsWith text new
