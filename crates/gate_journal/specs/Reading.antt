-- How a side is read, piece after piece.
use Rattle.std.specs.Prelude.{◌≡◌, ◌≢◌, ◌⊎◌, ℕ, ◌+◌, ◌-◌, ◌≤◌, List, [], ◌∷◌, ◌++◌, length, take, drop, All, Result, Ok, Err}
use Rattle.std.specs.List.{flat_map}
use Rattle.xs_outside.specs.Counts.{Rose}
use Rattle.xs_outside.specs.Disk.{DiskState}
use Rattle.gate_journal.specs.Reads.{OnlyReads}
use Rattle.gate_journal.specs.declared.parts.TheConstants.{OPEN}
use Rattle.gate_journal.specs.declared.window.Window.{Window}
use Rattle.gate_journal.specs.declared.window.ReadRefused.{ReadRefused}
use Rattle.gate_journal.specs.declared.window.ReadRefused.TheVariants.{Fault, Memory}
use Rattle.gate_journal.specs.declared.scan.Stop.{Stop}
use Rattle.gate_journal.specs.declared.scan.Stop.TheVariants as stop
use Rattle.gate_journal.specs.Layout.{IsRecordSize, HasWrongSize, EndsTooSoon, record_text, places_from}

-- the count of faults rises where the answer is a fault, and only there
abbrev pub CountsReadFault : {T : Type 0} → Result T ReadRefused → ℕ → ℕ → Type 0
CountsReadFault (Ok _) before now = now ≡ before
CountsReadFault (Err Fault) before now = Rose before now
CountsReadFault (Err Memory) before now = now ≡ before

-- ---- the window

-- how many bytes of the side come behind the window
abbrev pub left_behind : Window → ℕ
left_behind window = window.length - (window.place + length window.bytes.items)

-- the window shows bytes of this text, from its place on
pub record Shows (text : List ℕ) (window : Window) : Type 0 where
  pub whole : window.length ≡ length text
  pub bytes : window.bytes.items ≡ take (length window.bytes.items) (drop window.place text)

-- what a run that reads a side leaves of its window
pub record ReadsOn (old new : DiskState) (before after : Window) : Type 0 where
  pub reads : OnlyReads old new
  pub fetched : new.fetched + left_behind after ≤ old.fetched + left_behind before
  pub side : after.side ≡ before.side
  pub length : after.length ≡ before.length

-- ---- records

-- why the records at hand end
abbrev pub StopsAt : Stop → List ℕ → Type 0
StopsAt stop.End text = (gate : ℕ) × (behind : List ℕ) × (text ≡ gate ∷ behind) × (gate ≢ OPEN)
StopsAt stop.Bad text = (behind : List ℕ) × (text ≡ OPEN ∷ behind) × HasWrongSize behind
StopsAt stop.More text = (text ≡ []) ⊎ ((behind : List ℕ) × (text ≡ OPEN ∷ behind) × EndsTooSoon behind)

-- these records stand in these bytes, the first of them at this place, and were put behind those that there were
pub record Adds (place : ℕ) (text : List ℕ) (added records after : List (List ℕ)) (places places_after : List ℕ) : Type 0 where
  pub taken : text ≡ flat_map record_text added
  pub sound : All (λ payload. IsRecordSize (length payload)) added
  pub behind : after ≡ records ++ added
  pub their_places : places_after ≡ places ++ places_from place added

-- these records of a text stand between two places, and were put behind those that there were
abbrev pub AddsBetween : List ℕ → ℕ → ℕ → List (List ℕ) → List (List ℕ) → List ℕ → List ℕ → Type 0
AddsBetween text from to records after places places_after =
    (added : List (List ℕ)) × Adds from (take (to - from) (drop from text)) added records after places places_after × (from ≤ to) × (to ≤ length text)

-- what stands at a place where the records of a text end, or where one is bad
abbrev pub EndsAt : List ℕ → ℕ → Type 0
EndsAt text place = (gate : ℕ) × (behind : List ℕ) × (drop place text ≡ gate ∷ behind) × (gate ≢ OPEN)

abbrev pub BreaksAt : List ℕ → ℕ → Type 0
BreaksAt text place = (drop place text ≡ []) ⊎ ((behind : List ℕ) × (drop place text ≡ OPEN ∷ behind) × (HasWrongSize behind ⊎ EndsTooSoon behind))
