-- The bytes of one side, as a grammar: what an open side looks like, and what is the first fault of one.
use Rattle.std.specs.Prelude.{◌≡◌, ◌≢◌, ◌⊎◌, ℕ, ◌+◌, ◌^◌, ◌<◌, ◌≤◌, List, [], ◌∷◌, ◌++◌, length, All, slice_index}
use Rattle.std.specs.List.{flat_map}
use Rattle.std.specs.Int.{w32, w64, to_be_bytes}
use Rattle.gate_journal.specs.declared.parts.TheConstants.{OPEN, HEAD, MAX_BASE, MAX_RECORD}

-- what an open side holds: its generation, its base, and the records since
pub record Content : Type 0 where
  pub generation : ℕ
  pub base : List ℕ
  pub records : List (List ℕ)

-- ---- the printer

-- a number in 4 bytes, and one in 8, big end first
unfoldable pub length_bytes : ℕ → List ℕ
length_bytes n = to_be_bytes w32 n

unfoldable pub eight_bytes : ℕ → List ℕ
eight_bytes n = to_be_bytes w64 n

-- a record: an open gate, the length, the payload
unfoldable pub record_text : List ℕ → List ℕ
record_text payload = OPEN ∷ length_bytes (length payload) ++ payload

-- what comes before the base: an open gate, the generation, the length of the base
unfoldable pub head_text : ℕ → ℕ → List ℕ
head_text generation size = OPEN ∷ eight_bytes generation ++ length_bytes size

-- a side up to the gate that ends its records
unfoldable pub side_text : Content → List ℕ
side_text content =
    head_text content.generation (length content.base) ++ content.base ++ flat_map record_text content.records

-- the places of the gates of records of which the first stands here
abbrev pub places_from : ℕ → List (List ℕ) → List ℕ
places_from place [] = []
places_from place (payload ∷ records) = place ∷ places_from (place + length (record_text payload)) records

-- ---- what a side holds

-- how long a record may be
abbrev pub IsRecordSize : ℕ → Type 0
IsRecordSize size = (1 ≤ size) × (size ≤ MAX_RECORD)

-- the generation fits 8 bytes, and base and records have lengths that they may have
pub record IsSound (content : Content) : Type 0 where
  pub generation : content.generation < 2 ^ 64
  pub base : length content.base ≤ MAX_BASE
  pub records : All (λ payload. IsRecordSize (length payload)) content.records

-- open: at least 2 bytes, the first of them an open gate
abbrev pub IsOpen : List ℕ → Type 0
IsOpen side = (2 ≤ length side) × (slice_index side 0 ≡ OPEN)

-- closed: any other
abbrev pub IsClosed : List ℕ → Type 0
IsClosed side = 2 ≤ length side → slice_index side 0 ≢ OPEN

-- a side holds this: its bytes are the print, a gate that isn't open, and whatever follows
pub record HoldsContent (content : Content) (side : List ℕ) : Type 0 where
  pub gate : ℕ
  pub behind : List ℕ
  pub text : side ≡ side_text content ++ gate ∷ behind
  pub closed : gate ≢ OPEN
  pub sound : IsSound content

-- ---- the first fault of a side

-- an open side with a whole head: its generation, the length that it gives for its base, and what follows
pub record HasHead (generation size : ℕ) (behind side : List ℕ) : Type 0 where
  pub text : side ≡ head_text generation size ++ behind
  pub generation_fits : generation < 2 ^ 64
  pub size_fits : size < 2 ^ 32

-- behind an open gate stands a length that no record has
abbrev pub HasWrongSize : List ℕ → Type 0
HasWrongSize behind = (size : ℕ) × (more : List ℕ) × (size < 2 ^ 32) × (behind ≡ length_bytes size ++ more) × ((size ≡ 0) ⊎ (MAX_RECORD < size))

-- behind an open gate the side ends inside the length, or inside the payload
abbrev pub EndsTooSoon : List ℕ → Type 0
EndsTooSoon behind = (length behind < 4) ⊎ ((size : ℕ) × (more : List ℕ) × (size < 2 ^ 32) × (behind ≡ length_bytes size ++ more) × (length more < size))

-- an open side that ends inside its head
abbrev pub HasShortHead : List ℕ → Type 0
HasShortHead side = IsOpen side × (length side < HEAD)

-- the base is too long, or runs past the end
abbrev pub HasBadBase : List ℕ → Type 0
HasBadBase side = (generation size : ℕ) × (behind : List ℕ) × HasHead generation size behind side × ((MAX_BASE < size) ⊎ (length behind < size))

-- the side ends where a gate should stand
abbrev pub HasNoGate : List ℕ → Type 0
HasNoGate side = (content : Content) × IsSound content × (side ≡ side_text content)

-- behind these records an open gate stands, and no record
abbrev pub HasBadRecord : List ℕ → ℕ → Type 0
HasBadRecord side place = (content : Content) × (behind : List ℕ) × IsSound content × (side ≡ side_text content ++ OPEN ∷ behind) × (HasWrongSize behind ⊎ EndsTooSoon behind) × (place ≡ length (side_text content))

-- the place of a side's first fault, in the order in which its bytes are looked at
abbrev pub IsBadAt : List ℕ → ℕ → Type 0
IsBadAt side place = (HasShortHead side × (place ≡ 1)) ⊎ (HasBadBase side × (place ≡ 9)) ⊎ (HasNoGate side × (place ≡ length side)) ⊎ HasBadRecord side place
