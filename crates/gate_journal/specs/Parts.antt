-- What the parts of a side are, as far as the bytes at hand go.
use Rattle.std.specs.Prelude.{◌≡◌, ◌≢◌, ◌⊎◌, ℕ, ◌<◌, List, [], ◌∷◌, ◌++◌, length, drop, slice_index}
use Rattle.gate_journal.specs.declared.parts.TheConstants.{OPEN, HEAD}
use Rattle.gate_journal.specs.declared.parts.Head.{Head}
use Rattle.gate_journal.specs.declared.parts.Head.TheVariants.{Closed, Short, Open}
use Rattle.gate_journal.specs.declared.parts.Next.{Next}
use Rattle.gate_journal.specs.declared.parts.Next.TheVariants.{Record, End, Bad, More}
use Rattle.gate_journal.specs.Layout.{IsClosed, HasShortHead, HasHead, HasWrongSize, EndsTooSoon, IsRecordSize, record_text}

-- the head of a side that begins so
abbrev pub HeadIs : Head → List ℕ → Type 0
HeadIs Closed front = IsClosed front
HeadIs Short front = HasShortHead front
HeadIs (Open generation size) front = HasHead generation size (drop HEAD front) front

-- what stands at the front of some bytes that may go on
abbrev pub NextIs : Next → List ℕ → Type 0
NextIs (Record size) text = IsRecordSize size × (payload behind : List ℕ) × (length payload ≡ size) × (text ≡ record_text payload ++ behind)
NextIs End text = (0 < length text) × (slice_index text 0 ≢ OPEN)
NextIs Bad text = (behind : List ℕ) × (text ≡ OPEN ∷ behind) × HasWrongSize behind
NextIs More text = (text ≡ []) ⊎ ((behind : List ℕ) × (text ≡ OPEN ∷ behind) × EndsTooSoon behind)
