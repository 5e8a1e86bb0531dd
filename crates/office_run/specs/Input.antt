-- What is taken of an input, and how a line is read of it.
use Rattle.std.specs.Prelude.{◌≡◌, ◌⊎◌, ℕ, ◌+◌, ◌-◌, ◌<◌, ◌≤◌, Bool, true, false, List, [], ◌∷◌, ◌++◌, length}
use Rattle.std.specs.declared.option.Option.{Option}
use Rattle.std.specs.Io.KnownBytes.{prepend_known, IsAtEnd}
use Rattle.xs_data.specs.Ascii.{line_feed}
use Rattle.office_run.specs.declared.input.Next.{Next}
use Rattle.office_run.specs.declared.input.Next.TheVariants as next
use Rattle.office_run.specs.declared.input.Fill.{Fill}
use Rattle.office_run.specs.declared.input.Fill.TheVariants as fill
use Rattle.office_run.specs.declared.input.TheConstants.{MAX_INPUT}
use Rattle.office_run.specs.declared.line_buffer.LineBuffer.{LineBuffer}
use Rattle.office_run.specs.LineBuffer.{Holds}
use Rattle.office_run.specs.Lines.{has_feed}

-- how many bytes were used up, those that were taken and wait, and whether the end was seen
pub record Taken : Type 0 where
  pub used : ℕ
  pub pending : List ℕ
  pub ended : Bool

-- an input with its source: what was taken, what the source has left where it tells that, and how many bytes it handed out
pub record Inflow : Type 0 where
  pub input : Taken
  pub left : Option (List ℕ)
  pub taken : ℕ

-- what an input keeps true of its parts
pub record IsHeld (start end room taken : ℕ) : Type 0 where
  pub ordered : start ≤ end
  pub within : end ≤ room
  pub some : 0 < room
  pub counted : end - start ≤ taken
  pub limited : taken ≤ MAX_INPUT

-- how many bytes were taken: used up, or waiting
abbrev pub taken_count : Taken → ℕ
taken_count input = input.used + length input.pending

-- all bytes that are to come, where the source tells them
abbrev pub stream : Inflow → Option (List ℕ)
stream inflow = prepend_known inflow.input.pending inflow.left

-- the source handed out as many bytes as were taken
abbrev pub KeepsCount : Inflow → Inflow → Type 0
KeepsCount old new = new.taken + taken_count old.input ≡ old.taken + taken_count new.input

-- ---- a piece

-- a piece came, the next bytes of the source
pub record TakesPiece (old new : Inflow) : Type 0 where
  pub piece : old.left ≡ prepend_known new.input.pending new.left
  pub some : 0 < length new.input.pending
  pub used : new.input.used ≡ old.input.used
  pub ended : new.input.ended ≡ old.input.ended
  pub limited : taken_count new.input ≤ MAX_INPUT
  pub counted : KeepsCount old new

-- the end of the source was seen
pub record SeesEnd (old new : Inflow) : Type 0 where
  pub left : new.left ≡ old.left
  pub at_end : IsAtEnd old.left
  pub input : new.input ≡ record { used = old.input.used; pending = []; ended = true }
  pub taken : new.taken ≡ old.taken

-- a byte came past the last one that a run takes
pub record SeesMore (old new : Inflow) : Type 0 where
  pub byte : ℕ
  pub left : old.left ≡ prepend_known (byte ∷ []) new.left
  pub full : taken_count old.input ≡ MAX_INPUT
  pub input : new.input ≡ old.input
  pub taken : new.taken ≡ old.taken + 1

-- nothing came
pub record StaysAs (old new : Inflow) : Type 0 where
  pub left : new.left ≡ old.left
  pub input : new.input ≡ old.input
  pub taken : new.taken ≡ old.taken

-- what came of asking the source
abbrev pub Fills : Fill → Inflow → Inflow → Type 0
Fills fill.More old new = TakesPiece old new
Fills fill.End old new = SeesEnd old new
Fills fill.TooMuch old new = SeesMore old new
Fills fill.Failed old new = StaysAs old new

-- ---- a line

-- these bytes went to the line, up to a line feed, which went away; or they are all that waited, and none was a line feed
abbrev pub MovesToLine : Bool → Taken → Taken → List ℕ → Type 0
MovesToLine true old new more =
    (old.pending ≡ more ++ line_feed ∷ new.pending) × (has_feed more ≡ false)
    × (new.used ≡ old.used + (length more + 1)) × (new.ended ≡ old.ended)
MovesToLine false old new more =
    (more ≡ old.pending) × (has_feed old.pending ≡ false)
    × (new ≡ record { used = old.used + length old.pending; pending = []; ended = old.ended })

-- these bytes without a line feed were used up, and nothing waits
pub record UsesUp (old new : Taken) (seen : List ℕ) : Type 0 where
  pub no_feed : has_feed seen ≡ false
  pub used : new.used ≡ old.used + length seen
  pub pending : new.pending ≡ []

-- the line comes next with the line feed that ends it
pub record IsEndedLine (old new : Inflow) (line : List ℕ) : Type 0 where
  pub whole : stream old ≡ prepend_known line (prepend_known (line_feed ∷ []) (stream new))
  pub used : new.input.used ≡ old.input.used + (length line + 1)
  pub ended : new.input.ended ≡ false

-- the line is the rest, which has a byte, and the end was seen behind it
pub record IsLastLine (old new : Inflow) (line : List ℕ) : Type 0 where
  pub whole : stream old ≡ prepend_known line new.left
  pub uses : UsesUp old.input new.input line
  pub at_end : IsAtEnd new.left
  pub some : 0 < length line
  pub ended : new.input.ended ≡ true

-- this line comes next: a line feed ends it, or it is the rest
pub record IsNextLine (old new : Inflow) (line : List ℕ) : Type 0 where
  pub no_feed : has_feed line ≡ false
  pub goes_on : old.input.ended ≡ false
  pub ends : IsEndedLine old new line ⊎ IsLastLine old new line

-- the input is cut off: behind the bytes of no whole line nothing more came
pub record IsCutOff (old new : Inflow) : Type 0 where
  pub seen : List ℕ
  pub uses : UsesUp old.input new.input seen
  pub whole : stream old ≡ prepend_known seen new.left
  pub goes_on : old.input.ended ≡ false

-- the input is too long: all bytes that a run takes are used up, behind the last line feed no whole line came, and there is
-- a byte more
pub record IsTooMuch (old new : Inflow) : Type 0 where
  pub seen : List ℕ
  pub byte : ℕ
  pub uses : UsesUp old.input new.input seen
  pub whole : stream old ≡ prepend_known seen (prepend_known (byte ∷ []) new.left)
  pub goes_on : old.input.ended ≡ false
  pub full : new.input.used ≡ MAX_INPUT

-- what comes next: a line, in the buffer; the end; a byte too many, a failure or want of memory
abbrev pub ComesNext : Next → LineBuffer → Inflow → Inflow → Type 0
ComesNext next.Line buffer old new = (line : List ℕ) × Holds buffer line × IsNextLine old new line
ComesNext next.End buffer old new = IsAtEnd (stream old) ⊎ (old.input.ended ≡ true)
ComesNext next.TooMuch buffer old new = IsTooMuch old new
ComesNext next.Failed buffer old new = IsCutOff old new
ComesNext next.Memory buffer old new = Unit {0}

-- the byte too many was handed out, and is neither used up nor waiting
abbrev pub excess : Next → ℕ
excess next.Line = 0
excess next.End = 0
excess next.TooMuch = 1
excess next.Failed = 0
excess next.Memory = 0

-- what comes next, and that all that was handed out for it is counted and within the limit
pub record GivesNext (next : Next) (buffer : LineBuffer) (old new : Inflow) : Type 0 where
  pub gives : ComesNext next buffer old new
  pub counted : new.taken + taken_count old.input ≡ old.taken + (taken_count new.input + excess next)
  pub limited : taken_count new.input ≤ MAX_INPUT

-- so far these bytes of a line were read, and no line feed
pub record IsReading (first now : Inflow) (buffer : LineBuffer) : Type 0 where
  pub seen : List ℕ
  pub no_feed : has_feed seen ≡ false
  pub holds : Holds buffer seen
  pub whole : stream first ≡ prepend_known seen (stream now)
  pub used : now.input.used ≡ first.input.used + length seen
  pub counted : KeepsCount first now
  pub limited : taken_count now.input ≤ MAX_INPUT
  pub began : first.input.ended ≡ false
  pub ended : now.input.ended ≡ false
