-- What opening a journal answers.
use Rattle.std.specs.Prelude.{◌≡◌, ℕ, ◌-◌, ◌<◌, Bool, true, false, length, slice_index, Result, Ok, Err, Some, None, IfSome, IsSome}
use Rattle.std.specs.declared.option.Option.{Option}
use Rattle.xs_outside.specs.declared.Side.{Side}
use Rattle.gate_journal.specs.declared.held.Held.{Held}
use Rattle.gate_journal.specs.declared.journal.Current.{Current}
use Rattle.gate_journal.specs.declared.journal.Journal.{Journal}
use Rattle.gate_journal.specs.declared.journal.JournalRefused.{JournalRefused}
use Rattle.gate_journal.specs.declared.journal.JournalRefused.TheVariants.{Bad, Fault, Memory}
use Rattle.gate_journal.specs.Journal.{end_of, last_of}

-- the disk, wherever the answer has it
abbrev pub disk_after : {D : Type 0} → Result (Journal D × Option Held) (JournalRefused D) → D
disk_after (Ok opened) = opened.0.disk
disk_after (Err (Bad side place disk)) = disk
disk_after (Err (Fault disk)) = disk
disk_after (Err (Memory disk)) = disk

-- the answer is a fault
abbrev pub open_failed : {D : Type 0} → Result (Journal D × Option Held) (JournalRefused D) → Bool
open_failed (Ok opened) = false
open_failed (Err (Bad side place disk)) = false
open_failed (Err (Fault disk)) = true
open_failed (Err (Memory disk)) = false

-- where the sides are bad, the side and the place have this
abbrev pub IfBadSides : {D : Type 0} → Result (Journal D × Option Held) (JournalRefused D) → (Side → ℕ → Type 0) → Type 0
IfBadSides (Ok opened) P = Unit {0}
IfBadSides (Err (Bad side place disk)) P = P side place
IfBadSides (Err (Fault disk)) P = Unit {0}
IfBadSides (Err (Memory disk)) P = Unit {0}

-- where the records of what is held end, and where the last of them begins, by its places
pub record Points (held : Held) (end : ℕ) (current : Current) : Type 0 where
  pub side : current.side ≡ held.side
  pub generation : current.generation ≡ held.generation
  pub stop : current.end ≡ end
  pub last : IfSome current.last (λ place. (0 < length held.places) × (place ≡ slice_index held.places (length held.places - 1)))
  pub known : 0 < length held.places → IsSome current.last

abbrev pub PointsTo : Option Held → ℕ → Option Current → Type 0
PointsTo None end None = Unit {0}
PointsTo None end (Some current) = ⊥
PointsTo (Some held) end None = ⊥
PointsTo (Some held) end (Some current) = Points held end current

-- what is handed out has a place for each record, and the journal knows where the records end and where the last of them begins
pub record IsIndexed {D : Type 0} (held : Held) (journal : Journal D) : Type 0 where
  pub places : length held.places ≡ length held.records
  pub end : IsSome (end_of journal)
  pub last : 0 < length held.records → IsSome (last_of journal)
