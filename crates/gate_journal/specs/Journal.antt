-- A journal in use, and what its disk holds for it.
use Rattle.std.specs.Prelude.{◌≡◌, ◌⊎◌, ◌↔◌, ℕ, ◌+◌, ◌-◌, ◌^◌, ◌<◌, Bool, true, false, IsTrue, List, [], ◌∷◌, ◌++◌, length, take, Some, None, IsSome, IfSome, IsSomeAnd, Ok, Err, Result}
use Rattle.std.specs.declared.option.Option.{Option}
use Rattle.std.specs.Option.{option_map, option_map_or, option_and_then}
use Rattle.xs_outside.specs.declared.Side.{Side}
use Rattle.xs_outside.specs.declared.Side.TheVariants.{A, B}
use Rattle.xs_outside.specs.Disk.{Sides, DiskState, on, other, IsSettled}
use Rattle.gate_journal.specs.declared.held.Held.{Held}
use Rattle.gate_journal.specs.declared.parts.TheConstants.{HEAD}
use Rattle.xs_outside.specs.declared.streams.Failed.{Failed}
use Rattle.gate_journal.specs.declared.journal.Current.{Current}
use Rattle.gate_journal.specs.declared.journal.Journal.{Journal}
use Rattle.gate_journal.specs.declared.journal.AppendRefused.{AppendRefused}
use Rattle.gate_journal.specs.declared.journal.AppendRefused.TheVariants.{Fault, Memory}
use Rattle.gate_journal.specs.declared.journal.SwitchRefused.{SwitchRefused}
use Rattle.gate_journal.specs.declared.journal.SwitchRefused.TheVariants as refused
use Rattle.gate_journal.specs.Layout.{side_text}
use Rattle.gate_journal.specs.Ready.{IsReady}
use Rattle.gate_journal.specs.Sides.{held_content, SidesHold}

-- ---- what callers see of a journal

-- its disk
abbrev pub disk_of : {D : Type 0} → Journal D → D
disk_of journal = journal.disk

-- a call of it has failed
abbrev pub IsShut : {D : Type 0} → Journal D → Type 0
IsShut journal = IsTrue journal.shut

-- the place of the gate that ends the records, where a side is open
abbrev pub end_of : {D : Type 0} → Journal D → Option ℕ
end_of journal = option_map (λ (current : Current). current.end) journal.current

-- the place of the last record, where the journal knows it
abbrev pub last_of : {D : Type 0} → Journal D → Option ℕ
last_of journal = option_and_then (λ (current : Current). current.last) journal.current

-- the generation of its open side, or 0
abbrev pub generation_of : {D : Type 0} → Journal D → ℕ
generation_of journal = option_map_or (λ (current : Current). current.generation) journal.current 0

-- the side that it makes next
abbrev pub side_after : Option Current → Side
side_after None = A
side_after (Some current) = other current.side

abbrev pub next_side : {D : Type 0} → Journal D → Side
next_side journal = side_after journal.current

-- whether it says that a side is ready
abbrev pub ready_on : {D : Type 0} → Side → Journal D → Bool
ready_on A journal = journal.a_is_ready
ready_on B journal = journal.b_is_ready

-- whether a side that was ready still is, when one is made
abbrev pub flag_after : Side → Side → Bool → Bool
flag_after A A flag = false
flag_after A B flag = flag
flag_after B A flag = flag
flag_after B B flag = false

-- nothing of a journal has changed but its disk
pub record IsAsBefore {D : Type 0} (old new : Journal D) : Type 0 where
  pub current : new.current ≡ old.current
  pub shut : new.shut ≡ old.shut
  pub a_is_ready : new.a_is_ready ≡ old.a_is_ready
  pub b_is_ready : new.b_is_ready ≡ old.b_is_ready

-- nothing of a journal has changed
abbrev pub IsUntouched : {D : Type 0} → Journal D → Journal D → Type 0
IsUntouched old new = (new.disk ≡ old.disk) × IsAsBefore old new

-- ---- what an honest disk holds for it

-- how many bytes come before the gate that ends the records
abbrev pub text_length : Held → ℕ
text_length held = length (side_text (held_content held))

-- what is held with one record more
abbrev pub added : Held → List ℕ → Held
added held payload = record held { records = held.records ++ payload ∷ []; places = held.places ++ text_length held ∷ [] }

-- what is held without the last record
abbrev pub without_last : Held → Held
without_last held = record held { records = take (length held.records - 1) held.records; places = take (length held.places - 1) held.places }

-- what is held after a move to the other side, or to side a from none
abbrev pub switched : Option Held → List ℕ → Held
switched None base = record { side = A; generation = 1; base = base; records = []; places = [] }
switched (Some held) base = record { side = other held.side; generation = held.generation + 1; base = base; records = []; places = [] }

-- the journal knows which side is open, its generation, where the records end and, if it says so, where the last one begins
pub record KnowsEnd (held : Held) (current : Current) : Type 0 where
  pub side : current.side ≡ held.side
  pub generation : current.generation ≡ held.generation
  pub end : current.end ≡ text_length held
  pub last : IfSome current.last (λ place. (0 < length held.records) × (place ≡ text_length (without_last held)))

-- and that no side is open
abbrev pub Knows : Option Held → Option Current → Type 0
Knows None None = Unit {0}
Knows None (Some current) = ⊥
Knows (Some held) None = ⊥
Knows (Some held) (Some current) = KnowsEnd held current

-- The disk of a journal that isn't shut has nothing pending, and its sides hold this, which the journal knows.
pub record Stands {D : Type 0} (held : Option Held) (disk : DiskState) (journal : Journal D) : Type 0 where
  pub open_for_calls : journal.shut ≡ false
  pub settled : IsSettled disk
  pub sides : SidesHold held disk.content
  pub knows : Knows held journal.current
  pub ready_a : IsTrue journal.a_is_ready ↔ IsReady disk.content.a
  pub ready_b : IsTrue journal.b_is_ready ↔ IsReady disk.content.b

-- an image in which the one side is as it was, and both hold one of these
pub record HoldsEither (kept : Side) (sides : Sides) (before after : Option Held) (image : Sides) : Type 0 where
  pub other_side : on kept image ≡ on kept sides
  pub held : SidesHold before image ⊎ SidesHold after image

-- ---- calls

-- records may be appended: the journal isn't shut, and the records of its open side end below this place
abbrev pub CanAppend : {D : Type 0} → Journal D → Type 0
CanAppend journal = (journal.shut ≡ false) × IsSomeAnd (end_of journal) (λ place. place < 2 ^ 62)

-- an append failed
abbrev pub append_failed : Result Unit AppendRefused → Bool
append_failed (Ok _) = false
append_failed (Err Fault) = true
append_failed (Err Memory) = false

-- what an append leaves of the journal
abbrev pub AppendLeaves : {D : Type 0} → Result Unit AppendRefused → ℕ → Journal D → Journal D → Type 0
AppendLeaves (Ok _) size old new = (new.shut ≡ false) × (end_of new ≡ option_map (λ place. place + 5 + size) (end_of old)) × (last_of new ≡ end_of old)
AppendLeaves (Err Fault) size old new = IsShut new
AppendLeaves (Err Memory) size old new = IsUntouched old new

-- the last record may be dropped: the journal isn't shut, and knows its place
abbrev pub CanDrop : {D : Type 0} → Journal D → Type 0
CanDrop journal = (journal.shut ≡ false) × IsSome (last_of journal)

-- what a drop leaves of the journal
abbrev pub DropLeaves : {D : Type 0} → Result Unit Failed → Journal D → Journal D → Type 0
DropLeaves (Ok _) old new = (new.shut ≡ false) × (end_of new ≡ last_of old) × (last_of new ≡ None)
DropLeaves (Err _) old new = IsShut new

-- the office may move to the other side: the journal isn't shut
abbrev pub CanSwitch : {D : Type 0} → Journal D → Type 0
CanSwitch journal = journal.shut ≡ false

-- a move failed
abbrev pub switch_failed : Result ℕ SwitchRefused → Bool
switch_failed (Ok _) = false
switch_failed (Err refused.Fault) = true
switch_failed (Err refused.TooLong) = false
switch_failed (Err refused.Memory) = false

-- what a move leaves of the journal
abbrev pub SwitchLeaves : {D : Type 0} → Result ℕ SwitchRefused → ℕ → Journal D → Journal D → Type 0
SwitchLeaves (Ok generation) size old new =
    (new.shut ≡ false) × (generation ≡ generation_of old + 1) × (generation_of new ≡ generation) × (end_of new ≡ Some (HEAD + size)) × (last_of new ≡ None)
SwitchLeaves (Err refused.Fault) size old new = IsShut new
SwitchLeaves (Err refused.TooLong) size old new = IsUntouched old new
SwitchLeaves (Err refused.Memory) size old new = IsUntouched old new
