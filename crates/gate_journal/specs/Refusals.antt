-- Why a side wasn't read to its end.
use Rattle.std.specs.Prelude.{◌≡◌, ℕ, Bool, true, false, Result, Ok, Err}
use Rattle.xs_outside.specs.Counts.{Rose}
use Rattle.gate_journal.specs.declared.window.ReadRefused.{ReadRefused}
use Rattle.gate_journal.specs.declared.window.ReadRefused.TheVariants as read
use Rattle.gate_journal.specs.declared.reading.SideRefused.{SideRefused}
use Rattle.gate_journal.specs.declared.reading.SideRefused.TheVariants.{Bad, Fault, Memory}

-- a read that was refused refuses the side
abbrev pub refused_side : ReadRefused → SideRefused
refused_side read.Fault = Fault
refused_side read.Memory = Memory

-- the answer is a fault
abbrev pub is_fault : {T : Type 0} → Result T SideRefused → Bool
is_fault (Ok _) = false
is_fault (Err Fault) = true
is_fault (Err Memory) = false
is_fault (Err (Bad place)) = false

-- the count of faults rises where the answer is a fault, and only there
abbrev pub CountsFault : {T : Type 0} → Result T SideRefused → ℕ → ℕ → Type 0
CountsFault (Ok _) before now = now ≡ before
CountsFault (Err Fault) before now = Rose before now
CountsFault (Err Memory) before now = now ≡ before
CountsFault (Err (Bad place)) before now = now ≡ before

-- where the side is bad, its place has this
abbrev pub IfBad : {T : Type 0} → Result T SideRefused → (ℕ → Type 0) → Type 0
IfBad (Ok _) P = Unit {0}
IfBad (Err Fault) P = Unit {0}
IfBad (Err Memory) P = Unit {0}
IfBad (Err (Bad place)) P = P place
