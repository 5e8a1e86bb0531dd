-- What reading both sides finds.
use Rattle.std.specs.Prelude.{◌≡◌, ◌↔◌, ℕ, ◌+◌, Bool, true, false, IsTrue, length, Result, Ok, Err, IfSome}
use Rattle.xs_outside.specs.declared.Side.{Side}
use Rattle.xs_outside.specs.declared.Side.TheVariants.{A, B}
use Rattle.xs_outside.specs.Counts.{Rose}
use Rattle.xs_outside.specs.Disk.{Sides}
use Rattle.gate_journal.specs.declared.opening.Found.{Found}
use Rattle.gate_journal.specs.declared.opening.SidesRefused.{SidesRefused}
use Rattle.gate_journal.specs.declared.opening.SidesRefused.TheVariants.{Bad, Fault, Memory}
use Rattle.gate_journal.specs.declared.window.ReadRefused.{ReadRefused}
use Rattle.gate_journal.specs.declared.window.ReadRefused.TheVariants as read
use Rattle.gate_journal.specs.declared.window.Window.{Window}
use Rattle.gate_journal.specs.Layout.{side_text}
use Rattle.gate_journal.specs.Ready.{IsReady}
use Rattle.gate_journal.specs.Sides.{SidesHold, held_content}

-- a read that was refused refuses the sides
abbrev pub refused_sides : ReadRefused → SidesRefused
refused_sides read.Fault = Fault
refused_sides read.Memory = Memory

-- the answer is a fault
abbrev pub sides_failed : {T : Type 0} → Result T SidesRefused → Bool
sides_failed (Ok _) = false
sides_failed (Err Fault) = true
sides_failed (Err Memory) = false
sides_failed (Err (Bad side place)) = false

-- the count of faults rises where the answer is a fault, and only there
abbrev pub CountsSidesFault : {T : Type 0} → Result T SidesRefused → ℕ → ℕ → Type 0
CountsSidesFault (Ok _) before now = now ≡ before
CountsSidesFault (Err Fault) before now = Rose before now
CountsSidesFault (Err Memory) before now = now ≡ before
CountsSidesFault (Err (Bad side place)) before now = now ≡ before

-- where the sides are bad, the side and the place have this
abbrev pub IfSidesBad : {T : Type 0} → Result T SidesRefused → (Side → ℕ → Type 0) → Type 0
IfSidesBad (Ok _) P = Unit {0}
IfSidesBad (Err Fault) P = Unit {0}
IfSidesBad (Err Memory) P = Unit {0}
IfSidesBad (Err (Bad side place)) P = P side place

-- the bytes of both sides
abbrev pub both_lengths : Sides → ℕ
both_lengths sides = length sides.a + length sides.b

-- the window of one side
abbrev pub picked : Side → Window → Window → Window
picked A a b = a
picked B a b = b

-- what was found is what the sides hold
pub record IsFound (found : Found) (sides : Sides) : Type 0 where
  pub hold : SidesHold found.held sides
  pub ends : IfSome found.held (λ held. found.end ≡ length (side_text (held_content held)))
  pub ready_a : IsTrue found.a_is_ready ↔ IsReady sides.a
  pub ready_b : IsTrue found.b_is_ready ↔ IsReady sides.b
