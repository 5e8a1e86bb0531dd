-- What holds after a call that didn't fail.
use Rattle.std.proofs.Common.{◌≡◌, ℕ, false}
use Rattle.std.specs.Prelude.{Result, Ok, Err, OnOk, is_err}
use Rattle.xs_outside.specs.declared.Side.{Side}
use Rattle.gate_journal.specs.declared.opening.SidesRefused.{SidesRefused}
use Rattle.gate_journal.specs.declared.opening.SidesRefused.TheVariants as sides
use Rattle.gate_journal.specs.declared.reading.SideRefused.{SideRefused}
use Rattle.gate_journal.specs.declared.reading.SideRefused.TheVariants.{Bad, Fault, Memory}
use Rattle.gate_journal.specs.Found.{IfSidesBad}
use Rattle.gate_journal.specs.Refusals.{IfBad}

pub not_failed : {T E P : Type 0} (result : Result T E) → is_err result ≡ false → OnOk result P → P
not_failed (Ok x) ok holds = holds
not_failed (Err e) ok holds = absurd (cc ok)

-- the place of a bad side has what follows from what it has
pub if_bad_weaker : (T U : Type 0) (P Q : ℕ → Type 0) (refused : SideRefused) → IfBad {T = T} (Err refused) P → ((place : ℕ) → P place → Q place) → IfBad {T = U} (Err refused) Q
if_bad_weaker T U P Q (Bad place) holds more = more place holds
if_bad_weaker T U P Q Fault holds more = tt
if_bad_weaker T U P Q Memory holds more = tt

-- the same of bad sides
pub if_sides_bad_weaker : (T U : Type 0) (P Q : Side → ℕ → Type 0) (refused : SidesRefused) → IfSidesBad {T = T} (Err refused) P → ((side : Side) (place : ℕ) → P side place → Q side place) → IfSidesBad {T = U} (Err refused) Q
if_sides_bad_weaker T U P Q (sides.Bad side place) holds more = more side place holds
if_sides_bad_weaker T U P Q sides.Fault holds more = tt
if_sides_bad_weaker T U P Q sides.Memory holds more = tt
