-- Changes of an office that may not fit.
use Rattle.std.specs.Prelude.{Result, Ok, Err}
use Rattle.office_types.specs.declared.office.OfficeState.{OfficeState}
use Rattle.office_types.specs.declared.outcome.FaultName.{FaultName}

-- the office after a change, or the name of what stands against it
abbrev pub Fitted : Type 0
Fitted = Result OfficeState FaultName

-- each change needs the one before
infixl 10 ◌>>=◌
abbrev pub ◌>>=◌ : Fitted → (OfficeState → Fitted) → Fitted
Ok state >>= change = change state
Err name >>= change = Err name
