-- What calls of a file that is opened when it is needed find and do, at any file system.
use Rattle.std.specs.Prelude.{◌≡◌, ℕ, List, Result, Ok, Err, None, Some, IfSome}
use Rattle.std.specs.declared.option.Option.{Option}
use Rattle.std.specs.declared.io.Error.{Error}
use Rattle.std.specs.declared.io.ErrorKind.TheVariants.{NotFound}
use Rattle.std.specs.IoError.{error_kind}
use Rattle.xoffice.specs.Calls.{Calls}
use Rattle.xoffice.specs.declared.file_system.Access.TheVariants.{Update}

-- the file that was open, or else the one that was opened now
abbrev pub Finds : {F : Type 0} → (Result F Error → Type 0) → Option F → F → Type 0
Finds opens (Some open_file) file = file ≡ open_file
Finds opens None file = opens (Ok file)

-- P holds of the file that was open, or else of the one that was opened now
abbrev pub IfFound : {F : Type 0} → (Result F Error → Type 0) → (F → Type 0) → Option F → Type 0
IfFound {F} opens P old = (found : F) × Finds opens old found × P found

-- the system said that there is no file at the path
abbrev pub IsMissing : {F : Type 0} → Calls F → List ℕ → Type 0
IsMissing calls path = (error : Error) × calls.opens Update path (Err error) × (error_kind error ≡ NotFound)

-- the file was moved to a place, and `step` leads from there to what it is now
pub record GoesOnAt {F : Type 0} (position : F → Option ℕ) (at : ℕ) (step : F → F → Type 0) (old new : F) : Type 0 where
  pub moved : F
  pub place : IfSome (position old) (λ _. position moved ≡ Some at)
  pub goes_on : step moved new
