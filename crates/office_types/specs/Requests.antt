-- What callers may ask for.
use Rattle.std.specs.Prelude.{◌≢◌, ℕ, ◌<◌, ◌≤◌, ◌^◌, List, codes, All, IsTrue, IsUtf8, is_some, IfSome}
use Rattle.xs_data.specs.Ascii.{space}
use Rattle.office_types.specs.declared.limits.TheConstants.{MAX_MOMENT}
use Rattle.office_types.specs.declared.request.Ask.{Ask}
use Rattle.office_types.specs.declared.request.Ask.TheVariants as ask
use Rattle.office_types.specs.declared.request.Request.{Request}
use Rattle.office_types.specs.Callers.{is_caller}
use Rattle.office_types.specs.Events.{event_type}
use Rattle.office_types.specs.Limits.{is_name, is_short}

-- 1 to 256 bytes of text, no space and no byte below it among them
pub record IsVisibleName (name : List ℕ) : Type 0 where
  pub fits : IsTrue (is_name name)
  pub text : IsUtf8 name
  pub bytes : All (λ byte. space < byte) name

-- a system name; `-` means none
pub record IsSystemName (name : List ℕ) : Type 0 where
  pub visible : IsVisibleName name
  pub no_hyphen : name ≢ codes "-"

-- a number of 64 bits
abbrev pub IsNumber : ℕ → Type 0
IsNumber number = number < 2 ^ 64

-- what a caller may ask for
abbrev pub HasAskForm : Ask → Type 0
HasAskForm (ask.Start machine system input) = IsVisibleName machine × IfSome system IsSystemName × IsTrue (is_short input)
HasAskForm (ask.Send actor event) = IsNumber actor × IsTrue (is_short event) × IsTrue (is_some (event_type event))
HasAskForm (ask.Resolve item output) = IsNumber item × IsTrue (is_short output)
HasAskForm (ask.Reject item error) = IsNumber item × IsTrue (is_short error)
HasAskForm (ask.At moment) = moment ≤ MAX_MOMENT

-- a caller, which numbers its requests from 1, and what it may ask for
pub record HasRequestForm (request : Request) : Type 0 where
  pub caller : IsTrue (is_caller request.caller)
  pub numbered : 0 < request.number
  pub number : IsNumber request.number
  pub ask : HasAskForm request.ask
