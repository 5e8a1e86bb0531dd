-- What the preparation of a request gives.
use Rattle.std.specs.Prelude.{◌≡◌, ℕ, List, None, Some, Option, Result, Ok, Err, if◌then◌else◌}
use Rattle.office_types.specs.declared.office.OfficeState.{OfficeState}
use Rattle.office_types.specs.declared.office.Origin.TheVariants as origin
use Rattle.office_types.specs.declared.office.Timer.{Timer}
use Rattle.office_types.specs.declared.request.Ask.{Ask}
use Rattle.office_types.specs.declared.request.Reply.{Reply}
use Rattle.office_types.specs.Decisions.{after_grant, grant, refusal}
use Rattle.office_types.specs.Definitions.{OfficeDefinitions}
use Rattle.office_types.specs.Records.{is_active_machine}
use Rattle.actor_tree.specs.declared.asks.AskRefused.{AskRefused}
use Rattle.actor_tree.specs.declared.asks.AskRefused.TheVariants.{Row, Memory}
use Rattle.actor_tree.specs.declared.part.Part.{Part}
use Rattle.actor_tree.specs.declared.part.Part.TheVariants as part
use Rattle.actor_tree.specs.Parts.{CanPutAll, put}

-- a caller asks something of an office
pub record Asking : Type 0 where
  pub definitions : OfficeDefinitions
  pub office : OfficeState
  pub caller : List ℕ
  pub ask : Ask

-- no row refuses the request; the reply grants it, and the parts fit the office and make its change
pub record IsGranted (asking : Asking) (reply : Reply) (parts : List Part) : Type 0 where
  pub unrefused : refusal asking.definitions asking.office asking.ask ≡ None
  pub reply_is : reply ≡ grant asking.office asking.ask
  pub change : put asking.office parts ≡ after_grant asking.definitions asking.caller asking.ask asking.office
  pub fits : CanPutAll asking.office parts

-- the request is granted, or a row refuses it with this reply; want of memory is free
abbrev pub IsAskAnswer : Asking → Result (Reply × List Part) AskRefused → Type 0
IsAskAnswer asking (Ok (reply, parts)) = IsGranted asking reply parts
IsAskAnswer asking (Err (Row reply)) = refusal asking.definitions asking.office asking.ask ≡ Some reply
IsAskAnswer asking (Err Memory) = Unit {0}

-- the letter that a timer becomes, if its target is an active machine actor
abbrev pub delivery : OfficeState → Timer → Option Part
delivery state timer = if is_active_machine state timer.target then Some (part.Mail (origin.Actor timer.owner) timer.target timer.event) else None
