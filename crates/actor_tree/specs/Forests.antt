-- What the calls of a forest do.
use Rattle.std.specs.Prelude.{◌≡◌, ℕ, ◌≤◌, List, None, Some, Option, Result, Ok, Err, sum_by}
use Rattle.office_types.specs.declared.office.OfficeState.{OfficeState}
use Rattle.office_types.specs.declared.outcome.Outcome.{Outcome}
use Rattle.office_types.specs.declared.request.Ask.{Ask}
use Rattle.office_types.specs.declared.request.Reply.{Reply}
use Rattle.office_types.specs.Decisions.{after_grant, grant, refusal}
use Rattle.office_types.specs.ValidOffice.{IsValidOffice}
use Rattle.action_table.specs.Definitions.{office_definitions}
use Rattle.actor_tree.specs.declared.asks.AskRefused.{AskRefused}
use Rattle.actor_tree.specs.declared.asks.AskRefused.TheVariants.{Row, Memory}
use Rattle.actor_tree.specs.declared.forest.Change.{Change}
use Rattle.actor_tree.specs.Changes.{stepped}
use Rattle.actor_tree.specs.Following.{actors_made}
use Rattle.actor_tree.specs.ForestOffice.{ForestOffice, held_in}
use Rattle.actor_tree.specs.Parts.{CanPutAll, put}
use Rattle.actor_tree.specs.Rooms.{HasRoomForAll}

-- the office after a change
abbrev pub put_change : OfficeState → Change → OfficeState
put_change office change = put office change.parts

-- the change can be made of the forest as it is: its parts fit the office, which is valid afterwards, and there is room for
-- each of them
pub record FitsForest (forest : ForestOffice) (change : Change) : Type 0 where
  pub parts : CanPutAll forest.office change.parts
  pub room : HasRoomForAll (held_in forest) change.parts
  pub heads_room : sum_by actors_made change.parts ≤ forest.heads
  pub valid : IsValidOffice (office_definitions forest.defs) (put_change forest.office change)

-- definitions and office stay; room may have been made
pub record KeepsForest (old new : ForestOffice) : Type 0 where
  pub defs : new.defs ≡ old.defs
  pub office : new.office ≡ old.office

-- the change is the step of an actor with this outcome, and it fits
pub record IsStepChange (forest : ForestOffice) (actor : ℕ) (outcome : Outcome) (change : Change) : Type 0 where
  pub fits : FitsForest forest change
  pub step : put_change forest.office change ≡ stepped (office_definitions forest.defs) actor outcome forest.office

-- the change is what a granted request makes, and it fits
pub record IsGrantedChange (forest : ForestOffice) (caller : List ℕ) (asked : Ask) (reply : Reply) (change : Change) : Type 0 where
  pub unrefused : refusal (office_definitions forest.defs) forest.office asked ≡ None
  pub reply_is : reply ≡ grant forest.office asked
  pub fits : FitsForest forest change
  pub change_is : put_change forest.office change ≡ after_grant (office_definitions forest.defs) caller asked forest.office

-- the request is granted, or a row refuses it; of want of memory nothing is said
abbrev pub IsPreparedAsk : ForestOffice → List ℕ → Ask → Result (Reply × Change) AskRefused → Type 0
IsPreparedAsk forest caller asked (Ok (reply, change)) = IsGrantedChange forest caller asked reply change
IsPreparedAsk forest caller asked (Err (Row reply)) = refusal (office_definitions forest.defs) forest.office asked ≡ Some reply
IsPreparedAsk forest caller asked (Err Memory) = Unit {0}
