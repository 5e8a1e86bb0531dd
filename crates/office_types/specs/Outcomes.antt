-- Which outcomes a step may have.
use Rattle.std.specs.Prelude.{◌≡◌, ◌≢◌, ℕ, ◌<◌, ◌≤◌, true, false, not, List, [], ◌∷◌, ◌++◌, length, filter, fold, Option, Some, IsTrue, IfSome}
use Rattle.std.specs.List.{list_any}
use Rattle.std.specs.Str.{bytes_eq}
use Rattle.xs_model.specs.declared.value.Value.{Value}
use Rattle.office_types.specs.declared.limits.TheConstants.{MAX_MICROSTEPS, MAX_MOMENT}
use Rattle.office_types.specs.declared.outcome.Effect.{Effect}
use Rattle.office_types.specs.declared.outcome.Effect.TheVariants as effect
use Rattle.office_types.specs.declared.outcome.End.{End}
use Rattle.office_types.specs.declared.outcome.End.TheVariants as end
use Rattle.office_types.specs.declared.outcome.Outcome.{Outcome}
use Rattle.office_types.specs.declared.outcome.Own.{Own}
use Rattle.office_types.specs.Definitions.{OfficeDefinitions, nodes_of}
use Rattle.office_types.specs.Events.{event_type, init_type, is_reserved}
use Rattle.office_types.specs.Limits.{is_event, is_name, is_short}
use Rattle.office_types.specs.OwnParts.{HasBegun}

-- ---- effects

-- an event of the machine's own making: its type doesn't begin with `xstate.`
pub record IsSent (event : Value) : Type 0 where
  pub well_formed : IsTrue (is_event event)
  pub unreserved : (type : List ℕ) → event_type event ≡ Some type → is_reserved type ≡ false

-- the event of a timer, an `after` among them: it begins no actor
pub record IsTimed (event : Value) : Type 0 where
  pub well_formed : IsTrue (is_event event)
  pub no_init : event_type event ≢ Some init_type

-- a child that no other child has the id of, of a row of the table of actors
pub record IsSpawn (definitions : OfficeDefinitions) (ids : List (List ℕ)) (id : List ℕ) (src : ℕ) (input : Value) (system : Option (List ℕ)) : Type 0 where
  pub name : IsTrue (is_name id)
  pub free : list_any (bytes_eq id) ids ≡ false
  pub row : src < length definitions.actors
  pub short : IsTrue (is_short input)
  pub system_name : IfSome system (λ name. IsTrue (is_name name))

-- an effect of a step of an actor whose children have these ids; what is cancelled may have any id, since
-- a node that is left cancels what its delays may have scheduled, whether anything stands or not
abbrev pub IsAllowedEffect : OfficeDefinitions → List (List ℕ) → Effect → Type 0
IsAllowedEffect definitions ids (effect.Send to event) = IsSent event
IsAllowedEffect definitions ids (effect.Schedule id delay to event) = IfSome id (λ id. IsTrue (is_name id)) × (delay ≤ MAX_MOMENT) × IsTimed event
IsAllowedEffect definitions ids (effect.Cancel id) = Unit {0}
IsAllowedEffect definitions ids (effect.Spawn id src input system) = IsSpawn definitions ids id src input system
IsAllowedEffect definitions ids (effect.Stop id) = list_any (bytes_eq id) ids ≡ true

-- the ids of the children after an effect
abbrev pub children_after : List (List ℕ) → Effect → List (List ℕ)
children_after ids (effect.Spawn id src input system) = ids ++ id ∷ []
children_after ids (effect.Stop id) = filter (λ (other : List ℕ). not (bytes_eq other id)) ids
children_after ids _ = ids

-- effects one after the other, of an actor whose children have these ids at first
abbrev pub AreAllowedEffects : OfficeDefinitions → List (List ℕ) → List Effect → Type 0
AreAllowedEffects definitions ids [] = Unit {0}
AreAllowedEffects definitions ids (first ∷ others) = IsAllowedEffect definitions ids first × AreAllowedEffects definitions (children_after ids first) others

-- ---- outcomes

-- the step went through: the own part has begun, and its children are those that the effects leave
pub record IsThrough (definitions : OfficeDefinitions) (own : Own) (outcome : Outcome) : Type 0 where
  pub machine : outcome.own.def ≡ own.def
  pub begun : HasBegun (nodes_of definitions own.def) outcome.own
  pub effects : AreAllowedEffects definitions own.children outcome.effects
  pub children : outcome.own.children ≡ fold children_after own.children outcome.effects
  pub unnamed : own.unnamed ≤ outcome.own.unnamed
  pub micros : length outcome.micros ≤ MAX_MICROSTEPS

-- the step ended in error: the own part is as it was, and there are no effects and no microsteps
pub record IsUndone (own : Own) (outcome : Outcome) : Type 0 where
  pub own_part : outcome.own ≡ own
  pub effects : outcome.effects ≡ []
  pub micros : outcome.micros ≡ []

-- what the rules allow, by how the step left its actor
abbrev pub IsAllowedBy : OfficeDefinitions → Own → Outcome → End → Type 0
IsAllowedBy definitions own outcome end.Active = IsThrough definitions own outcome
IsAllowedBy definitions own outcome (end.Done output) = IsThrough definitions own outcome × IsTrue (is_short output)
IsAllowedBy definitions own outcome (end.Error error) = IsUndone own outcome × IsTrue (is_short error)

-- an outcome that the rules allow of a step of an actor with this own part
abbrev pub IsAllowedOutcome : OfficeDefinitions → Own → Outcome → Type 0
IsAllowedOutcome definitions own outcome = IsAllowedBy definitions own outcome outcome.end
