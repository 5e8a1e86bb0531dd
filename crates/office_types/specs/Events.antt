-- Events: maps with a text `type`. Those whose types begin with `xstate.` the office makes itself.
use Rattle.std.specs.Prelude.{ℕ, Bool, List, [], ◌∷◌, ◌++◌, Option, None, Some, codes, nat_eq}
use Rattle.std.specs.List.{starts_with}
use Rattle.std.specs.Option.{option_and_then}
use Rattle.xs_model.specs.declared.value.Value.{Value, out-Value}
use Rattle.xs_model.specs.declared.value.Value.TheVariants as value
use Rattle.xs_model.specs.declared.value.Value.TheOpen.{Value-F}
use Rattle.xs_model.specs.Rising.{get}
use Rattle.office_types.specs.declared.outcome.FaultName.{FaultName}
use Rattle.office_types.specs.declared.outcome.FaultName.TheVariants as fault

-- what a map has under a key, in one layer of a value
abbrev pub layer_under : List ℕ → Value-F Value → Option Value
layer_under key (Value-F.Map members) = get key members
layer_under key _ = None

-- what a map has under a key
abbrev pub under : List ℕ → Value → Option Value
under key value = layer_under key (out-Value value)

-- the text of a layer that is one
abbrev pub layer_as_text : Value-F Value → Option (List ℕ)
layer_as_text (Value-F.Text text) = Some text
layer_as_text _ = None

-- the type of an event
abbrev pub event_type : Value → Option (List ℕ)
event_type event = option_and_then (λ (type : Value). layer_as_text (out-Value type)) (under (codes "type") event)

-- the type is one of those that the office makes itself
abbrev pub is_reserved : List ℕ → Bool
is_reserved type = starts_with nat_eq type (codes "xstate.")

-- the type of the event that begins an actor
abbrev pub init_type : List ℕ
init_type = codes "xstate.init"

-- the first letter of an actor
abbrev pub init_event : Value → Value
init_event input = value.Map ((codes "input", input) ∷ (codes "type", value.Text init_type) ∷ [])

-- a child is done
abbrev pub done_event : Value → List ℕ → Value
done_event output id = value.Map ((codes "actorId", value.Text id) ∷ (codes "output", output) ∷ (codes "type", value.Text (codes "xstate.done.actor." ++ id)) ∷ [])

-- a child ended in error
abbrev pub error_event : Value → List ℕ → Value
error_event error id = value.Map ((codes "actorId", value.Text id) ∷ (codes "error", error) ∷ (codes "type", value.Text (codes "xstate.error.actor." ++ id)) ∷ [])

-- what an observed child is now
abbrev pub snapshot_event : Value → List ℕ → Value
snapshot_event snapshot id = value.Map ((codes "actorId", value.Text id) ∷ (codes "snapshot", snapshot) ∷ (codes "type", value.Text (codes "xstate.snapshot." ++ id)) ∷ [])

-- a fault as a text
abbrev pub fault_text : FaultName → List ℕ
fault_text fault.Missing = codes "Missing"
fault_text fault.Kind = codes "Kind"
fault_text fault.Range = codes "Range"
fault_text fault.TooLarge = codes "TooLarge"
fault_text fault.Steps = codes "Steps"
fault_text fault.Actions = codes "Actions"
fault_text fault.Reserved = codes "Reserved"
fault_text fault.NoChild = codes "NoChild"
fault_text fault.NameHeld = codes "NameHeld"
fault_text fault.ActorsFull = codes "ActorsFull"
fault_text fault.LettersFull = codes "LettersFull"
fault_text fault.TimersFull = codes "TimersFull"
fault_text fault.TooDeep = codes "TooDeep"

-- the error of an actor that a fault ended
abbrev pub fault_error : FaultName → Value
fault_error name = value.Map ((codes "fault", value.Text (fault_text name)) ∷ [])
