-- Observed children, and the letters that tell their parents what they are.
use Rattle.std.specs.Prelude.{ℕ, Bool, false, List, [], ◌∷◌, Option, codes, Ok, if◌then◌else◌}
use Rattle.std.specs.List.{list_any}
use Rattle.std.specs.Option.{option_map_or, option_and_then}
use Rattle.std.specs.Str.{bytes_eq}
use Rattle.xs_model.specs.declared.value.Value.{Value}
use Rattle.xs_model.specs.declared.value.Value.TheVariants as value
use Rattle.office_types.specs.declared.office.ActorRecord.{ActorRecord}
use Rattle.office_types.specs.declared.office.OfficeState.{OfficeState}
use Rattle.office_types.specs.declared.outcome.Own.{Own}
use Rattle.office_types.specs.Definitions.{OfficeDefinitions, nodes_of, observed_at}
use Rattle.office_types.specs.Ends.{after_telling_parent, child_id}
use Rattle.office_types.specs.Events.{snapshot_event}
use Rattle.office_types.specs.Fitting.{Fitted}
use Rattle.office_types.specs.Limits.{is_short}
use Rattle.office_types.specs.Records.{actor_record, parent_actor}
use Rattle.office_types.specs.StateValue.{state_value}

-- the own part of a machine actor
abbrev pub own_of : OfficeState → ℕ → Option Own
own_of state number = option_and_then (λ (actor : ActorRecord). actor.own) (actor_record state number)

-- an active node has an invocation with `onSnapshot` of this id
abbrev pub observes : OfficeDefinitions → Own → List ℕ → Bool
observes definitions own id = list_any (λ (node : ℕ). list_any (bytes_eq id) (observed_at definitions own.def node)) own.nodes

-- an actor is observed: an active node of its parent has an invocation with `onSnapshot` whose id is the actor's child id
abbrev pub is_observed : OfficeDefinitions → OfficeState → ℕ → Bool
is_observed definitions state number =
    option_map_or (λ (parent : ℕ). option_map_or (λ (own : Own). observes definitions own (child_id state parent number)) (own_of state parent) false)
    (parent_actor state number) false

-- the context and the state value of an own part
abbrev pub snapshot_of : OfficeDefinitions → Own → Value
snapshot_of definitions own =
    value.Map ((codes "context", own.context) ∷ (codes "value", state_value (nodes_of definitions own.def) own.nodes) ∷ [])

-- the event with the snapshot, which is null where the event would be too long or nest too deep
abbrev pub short_snapshot_event : Value → List ℕ → Value
short_snapshot_event snapshot id = if is_short (snapshot_event snapshot id) then snapshot_event snapshot id else snapshot_event value.Null id

-- the parent of an observed actor is told what the actor is now
abbrev pub after_observation : OfficeDefinitions → ℕ → Own → OfficeState → Fitted
after_observation definitions number own state =
    if is_observed definitions state number then after_telling_parent state number (short_snapshot_event (snapshot_of definitions own)) else Ok state
