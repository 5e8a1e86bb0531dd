-- What an effect of a step changes, in the state in which it is applied.
use Rattle.std.specs.Prelude.{ℕ, suc, zero, ◌+◌, ◌-◌, Bool, true, false, not, ◌&&◌, List, [], ◌∷◌, ◌++◌, length, Option, None, Some, is_some, filter, Ok, Err, nat_lt, nat_le, slice_get, if◌then◌else◌}
use Rattle.std.specs.Map.{lookup}
use Rattle.std.specs.Option.{option_map_or, option_and_then}
use Rattle.std.specs.Str.{bytes_eq}
use Rattle.xs_model.specs.declared.value.Value.{Value}
use Rattle.xs_model.specs.declared.value.Value.TheVariants.{Null}
use Rattle.office_types.specs.declared.limits.TheConstants.{MAX_ACTIVE_ACTORS, MAX_NEXT_NUMBER, MAX_TIMERS, MAX_TREE_LEVELS}
use Rattle.office_types.specs.declared.office.ActorRecord.{ActorRecord}
use Rattle.office_types.specs.declared.office.Item.{Item}
use Rattle.office_types.specs.declared.office.OfficeState.{OfficeState}
use Rattle.office_types.specs.declared.office.Origin.{Origin}
use Rattle.office_types.specs.declared.office.Origin.TheVariants as origin
use Rattle.office_types.specs.declared.office.Status.TheVariants as status
use Rattle.office_types.specs.declared.office.Timer.{Timer}
use Rattle.office_types.specs.declared.outcome.Effect.{Effect}
use Rattle.office_types.specs.declared.outcome.Effect.TheVariants as effect
use Rattle.office_types.specs.declared.outcome.FaultName.TheVariants.{NameHeld, ActorsFull, LettersFull, TimersFull, TooDeep}
use Rattle.office_types.specs.declared.outcome.Own.{Own}
use Rattle.office_types.specs.declared.outcome.To.{To}
use Rattle.office_types.specs.Definitions.{OfficeDefinitions, ActorLogic}
use Rattle.office_types.specs.Ends.{removed}
use Rattle.office_types.specs.Events.{init_event}
use Rattle.office_types.specs.Fitting.{Fitted, ◌>>=◌}
use Rattle.office_types.specs.Mailboxes.{has_letter_room, with_letter, with_letter_if_room}
use Rattle.office_types.specs.Receivers.{receiver_of}
use Rattle.office_types.specs.Records.{active_actors, parent_actor, actor_record, with_actor}
use Rattle.office_types.specs.SystemNames.{with_holder, holder_of}
use Rattle.office_types.specs.Timers.{without_id, with_scheduled}

-- ---- send, schedule, cancel

-- a letter to where the send goes; a dead letter changes nothing
abbrev pub after_send : ℕ → To → Value → OfficeState → Fitted
after_send number target event state =
    option_map_or (λ (receiver : ℕ). with_letter_if_room state (origin.Actor number) receiver event) (receiver_of state number target) (Ok state)

-- the office with a new timer
abbrev pub with_timer : OfficeState → Timer → OfficeState
with_timer state timer = record state { timers = with_scheduled state.timers timer; next_timer = state.next_timer + 1 }

-- a new timer has the next number, and finds room beside those that it doesn't replace
abbrev pub has_timer_room : OfficeState → Timer → Bool
has_timer_room state timer = nat_le (length (with_scheduled state.timers timer)) MAX_TIMERS && nat_lt state.next_timer MAX_NEXT_NUMBER

-- a new timer stands, if it finds room and a number
abbrev pub with_timer_if_room : OfficeState → Timer → Fitted
with_timer_if_room state timer = if has_timer_room state timer then Ok (with_timer state timer) else Err TimersFull

-- the timer that a schedule makes now: due after the delay, with the target of now
abbrev pub timer_now : OfficeState → ℕ → Option (List ℕ) → ℕ → Value → ℕ → Timer
timer_now state number id delay event receiver =
    record { order = state.next_timer; owner = number; target = receiver; due = state.moment + delay; id = id; event = event }

-- a timer where the send goes; a dead target makes none, and replaces none
abbrev pub after_schedule : ℕ → Option (List ℕ) → ℕ → To → Value → OfficeState → Fitted
after_schedule number id delay target event state =
    option_map_or (λ (receiver : ℕ). with_timer_if_room state (timer_now state number id delay event receiver)) (receiver_of state number target) (Ok state)

-- an actor's timer of this id is dropped
abbrev pub after_cancel : ℕ → List ℕ → OfficeState → OfficeState
after_cancel number id state = record state { timers = without_id number id state.timers }

-- ---- new actors

-- the own part of a machine actor before its first step
abbrev pub fresh_own : ℕ → Own
fresh_own machine = record { def = machine; begun = false; nodes = []; history = []; context = Null; children = []; unnamed = 0 }

-- a record with this own part or item, and nothing else yet
abbrev pub fresh_record : ℕ → Option ℕ → Option (List ℕ) → Option Own → Option Item → ActorRecord
fresh_record number parent system own item = record {
  number = number;
  parent = parent;
  own = own;
  item = item;
  system = system;
  status = status.Active;
  output = Null;
  error = Null;
  kids = [];
  mailbox = [];
}

-- a record stands last, with the next number, and holds its name
abbrev pub with_record : OfficeState → ActorRecord → OfficeState
with_record state actor = record state {
  actors = state.actors ++ actor ∷ [];
  names = option_map_or (λ (name : List ℕ). with_holder state.names name actor.number) actor.system state.names;
  next_actor = state.next_actor + 1;
}

-- a new machine actor, with the letter that begins it
abbrev pub with_machine : OfficeState → Origin → Option ℕ → ℕ → Value → Option (List ℕ) → OfficeState
with_machine state origin parent machine input system =
    with_letter (with_record state (fresh_record state.next_actor parent system (Some (fresh_own machine)) None)) origin state.next_actor (init_event input)

-- a new work item
abbrev pub with_item : OfficeState → Option ℕ → List ℕ → Value → Option (List ℕ) → OfficeState
with_item state parent src input system =
    let item : Item = record { actor = state.next_actor; src = src; input = input } in
    with_record state (fresh_record state.next_actor parent system None (Some item))

-- somebody holds the name already
abbrev pub is_name_held : OfficeState → Option (List ℕ) → Bool
is_name_held state system = option_map_or (λ (name : List ℕ). is_some (holder_of name state.names)) system false

-- one active actor more finds room, and a number
abbrev pub has_actor_room : OfficeState → Bool
has_actor_room state = nat_lt (active_actors state) MAX_ACTIVE_ACTORS && nat_lt state.next_actor MAX_NEXT_NUMBER

-- the actor stands on one of the first levels of its tree: it has no parent, or its parent stands on one
-- of the levels above
unfoldable pub is_within_levels : OfficeState → ℕ → ℕ → Bool
is_within_levels state zero number = false
is_within_levels state (suc levels) number = option_map_or (is_within_levels state levels) (parent_actor state number) true

-- one level more may stand below the actor
abbrev pub has_level_below : OfficeState → ℕ → Bool
has_level_below state number = is_within_levels state (MAX_TREE_LEVELS - 1) number

-- ---- spawn, stop

-- how many letters a new actor of this logic begins with
abbrev pub first_letters : ActorLogic → ℕ
first_letters logic = option_map_or (λ (machine : ℕ). 1) logic.machine 0

-- a new actor of this logic
abbrev pub with_logic : OfficeState → ℕ → ActorLogic → Value → Option (List ℕ) → OfficeState
with_logic state parent logic input system =
    option_map_or (λ (machine : ℕ). with_machine state (origin.Actor parent) (Some parent) machine input system) logic.machine
    (with_item state (Some parent) logic.name input system)

-- a new child stands last among its parent's
abbrev pub with_kid : List ℕ → ℕ → ActorRecord → ActorRecord
with_kid id number actor = record actor { kids = actor.kids ++ (id, number) ∷ [] }

-- a child is made, if nothing stands against it
abbrev pub with_child : ℕ → List ℕ → ActorLogic → Value → Option (List ℕ) → OfficeState → Fitted
with_child number id logic input system state =
    if is_name_held state system then Err NameHeld
    else if not (has_actor_room state) then Err ActorsFull
    else if not (has_letter_room state (first_letters logic)) then Err LettersFull
    else if not (has_level_below state number) then Err TooDeep
    else Ok (with_actor (with_logic state number logic input system) number (with_kid id state.next_actor))

-- a child of a row of the table
abbrev pub after_spawn : OfficeDefinitions → ℕ → List ℕ → ℕ → Value → Option (List ℕ) → OfficeState → Fitted
after_spawn definitions number id src input system state =
    option_map_or (λ (logic : ActorLogic). with_child number id logic input system state) (slice_get definitions.actors src) (Ok state)

-- a child is no more among its parent's
abbrev pub without_kid : List ℕ → ActorRecord → ActorRecord
without_kid id actor = record actor { kids = filter (λ (kid : List ℕ × ℕ). not (bytes_eq kid.0 id)) actor.kids }

-- the child of an actor with this id
abbrev pub child_named : OfficeState → ℕ → List ℕ → Option ℕ
child_named state number id = option_and_then (λ (actor : ActorRecord). lookup (bytes_eq id) actor.kids) (actor_record state number)

-- the child with this id is removed with all below it; where no child has the id nothing is
abbrev pub after_stop : ℕ → List ℕ → OfficeState → OfficeState
after_stop number id state =
    option_map_or (λ (child : ℕ). with_actor (removed child state) number (without_kid id)) (child_named state number id) state

-- ---- effects one after the other

-- an effect of an actor's step
abbrev pub after_effect : OfficeDefinitions → ℕ → Effect → OfficeState → Fitted
after_effect definitions number (effect.Send target event) state = after_send number target event state
after_effect definitions number (effect.Schedule id delay target event) state = after_schedule number id delay target event state
after_effect definitions number (effect.Cancel id) state = Ok (after_cancel number id state)
after_effect definitions number (effect.Spawn id src input system) state = after_spawn definitions number id src input system state
after_effect definitions number (effect.Stop id) state = Ok (after_stop number id state)

-- effects one after the other, each on the state that the one before left; the first that doesn't fit gives the name
unfoldable pub after_effects : OfficeDefinitions → ℕ → List Effect → OfficeState → Fitted
after_effects definitions number [] state = Ok state
after_effects definitions number (first ∷ others) state = after_effect definitions number first state >>= after_effects definitions number others
