-- Look-ups in an office, and an office with one record changed.
use Rattle.std.specs.Prelude.{ℕ, Bool, true, false, ◌&&◌, [], length, map, Option, is_some, find, filter, nat_eq, nat_lt, if◌then◌else◌}
use Rattle.std.specs.Option.{option_map_or, option_and_then}
use Rattle.office_types.specs.declared.office.ActorRecord.{ActorRecord}
use Rattle.office_types.specs.declared.office.OfficeState.{OfficeState}
use Rattle.office_types.specs.declared.office.Status.{Status}
use Rattle.office_types.specs.declared.office.Status.TheVariants as status

-- an office in which nothing has happened
abbrev pub empty_office : OfficeState
empty_office = record {
  actors = [];
  timers = [];
  names = [];
  callers = [];
  moment = 0;
  entries = 0;
  next_actor = 1;
  next_letter = 1;
  next_timer = 1;
}

-- the record of an actor
abbrev pub actor_record : OfficeState → ℕ → Option ActorRecord
actor_record state number = find (λ (actor : ActorRecord). nat_eq actor.number number) state.actors

-- the office with the record of one actor changed
abbrev pub with_actor : OfficeState → ℕ → (ActorRecord → ActorRecord) → OfficeState
with_actor state number change =
    record state { actors = map (λ (actor : ActorRecord). if nat_eq actor.number number then change actor else actor) state.actors }

-- the number was given to an actor
abbrev pub is_given : OfficeState → ℕ → Bool
is_given state number = nat_lt 0 number && nat_lt number state.next_actor

-- of the four statuses one alone is that of an actor that has not ended
abbrev pub is_active_status : Status → Bool
is_active_status status.Active = true
is_active_status status.Done = false
is_active_status status.Error = false
is_active_status status.Stopped = false

-- the actor has not ended
abbrev pub is_active : ActorRecord → Bool
is_active actor = is_active_status actor.status

-- the number is that of a machine actor that is active
abbrev pub is_active_machine : OfficeState → ℕ → Bool
is_active_machine state number = option_map_or (λ (actor : ActorRecord). is_active actor && is_some actor.own) (actor_record state number) false

-- the number is that of a work item that is open
abbrev pub is_open_item : OfficeState → ℕ → Bool
is_open_item state number = option_map_or (λ (actor : ActorRecord). is_active actor && is_some actor.item) (actor_record state number) false

-- an actor is ready: it is an active machine actor, and a letter waits for it
abbrev pub is_ready_actor : ActorRecord → Bool
is_ready_actor actor = is_active actor && (is_some actor.own && nat_lt 0 (length actor.mailbox))

-- the number is that of a ready actor
abbrev pub is_ready : OfficeState → ℕ → Bool
is_ready state number = option_map_or is_ready_actor (actor_record state number) false

-- how many actors are active
abbrev pub active_actors : OfficeState → ℕ
active_actors state = length (filter is_active state.actors)

-- the parent of an actor
abbrev pub parent_actor : OfficeState → ℕ → Option ℕ
parent_actor state number = option_and_then (λ (actor : ActorRecord). actor.parent) (actor_record state number)
