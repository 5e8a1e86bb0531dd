-- How actors end, and how they are removed.
use Rattle.std.specs.Prelude.{ℕ, Bool, false, not, List, [], ◌∷◌, ◌++◌, map, fold, filter, find, None, Ok, nat_eq, if◌then◌else◌}
use Rattle.std.specs.List.{list_any}
use Rattle.std.specs.Option.{option_map_or}
use Rattle.std.specs.Result.{result_unwrap_or}
use Rattle.xs_model.specs.declared.value.Value.{Value}
use Rattle.office_types.specs.declared.office.ActorRecord.{ActorRecord}
use Rattle.office_types.specs.declared.office.OfficeState.{OfficeState}
use Rattle.office_types.specs.declared.office.Origin.TheVariants as origin
use Rattle.office_types.specs.declared.office.Status.{Status}
use Rattle.office_types.specs.declared.office.Status.TheVariants as status
use Rattle.office_types.specs.declared.office.Timer.{Timer}
use Rattle.office_types.specs.Events.{done_event, error_event}
use Rattle.office_types.specs.Fitting.{Fitted}
use Rattle.office_types.specs.Mailboxes.{with_letter_if_room, with_letter}
use Rattle.office_types.specs.Records.{actor_record, parent_actor, is_active}
use Rattle.office_types.specs.SystemNames.{without_holder}
use Rattle.office_types.specs.Timers.{without_owner}

-- the number is among these
abbrev pub is_among : List ℕ → ℕ → Bool
is_among numbers number = list_any (nat_eq number) numbers

-- the actor's parent is among these
abbrev pub has_parent_among : List ℕ → ActorRecord → Bool
has_parent_among numbers actor = option_map_or (is_among numbers) actor.parent false

-- the numbers of an actor and of all below it; the record of a parent stands before those of its children
unfoldable pub subtree_of : OfficeState → ℕ → List ℕ
subtree_of state number =
    fold (λ (found : List ℕ) (actor : ActorRecord). if has_parent_among found actor then found ++ actor.number ∷ [] else found) (number ∷ []) state.actors

-- the timers and the names of these actors are gone
abbrev pub without_belongings : List ℕ → OfficeState → OfficeState
without_belongings numbers state = record state {
  timers = fold (λ (timers : List Timer) (number : ℕ). without_owner number timers) state.timers numbers;
  names = fold without_holder state.names numbers;
}

-- ---- removal

-- an actor is gone with all below it: their records with the mailboxes, their timers and their names
unfoldable pub removed : ℕ → OfficeState → OfficeState
removed number state =
    let gone : List ℕ = subtree_of state number in
    record (without_belongings gone state) { actors = filter (λ (actor : ActorRecord). not (is_among gone actor.number)) state.actors }

-- ---- ends

-- the record of an actor that ended: no letters, and no name
abbrev pub ended_record : Status → ActorRecord → ActorRecord
ended_record status actor = record actor { status = status; system = None; mailbox = [] }

-- the record of one that is done
abbrev pub done_record : Value → ActorRecord → ActorRecord
done_record output actor = record (ended_record status.Done actor) { output = output }

-- the record of one that ended in error
abbrev pub error_record : Value → ActorRecord → ActorRecord
error_record error actor = record (ended_record status.Error actor) { error = error }

-- an actor below one that ended becomes stopped, if it was active
abbrev pub stopped_record : ActorRecord → ActorRecord
stopped_record actor = if is_active actor then ended_record status.Stopped actor else actor

-- the record of an actor after the end of another one
abbrev pub record_after_end : List ℕ → ℕ → (ActorRecord → ActorRecord) → ActorRecord → ActorRecord
record_after_end subtree number end actor =
    if nat_eq actor.number number then end actor
    else if is_among subtree actor.number then stopped_record actor
    else actor

-- an actor ends: its mailbox is emptied, its timers are dropped, its name is freed, and its active
-- descendants become stopped in the same way, their records staying
unfoldable pub after_end : (ActorRecord → ActorRecord) → ℕ → OfficeState → OfficeState
after_end end number state =
    let subtree : List ℕ = subtree_of state number in
    record (without_belongings subtree state) { actors = map (record_after_end subtree number end) state.actors }

-- ---- what the parent is told

-- the id of a child
abbrev pub child_id : OfficeState → ℕ → ℕ → List ℕ
child_id state parent number =
    option_map_or (λ (actor : ActorRecord). option_map_or (λ (kid : List ℕ × ℕ). kid.0) (find (λ (kid : List ℕ × ℕ). nat_eq kid.1 number) actor.kids) [])
    (actor_record state parent) []

-- a letter to an actor's parent, if it has one; its event is made of the actor's child id
abbrev pub with_letter_to_parent : OfficeState → ℕ → (List ℕ → Value) → OfficeState
with_letter_to_parent state number event =
    option_map_or (λ (parent : ℕ). with_letter state (origin.Actor number) parent (event (child_id state parent number))) (parent_actor state number) state

-- how many letters tell an actor's parent something: one, if it has a parent
abbrev pub letters_to_parent : OfficeState → ℕ → ℕ
letters_to_parent state number = option_map_or (λ (parent : ℕ). 1) (parent_actor state number) 0

-- the same, if the letter finds room and a number
abbrev pub after_telling_parent : OfficeState → ℕ → (List ℕ → Value) → Fitted
after_telling_parent state number event =
    option_map_or (λ (parent : ℕ). with_letter_if_room state (origin.Actor number) parent (event (child_id state parent number))) (parent_actor state number) (Ok state)

-- an actor gets done, and tells its parent
abbrev pub after_done : ℕ → Value → OfficeState → Fitted
after_done number output state = after_telling_parent (after_end (done_record output) number state) number (done_event output)

-- an actor ends in error, and tells its parent; without a number for it the letter is a dead letter
abbrev pub after_failure : ℕ → Value → OfficeState → OfficeState
after_failure number error state =
    let after : OfficeState = after_end (error_record error) number state in
    result_unwrap_or (after_telling_parent after number (error_event error)) after
