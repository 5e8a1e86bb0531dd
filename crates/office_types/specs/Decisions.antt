-- What an office decides on a request: the rows of the table of answers, in their order.
use Rattle.std.specs.Prelude.{ℕ, ◌+◌, ◌-◌, Bool, false, not, ◌&&◌, List, [], ◌∷◌, ◌++◌, length, find, sum_by, Option, None, Some, is_none, slice_get, nat_eq, nat_lt, nat_le, if◌then◌else◌}
use Rattle.std.specs.Option.{option_map, option_map_or, option_and_then, option_or}
use Rattle.std.specs.Str.{bytes_eq}
use Rattle.xs_model.specs.declared.value.Value.{Value}
use Rattle.office_types.specs.declared.limits.TheConstants.{MAX_ACTIVE_ACTORS, MAX_CALLERS, MAX_ENTRIES, MAX_LETTERS, MAX_REPLIES}
use Rattle.office_types.specs.declared.office.Caller.{Caller}
use Rattle.office_types.specs.declared.office.OfficeState.{OfficeState}
use Rattle.office_types.specs.declared.office.Origin.TheVariants as origin
use Rattle.office_types.specs.declared.request.Ask.{Ask}
use Rattle.office_types.specs.declared.request.Ask.TheVariants as ask
use Rattle.office_types.specs.declared.request.Reply.{Reply}
use Rattle.office_types.specs.declared.request.Request.{Request}
use Rattle.office_types.specs.declared.request.Word.{Word}
use Rattle.office_types.specs.declared.request.Word.TheVariants as word
use Rattle.office_types.specs.Definitions.{OfficeDefinitions, machine_named}
use Rattle.office_types.specs.Effects.{has_actor_room, with_machine}
use Rattle.office_types.specs.Ends.{done_record, error_record, after_end, letters_to_parent, with_letter_to_parent}
use Rattle.office_types.specs.Events.{event_type, is_reserved, done_event, error_event}
use Rattle.office_types.specs.Mailboxes.{has_letter_room, with_letter}
use Rattle.office_types.specs.Moment.{after_advance, due_letters}
use Rattle.office_types.specs.Records.{is_active_machine, is_given, is_open_item}
use Rattle.office_types.specs.Step.{with_entry}
use Rattle.office_types.specs.SystemNames.{holder_of}
use Rattle.office_types.specs.Timers.{due_by}

-- a reply, and the office after it
pub record Decision : Type 0 where
  pub reply : Reply
  pub after : OfficeState

-- a row of the table: its reply, where it applies
abbrev pub Row : Type 0
Row = Option Reply

-- a reply with this status, word and value
abbrev pub reply_with : ℕ → Word → ℕ → Reply
reply_with status word value = record { status = status; word = word; value = value }

-- the row applies where the test holds
abbrev pub row_if : Bool → ℕ → Word → ℕ → Row
row_if test status word value = if test then Some (reply_with status word value) else None

-- the first row that applies
abbrev pub first_row : List Row → Row
first_row [] = None
first_row (row ∷ rows) = option_or row (first_row rows)

-- ---- rows 1 to 5: nothing is decided, and the office stays

-- the caller of this name
abbrev pub caller_of : OfficeState → List ℕ → Option Caller
caller_of state name = find (λ (caller : Caller). bytes_eq caller.name name) state.callers

-- how many replies are kept for a caller
abbrev pub replies_to : OfficeState → List ℕ → ℕ
replies_to state name = option_map_or (λ (caller : Caller). length caller.replies) (caller_of state name) 0

-- the number that the caller's next request has to have
abbrev pub next_number : OfficeState → List ℕ → ℕ
next_number state name = replies_to state name + 1

-- how many replies are kept for all callers
abbrev pub kept_replies : OfficeState → ℕ
kept_replies state = sum_by (λ (caller : Caller). length caller.replies) state.callers

-- the caller has decided this number: the reply that is kept
abbrev pub repeat_row : OfficeState → Request → Row
repeat_row state request =
    if nat_lt 0 request.number
    then option_and_then (λ (caller : Caller). slice_get caller.replies (request.number - 1)) (caller_of state request.caller)
    else None

-- 409 gap E: the number isn't the caller's next, E
abbrev pub gap_row : OfficeState → Request → Row
gap_row state request =
    row_if (not (nat_eq request.number (next_number state request.caller))) 409 word.Gap (next_number state request.caller)

-- 429 callers: the caller is new, and so many are kept
abbrev pub callers_row : OfficeState → Request → Row
callers_row state request =
    row_if (is_none (caller_of state request.caller) && nat_le MAX_CALLERS (length state.callers)) 429 word.Callers MAX_CALLERS

-- 429 replies: so many are kept in all
abbrev pub replies_row : OfficeState → Row
replies_row state = row_if (nat_le MAX_REPLIES (kept_replies state)) 429 word.Replies MAX_REPLIES

-- 429 entries: the office has had so many
abbrev pub entries_row : OfficeState → Row
entries_row state = row_if (nat_le MAX_ENTRIES state.entries) 429 word.Entries MAX_ENTRIES

-- the answer to a request on which nothing is decided
abbrev pub undecided : OfficeState → Request → Row
undecided state request =
    first_row (repeat_row state request ∷ gap_row state request ∷ callers_row state request ∷ replies_row state ∷ entries_row state ∷ [])

-- ---- row 6: the request is refused, and that is decided

-- start: 404 machine 0: no machine has this id
abbrev pub machine_row : OfficeDefinitions → List ℕ → Row
machine_row definitions machine = row_if (is_none (machine_named definitions machine)) 404 word.Machine 0

-- start: 409 name H: the system name is held, by actor H
abbrev pub name_row : OfficeState → Option (List ℕ) → Row
name_row state system = option_map (λ (holder : ℕ). reply_with 409 word.Name holder) (option_and_then (λ (name : List ℕ). holder_of name state.names) system)

-- start: 429 actors: so many are active, or no number is left
abbrev pub actors_row : OfficeState → Row
actors_row state = row_if (not (has_actor_room state)) 429 word.Actors MAX_ACTIVE_ACTORS

-- send: 404 actor A: the number was never given
abbrev pub actor_row : OfficeState → ℕ → Row
actor_row state actor = row_if (not (is_given state actor)) 404 word.Actor actor

-- send: 410 stopped A: given, and no active machine actor has it
abbrev pub stopped_row : OfficeState → ℕ → Row
stopped_row state actor = row_if (not (is_active_machine state actor)) 410 word.Stopped actor

-- send: 422 reserved A: the type begins with `xstate.`
abbrev pub reserved_row : ℕ → Value → Row
reserved_row actor event = row_if (option_map_or is_reserved (event_type event) false) 422 word.Reserved actor

-- resolve, reject: 404 item N: the number was never given
abbrev pub item_row : OfficeState → ℕ → Row
item_row state item = row_if (not (is_given state item)) 404 word.Item item

-- resolve, reject: 410 closed N: given, and no open work item has it
abbrev pub closed_row : OfficeState → ℕ → Row
closed_row state item = row_if (not (is_open_item state item)) 410 word.Closed item

-- at: 409 moment L: the moment is below the last one, L
abbrev pub moment_row : OfficeState → ℕ → Row
moment_row state moment = row_if (nat_lt moment state.moment) 409 word.Moment state.moment

-- all of these: 429 letters: those that the request makes find no room, or no numbers
abbrev pub letters_row : OfficeState → ℕ → Row
letters_row state letters = row_if (not (has_letter_room state letters)) 429 word.Letters MAX_LETTERS

-- what stands against a request
abbrev pub refusal : OfficeDefinitions → OfficeState → Ask → Row
refusal definitions state (ask.Start machine system input) =
    first_row (machine_row definitions machine ∷ name_row state system ∷ actors_row state ∷ letters_row state 1 ∷ [])
refusal definitions state (ask.Send actor event) =
    first_row (actor_row state actor ∷ stopped_row state actor ∷ reserved_row actor event ∷ letters_row state 1 ∷ [])
refusal definitions state (ask.Resolve item output) =
    first_row (item_row state item ∷ closed_row state item ∷ letters_row state (letters_to_parent state item) ∷ [])
refusal definitions state (ask.Reject item error) =
    first_row (item_row state item ∷ closed_row state item ∷ letters_row state (letters_to_parent state item) ∷ [])
refusal definitions state (ask.At moment) =
    first_row (moment_row state moment ∷ letters_row state (due_letters state moment) ∷ [])

-- ---- row 7: nothing stands against it

-- 201 actor A, 202 letter L, 200 item N, 200 due K
abbrev pub grant : OfficeState → Ask → Reply
grant state (ask.Start machine system input) = reply_with 201 word.Actor state.next_actor
grant state (ask.Send actor event) = reply_with 202 word.Letter state.next_letter
grant state (ask.Resolve item output) = reply_with 200 word.Item item
grant state (ask.Reject item error) = reply_with 200 word.Item item
grant state (ask.At moment) = reply_with 200 word.Due (length (due_by moment state.timers))

-- the office after the request; the letters of a start and of a send are from the caller
abbrev pub after_grant : OfficeDefinitions → List ℕ → Ask → OfficeState → OfficeState
after_grant definitions caller (ask.Start machine system input) state =
    option_map_or (λ (number : ℕ). with_machine state (origin.Caller caller) None number input system) (machine_named definitions machine) state
after_grant definitions caller (ask.Send actor event) state = with_letter state (origin.Caller caller) actor event
after_grant definitions caller (ask.Resolve item output) state = with_letter_to_parent (after_end (done_record output) item state) item (done_event output)
after_grant definitions caller (ask.Reject item error) state = with_letter_to_parent (after_end (error_record error) item state) item (error_event error)
after_grant definitions caller (ask.At moment) state = after_advance moment state

-- ---- the decision

-- the callers with the reply appended to those of one, who stands last if it is new
abbrev pub with_reply : List ℕ → Reply → List Caller → List Caller
with_reply name reply [] = record { name = name; replies = reply ∷ [] } ∷ []
with_reply name reply (caller ∷ callers) =
    if bytes_eq caller.name name
    then record { name = caller.name; replies = caller.replies ++ reply ∷ [] } ∷ callers
    else caller ∷ with_reply name reply callers

-- a reply is kept, and the decision is one entry more
abbrev pub with_kept_reply : List ℕ → Reply → OfficeState → OfficeState
with_kept_reply caller reply state = with_entry (record state { callers = with_reply caller reply state.callers })

-- a refusal changes nothing else, and a grant makes its change
abbrev pub decision_by : OfficeDefinitions → OfficeState → Request → Row → Decision
decision_by definitions state request (Some refused) = record { reply = refused; after = with_kept_reply request.caller refused state }
decision_by definitions state request None =
    let reply : Reply = grant state request.ask in
    record { reply = reply; after = with_kept_reply request.caller reply (after_grant definitions request.caller request.ask state) }

-- the answer of the first row that applies
abbrev pub answer_by : OfficeDefinitions → OfficeState → Request → Row → Decision
answer_by definitions state request (Some reply) = record { reply = reply; after = state }
answer_by definitions state request None = decision_by definitions state request (refusal definitions state request.ask)

-- what an office decides on a request
unfoldable pub decided : OfficeDefinitions → OfficeState → Request → Decision
decided definitions state request = answer_by definitions state request (undecided state request)
