-- Which states an office may be in.
use Rattle.std.specs.Prelude.{◌≡◌, ◌≢◌, ℕ, ◌<◌, ◌≤◌, Bool, true, false, MatchBool, ◌&&◌, List, [], ◌∷◌, length, map, Option, None, Some, IsTrue, IfSome, All, AllPairs, Contains, option_to_list, count_by, nat_eq}
use Rattle.std.specs.Option.{option_map_or, option_and_then}
use Rattle.std.specs.List.{flat_map}
use Rattle.std.specs.List.Sorted.{IsStrictlyIncreasing}
use Rattle.std.specs.Str.{bytes_eq}
use Rattle.xs_model.specs.declared.value.Value.TheVariants.{Null}
use Rattle.office_types.specs.declared.limits.TheConstants.{MAX_ACTIVE_ACTORS, MAX_CALLERS, MAX_ENTRIES, MAX_LETTERS, MAX_MOMENT, MAX_NEXT_NUMBER, MAX_REPLIES, MAX_TIMERS, MAX_TREE_LEVELS}
use Rattle.office_types.specs.declared.office.ActorRecord.{ActorRecord}
use Rattle.office_types.specs.declared.office.Caller.{Caller}
use Rattle.office_types.specs.declared.office.Item.{Item}
use Rattle.office_types.specs.declared.office.Letter.{Letter}
use Rattle.office_types.specs.declared.office.OfficeState.{OfficeState}
use Rattle.office_types.specs.declared.office.Origin.{Origin}
use Rattle.office_types.specs.declared.office.Origin.TheVariants as origin
use Rattle.office_types.specs.declared.office.Status.TheVariants as status
use Rattle.office_types.specs.declared.office.Timer.{Timer}
use Rattle.office_types.specs.declared.outcome.Own.{Own}
use Rattle.office_types.specs.declared.request.Reply.{Reply}
use Rattle.office_types.specs.declared.request.Word.{Word}
use Rattle.office_types.specs.declared.request.Word.TheVariants as word
use Rattle.office_types.specs.Callers.{is_caller}
use Rattle.office_types.specs.Decisions.{kept_replies}
use Rattle.office_types.specs.Definitions.{OfficeDefinitions, nodes_of}
use Rattle.office_types.specs.Effects.{is_within_levels}
use Rattle.office_types.specs.Events.{event_type, init_type}
use Rattle.office_types.specs.Limits.{is_event, is_name, is_short}
use Rattle.office_types.specs.Mailboxes.{waiting_letters}
use Rattle.office_types.specs.OwnParts.{IsOwnPart}
use Rattle.office_types.specs.Records.{active_actors, is_active, is_active_machine, actor_record}

-- a number that was given before the next one
abbrev pub IsGiven : ℕ → ℕ → Type 0
IsGiven next number = (0 < number) × (number < next)

-- ---- letters

-- the letters that wait, of all mailboxes
abbrev pub letters_of : List ActorRecord → List Letter
letters_of actors = flat_map (λ (actor : ActorRecord). actor.mailbox) actors

-- an actor that wrote a letter was given its number
abbrev pub IsOrigin : OfficeState → Origin → Type 0
IsOrigin state (origin.Caller name) = Unit {0}
IsOrigin state (origin.Actor number) = IsGiven state.next_actor number

-- a letter that waits: its number was given, and so was that of the actor that wrote it
pub record IsLetter (state : OfficeState) (letter : Letter) : Type 0 where
  pub number : IsGiven state.next_letter letter.number
  pub origin : IsOrigin state letter.origin
  pub event : IsTrue (is_event letter.event)

-- the letter is one that begins an actor
abbrev pub is_init : Letter → Bool
is_init letter = option_map_or (bytes_eq init_type) (event_type letter.event) false

-- no letter begins an actor
abbrev pub HasNoInit : List Letter → Type 0
HasNoInit letters = All (λ letter. is_init letter ≡ false) letters

-- the head letter is the one that begins the actor, and no other is
abbrev pub HasInitAsHead : List Letter → Type 0
HasInitAsHead [] = ⊥
HasInitAsHead (head ∷ others) = (is_init head ≡ true) × HasNoInit others

-- an active machine actor that hasn't begun has its `xstate.init` letter as head, and no other letter is of that type
abbrev pub HasItsInit : Own → List Letter → Type 0
HasItsInit own mailbox = MatchBool own.begun (HasNoInit mailbox) (HasInitAsHead mailbox)

-- ---- actors

-- a machine actor: its machine is one of the definitions, its own part is one of that machine, and its children have the
-- ids of its own part, in that order
pub record IsMachineActor (definitions : OfficeDefinitions) (actor : ActorRecord) (own : Own) : Type 0 where
  pub machine : own.def < length definitions.machines
  pub part : IsOwnPart (nodes_of definitions own.def) own
  pub kids : map (λ (kid : List ℕ × ℕ). kid.0) actor.kids ≡ own.children
  pub init : is_active actor ≡ true → HasItsInit own actor.mailbox

-- a work item: it has the actor's number, and no children and no letters
pub record IsItemActor (actor : ActorRecord) (item : Item) : Type 0 where
  pub number : item.actor ≡ actor.number
  pub input : IsTrue (is_short item.input)
  pub kids : actor.kids ≡ []
  pub letters : actor.mailbox ≡ []

-- an own part or an item, not both
abbrev pub IsOfOneKind : OfficeDefinitions → ActorRecord → Option Own → Option Item → Type 0
IsOfOneKind definitions actor (Some own) None = IsMachineActor definitions actor own
IsOfOneKind definitions actor None (Some item) = IsItemActor actor item
IsOfOneKind definitions actor _ _ = ⊥

-- an actor that isn't active has no letters and no name
pub record HasEnded (actor : ActorRecord) : Type 0 where
  pub letters : actor.mailbox ≡ []
  pub name : actor.system ≡ None

-- the kids' entries for a child
abbrev pub is_kid : ℕ → List ℕ × ℕ → Bool
is_kid number kid = nat_eq kid.1 number

-- a parent has a record and a smaller number, lists the child once, and is active if the child is
pub record IsChildOf (state : OfficeState) (actor : ActorRecord) (number : ℕ) : Type 0 where
  pub parent : ActorRecord
  pub record' : actor_record state number ≡ Some parent
  pub smaller : number < actor.number
  pub listed : count_by (is_kid actor.number) parent.kids ≡ 1
  pub active : is_active actor ≡ true → is_active parent ≡ true

-- each listed child has a record with this parent
abbrev pub HasParent : OfficeState → ℕ → ℕ → Type 0
HasParent state parent child = option_and_then (λ (actor : ActorRecord). actor.parent) (actor_record state child) ≡ Some parent

-- the record of an actor
pub record IsActor (definitions : OfficeDefinitions) (state : OfficeState) (actor : ActorRecord) : Type 0 where
  pub number : IsGiven state.next_actor actor.number
  pub kind : IsOfOneKind definitions actor actor.own actor.item
  pub parent : IfSome actor.parent (IsChildOf state actor)
  pub kids : All (λ (kid : List ℕ × ℕ). HasParent state actor.number kid.1) actor.kids
  pub levels : IsTrue (is_within_levels state MAX_TREE_LEVELS actor.number)
  pub ended : is_active actor ≡ false → HasEnded actor
  pub system : IfSome actor.system (λ name. IsTrue (is_name name))
  pub output : actor.status ≢ status.Done → actor.output ≡ Null
  pub error : actor.status ≢ status.Error → actor.error ≡ Null
  pub values : IsTrue (is_short actor.output && is_short actor.error)
  pub mailbox : IsStrictlyIncreasing (map (λ (letter : Letter). letter.number) actor.mailbox)

-- ---- timers, names, callers

-- a timer that stands: an active machine actor owns it, its target was given a number, and its event begins no actor
pub record IsTimer (state : OfficeState) (timer : Timer) : Type 0 where
  pub order : IsGiven state.next_timer timer.order
  pub owner : IsTrue (is_active_machine state timer.owner)
  pub target : IsGiven state.next_actor timer.target
  pub id : IfSome timer.id (λ id. IsTrue (is_name id))
  pub event : IsTrue (is_event timer.event)
  pub no_init : event_type timer.event ≢ Some init_type

-- two timers of one owner with the same id
abbrev pub AreOfOneId : Timer → Timer → Type 0
AreOfOneId a b = (id : List ℕ) × (a.owner ≡ b.owner) × (a.id ≡ Some id) × (b.id ≡ Some id)

-- the name of an actor, with its number
abbrev pub name_of : ActorRecord → List (List ℕ × ℕ)
name_of actor = map (λ (name : List ℕ). (name, actor.number)) (option_to_list actor.system)

-- the names of the active records that have one, in the order of their numbers
abbrev pub names_of : List ActorRecord → List (List ℕ × ℕ)
names_of actors = flat_map name_of actors

-- the statuses and words of decisions
abbrev pub decided_words : List (ℕ × Word)
decided_words =
    (404, word.Machine) ∷ (409, word.Name) ∷ (429, word.Actors)
    ∷ (404, word.Actor) ∷ (410, word.Stopped) ∷ (422, word.Reserved)
    ∷ (404, word.Item) ∷ (410, word.Closed) ∷ (409, word.Moment) ∷ (429, word.Letters)
    ∷ (201, word.Actor) ∷ (202, word.Letter) ∷ (200, word.Item) ∷ (200, word.Due) ∷ []

-- a reply that decides a request
abbrev pub IsDecidedReply : Reply → Type 0
IsDecidedReply reply = Contains decided_words (reply.status, reply.word)

-- a caller that is kept: it has a reply, and each of its replies decides a request
pub record IsCaller (caller : Caller) : Type 0 where
  pub name : IsTrue (is_caller caller.name)
  pub some : 0 < length caller.replies
  pub replies : All IsDecidedReply caller.replies

-- ---- the office

-- the number of what comes next: numbers begin at 1, and none is above 2^62
pub record IsNextNumber (number : ℕ) : Type 0 where
  pub numbered : 0 < number
  pub limit : number ≤ MAX_NEXT_NUMBER

-- what the next actor, letter and timer get
pub record HasNumbersLeft (state : OfficeState) : Type 0 where
  pub actor : IsNextNumber state.next_actor
  pub letter : IsNextNumber state.next_letter
  pub timer : IsNextNumber state.next_timer

-- the limits of what an office holds
pub record IsWithinLimits (state : OfficeState) : Type 0 where
  pub actors : active_actors state ≤ MAX_ACTIVE_ACTORS
  pub letters : waiting_letters state ≤ MAX_LETTERS
  pub timers : length state.timers ≤ MAX_TIMERS
  pub moment : state.moment ≤ MAX_MOMENT
  pub callers : length state.callers ≤ MAX_CALLERS
  pub replies : kept_replies state ≤ MAX_REPLIES
  pub entries : state.entries ≤ MAX_ENTRIES

-- all that holds of an office at each moment
pub record IsValidOffice (definitions : OfficeDefinitions) (state : OfficeState) : Type 0 where
  pub numbers : HasNumbersLeft state
  pub limits : IsWithinLimits state
  pub actors : All (IsActor definitions state) state.actors
  pub actors_rise : IsStrictlyIncreasing (map (λ (actor : ActorRecord). actor.number) state.actors)
  pub letters : All (IsLetter state) (letters_of state.actors)
  pub letters_once : AllPairs (λ (a b : Letter). a.number ≢ b.number) (letters_of state.actors)
  pub timers : All (IsTimer state) state.timers
  pub timers_rise : IsStrictlyIncreasing (map (λ (timer : Timer). timer.order) state.timers)
  pub timer_ids : AllPairs (λ a b. AreOfOneId a b → ⊥) state.timers
  pub names : state.names ≡ names_of state.actors
  pub names_once : AllPairs (λ (a b : List ℕ × ℕ). a.0 ≢ b.0) state.names
  pub callers : All IsCaller state.callers
  pub callers_once : AllPairs (λ (a b : Caller). a.name ≢ b.name) state.callers
