-- What contracts see of what a forest holds, and what holds of it at each moment.
use Rattle.std.specs.Prelude.{◌≡◌, ℕ, ◌+◌, ◌-◌, ◌<◌, ◌≤◌, List, [], filter, length, find, map, nat_eq, not, Option, IfSome, IsSome, unwrap_or, sum_by, if◌then◌else◌}
use Rattle.std.specs.List.{AllByRecursion}
use Rattle.std.specs.Option.{option_map_or}
use Rattle.std.specs.VecDeque.{deque_capacity, deque_len}
use Rattle.office_types.specs.declared.office.ActorRecord.{ActorRecord}
use Rattle.office_types.specs.declared.office.Item.{Item}
use Rattle.office_types.specs.declared.office.OfficeState.{OfficeState}
use Rattle.office_types.specs.declared.office.Timer.{Timer}
use Rattle.office_types.specs.Mailboxes.{waiting_letters}
use Rattle.office_types.specs.Records.{active_actors, actor_record, is_active}
use Rattle.office_types.specs.WorkItems.{open_items}
use Rattle.office_books.specs.Books.{HeldNames, OpenItems, vec_room}
use Rattle.office_books.specs.NumberedItems.{NumberedItems, NumbersRise, numbered_item}
use Rattle.delay_queue.specs.Queue.{is_owned, TimerQueue}
use Rattle.actor_tree.specs.declared.actor.Actor.{Actor}
use Rattle.actor_tree.specs.declared.counts.Counts.{Counts}
use Rattle.actor_tree.specs.Actors.{records_of}

-- for how many more there is room: actors, held names, open items, timers, and letters and children of each actor by its number
pub record HeldRoom : Type 0 where
  pub actors : ℕ
  pub names : ℕ
  pub items : ℕ
  pub timers : ℕ
  pub letters : List (ℕ × ℕ)
  pub kids : List (ℕ × ℕ)

-- what is needed of the room: so many actors, names, open items and timers, a letter to each receiver, a child of each parent
pub record Needs : Type 0 where
  pub actors : ℕ
  pub names : ℕ
  pub items : ℕ
  pub timers : ℕ
  pub receivers : List ℕ
  pub parents : List ℕ

-- nothing is needed
abbrev pub no_needs : Needs
no_needs = record { actors = 0; names = 0; items = 0; timers = 0; receivers = []; parents = [] }

-- the office that is held, with no callers and no entries, and for how many more there is room
pub record HeldOffice : Type 0 where
  pub office : OfficeState
  pub room : HeldRoom

-- the office of numbered actors, names and timers, with its moment and next numbers
abbrev pub office_with : List (ℕ × Actor) → List (List ℕ × ℕ) → List Timer → Counts → OfficeState
office_with actors names timers counts = record {
  actors = records_of actors;
  timers = timers;
  names = names;
  callers = [];
  moment = counts.moment;
  entries = 0;
  next_actor = counts.next_actor;
  next_letter = counts.next_letter;
  next_timer = counts.next_timer;
}

-- for how many more letters an actor has room
abbrev pub letter_room : Actor → ℕ
letter_room actor = deque_capacity actor.mailbox - deque_len actor.mailbox

-- for how many more children
abbrev pub kid_room : Actor → ℕ
kid_room actor = vec_room actor.kids

-- the rooms of numbered actors, by such a measure
abbrev pub rooms_by : (Actor → ℕ) → List (ℕ × Actor) → List (ℕ × ℕ)
rooms_by room actors = map (λ (pair : ℕ × Actor). (pair.0, room pair.1)) actors

-- the room of a number; none where the number has no room
abbrev pub room_among : ℕ → List (ℕ × ℕ) → ℕ
room_among number rooms = unwrap_or (numbered_item number rooms) 0

-- how often a number is among others
abbrev pub times_among : ℕ → List ℕ → ℕ
times_among number numbers = length (filter (nat_eq number) numbers)

-- whoever is there was there, and has the room that it had but for one use each time that it is among these
abbrev pub AreRoomsBeside : List ℕ → List (ℕ × ℕ) → List (ℕ × ℕ) → Type 0
AreRoomsBeside users old new =
    (number : ℕ) → IsSome (numbered_item number new) → IsSome (numbered_item number old) × (room_among number old ≤ room_among number new + times_among number users)

-- the rooms of numbered actors, of names, open items and timers
abbrev pub room_with : NumberedItems Actor → HeldNames → OpenItems → TimerQueue → HeldRoom
room_with actors names items timers = record {
  actors = actors.spare;
  names = names.spare;
  items = items.spare;
  timers = timers.spare;
  letters = rooms_by letter_room actors.items;
  kids = rooms_by kid_room actors.items;
}

-- the room that is left, where no more than what is needed was used, and no actor was made
pub record IsRoomBeside (needs : Needs) (old : HeldRoom) (new : HeldRoom) : Type 0 where
  pub actors : old.actors ≤ new.actors + needs.actors
  pub names : old.names ≤ new.names + needs.names
  pub items : old.items ≤ new.items + needs.items
  pub timers : old.timers ≤ new.timers + needs.timers
  pub letters : AreRoomsBeside needs.receivers old.letters new.letters
  pub kids : AreRoomsBeside needs.parents old.kids new.kids

-- the record of an actor among others
abbrev pub actor_among : ℕ → List ActorRecord → Option ActorRecord
actor_among number actors = find (λ (actor : ActorRecord). nat_eq actor.number number) actors

-- the number has room, or stands for nobody
abbrev pub HasRoomAt : ℕ → List (ℕ × ℕ) → Type 0
HasRoomAt number rooms = IsSome (numbered_item number rooms) → 0 < room_among number rooms

-- the number has room for so many, or stands for nobody
abbrev pub HasRoomOf : ℕ → ℕ → List (ℕ × ℕ) → Type 0
HasRoomOf many number rooms = IsSome (numbered_item number rooms) → many ≤ room_among number rooms

-- the record of one actor is changed, and so much room was used
pub record IsChangedAt (number : ℕ) (change : ActorRecord → ActorRecord) (needs : Needs) (old : List (ℕ × Actor)) (new : List (ℕ × Actor)) : Type 0 where
  pub records : records_of new ≡ map (λ (actor : ActorRecord). if nat_eq actor.number number then change actor else actor) (records_of old)
  pub rise : NumbersRise new
  pub letters : AreRoomsBeside needs.receivers (rooms_by letter_room old) (rooms_by letter_room new)
  pub kids : AreRoomsBeside needs.parents (rooms_by kid_room old) (rooms_by kid_room new)

-- the record of one actor is gone, and no room was used
pub record IsTakenFrom (number : ℕ) (old : List (ℕ × Actor)) (new : List (ℕ × Actor)) : Type 0 where
  pub records : records_of new ≡ filter (λ (actor : ActorRecord). not (nat_eq actor.number number)) (records_of old)
  pub rise : NumbersRise new
  pub letters : AreRoomsBeside [] (rooms_by letter_room old) (rooms_by letter_room new)
  pub kids : AreRoomsBeside [] (rooms_by kid_room old) (rooms_by kid_room new)

-- how many letters wait for numbered actors
abbrev pub letters_in : List (ℕ × Actor) → ℕ
letters_in actors = sum_by (λ (actor : ActorRecord). length actor.mailbox) (records_of actors)

-- how many of numbered actors are active
abbrev pub active_in : List (ℕ × Actor) → ℕ
active_in actors = length (filter is_active (records_of actors))

-- an actor's item has its number
abbrev pub HasOwnItem : ActorRecord → Type 0
HasOwnItem actor = IfSome actor.item (λ (item : Item). item.actor ≡ actor.number)

-- what is counted is what the office has, the list of open items is that of its actors, and next numbers are new
pub record IsHeld (actors : List (ℕ × Actor)) (office : OfficeState) (items : List Item) (counts : Counts) : Type 0 where
  pub numbers_rise : NumbersRise actors
  pub active : counts.active ≡ active_actors office
  pub waiting : counts.waiting ≡ waiting_letters office
  pub items_open : items ≡ open_items office
  pub numbered : AllByRecursion HasOwnItem office.actors
  pub actors_given : AllByRecursion (λ (actor : ActorRecord). actor.number < office.next_actor) office.actors
  pub holders_given : AllByRecursion (λ (holder : List ℕ × ℕ). holder.1 < office.next_actor) office.names
  pub timers_given : AllByRecursion (λ (timer : Timer). timer.order < office.next_timer) office.timers

-- how many letters wait for an actor
abbrev pub letters_waiting_for : OfficeState → ℕ → ℕ
letters_waiting_for state number = option_map_or (λ (actor : ActorRecord). length actor.mailbox) (actor_record state number) 0

-- how many timers an actor owns
abbrev pub timers_owned_by : ℕ → List Timer → ℕ
timers_owned_by owner timers = length (filter (is_owned owner) timers)
