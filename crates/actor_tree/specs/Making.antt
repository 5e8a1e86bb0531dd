-- What room an actor needs when it is made, and what room that leaves.
use Rattle.std.specs.Prelude.{◌≡◌, ℕ, ◌+◌, ◌<◌, ◌≤◌, List, ◌⊎◌, IsSome}
use Rattle.office_books.specs.NumberedItems.{numbered_item}
use Rattle.actor_tree.specs.declared.actor.Actor.{Actor}
use Rattle.actor_tree.specs.HeldOffice.{HeldRoom, kid_room, letter_room, room_among}

-- there is room for an actor, with a name and an item
pub record HasRoomToMake (room : HeldRoom) : Type 0 where
  pub actors : 0 < room.actors
  pub names : 0 < room.names
  pub items : 0 < room.items

-- there is room for so many actors, each with a name and an item, and for so many timers
pub record HasRoomToMakeAll (actors timers : ℕ) (room : HeldRoom) : Type 0 where
  pub room_actors : actors ≤ room.actors
  pub room_names : actors ≤ room.names
  pub room_items : actors ≤ room.items
  pub room_timers : timers ≤ room.timers

-- whoever is there was there with this room, or is new, with a room of its own
abbrev pub AreRoomsWith : ℕ → ℕ → List (ℕ × ℕ) → List (ℕ × ℕ) → Type 0
AreRoomsWith made room old new =
    (number : ℕ) → IsSome (numbered_item number new) → ((number ≡ made) × (room ≤ room_among number new)) ⊎ (IsSome (numbered_item number old) × (room_among number old ≤ room_among number new))

-- the room that is left after an actor is made, which brings its own
pub record IsRoomAfterMaking (number : ℕ) (actor : Actor) (old : HeldRoom) (new : HeldRoom) : Type 0 where
  pub actors : old.actors ≤ new.actors + 1
  pub names : old.names ≤ new.names + 1
  pub items : old.items ≤ new.items + 1
  pub timers : old.timers ≤ new.timers
  pub letters : AreRoomsWith number (letter_room actor) old.letters new.letters
  pub kids : AreRoomsWith number (kid_room actor) old.kids new.kids
