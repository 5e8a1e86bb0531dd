-- Room for the parts of a change.
use Rattle.std.specs.Prelude.{◌≡◌, ℕ, ◌+◌, ◌≤◌, List, [], ◌∷◌, IsSome, sum_by}
use Rattle.office_types.specs.declared.office.OfficeState.{OfficeState}
use Rattle.office_books.specs.NumberedItems.{numbered_item}
use Rattle.actor_tree.specs.declared.part.Part.{Part}
use Rattle.actor_tree.specs.declared.part.Part.TheVariants as part
use Rattle.actor_tree.specs.HeldOffice.{HeldOffice, kid_room, letter_room, Needs, no_needs, room_among, times_among}
use Rattle.actor_tree.specs.Parts.{CanPut, put_part}

-- what a part needs of the room; of a new actor it isn't asked whether it has a name or an item
abbrev pub needs_of : Part → Needs
needs_of (part.Mail origin receiver event) = record no_needs { receivers = receiver ∷ [] }
needs_of (part.Schedule timer) = record no_needs { timers = 1 }
needs_of (part.Make newcomer) = record no_needs { actors = 1; names = 1; items = 1 }
needs_of (part.Join parent id child) = record no_needs { parents = parent ∷ [] }
needs_of _ = no_needs

-- how many letters parts bring to an actor
abbrev pub letters_for : ℕ → List Part → ℕ
letters_for number parts = sum_by (λ (part : Part). times_among number (needs_of part).receivers) parts

-- how many children
abbrev pub kids_for : ℕ → List Part → ℕ
kids_for number parts = sum_by (λ (part : Part). times_among number (needs_of part).parents) parts

-- the number of the next actor after a part
abbrev pub next_after : ℕ → Part → ℕ
next_after next (part.Make newcomer) = next + 1
next_after next _ = next

-- where a part makes an actor, it has room for the letters and the children that the later parts bring it
abbrev pub HasOwnRoom : ℕ → Part → List Part → Type 0
HasOwnRoom next (part.Make newcomer) later = (letters_for next later ≤ letter_room newcomer.actor) × (kids_for next later ≤ kid_room newcomer.actor)
HasOwnRoom next _ later = Unit {0}

-- so has each actor that is made
abbrev pub HaveOwnRooms : ℕ → List Part → Type 0
HaveOwnRooms next [] = Unit {0}
HaveOwnRooms next (first ∷ later) = HasOwnRoom next first later × HaveOwnRooms (next_after next first) later

-- there is room for all parts, one after the other: for the actors, names, items and timers that they make, and for the letters
-- and children that they bring to each actor
pub record HasRoomForAll (held : HeldOffice) (parts : List Part) : Type 0 where
  pub actors : sum_by (λ (part : Part). (needs_of part).actors) parts ≤ held.room.actors
  pub names : sum_by (λ (part : Part). (needs_of part).names) parts ≤ held.room.names
  pub items : sum_by (λ (part : Part). (needs_of part).items) parts ≤ held.room.items
  pub timers : sum_by (λ (part : Part). (needs_of part).timers) parts ≤ held.room.timers
  pub letters : (number : ℕ) → IsSome (numbered_item number held.room.letters) → letters_for number parts ≤ room_among number held.room.letters
  pub kids : (number : ℕ) → IsSome (numbered_item number held.room.kids) → kids_for number parts ≤ room_among number held.room.kids
  pub newcomers : HaveOwnRooms held.office.next_actor parts

-- a part with more room: it makes the same of every office, and an actor that it makes under this number has room for so many letters and children
pub record IsRoomier (letters kids : ℕ → ℕ) (number : ℕ) (old new : Part) : Type 0 where
  pub put : (state : OfficeState) → put_part state new ≡ put_part state old
  pub fits : (state : OfficeState) → CanPut state old → CanPut state new
  pub needs : needs_of new ≡ needs_of old
  pub next : (next : ℕ) → next_after next new ≡ next_after next old
  pub own : (later : List Part) → letters_for number later ≤ letters number → kids_for number later ≤ kids number → HasOwnRoom number new later

-- parts with more room, one for one, where the first actor that they make gets this number
abbrev pub AreRoomier : (ℕ → ℕ) → (ℕ → ℕ) → ℕ → List Part → List Part → Type 0
AreRoomier letters kids number [] [] = Unit {0}
AreRoomier letters kids number (old ∷ olds) (new ∷ news) = IsRoomier letters kids number old new × AreRoomier letters kids (next_after number old) olds news
AreRoomier letters kids number _ _ = ⊥
