-- What the core keeps: one queue of letters for all actors, in the order of their numbers, from which each actor's
-- mailbox is read.
use Rattle.std.specs.Prelude.{ℕ, ◌+◌, ◌-◌, ◌<◌, ◌≤◌, List, [], ◌∷◌, Option, None, option_and_then, nat_eq, nat_lt, slice_get, if◌then◌else◌}
use Rattle.flat_core.specs.declared.flat.FlatMachine.{FlatMachine}
use Rattle.flat_core.specs.declared.office.FlatActor.{FlatActor}
use Rattle.flat_core.specs.declared.office.QueuedLetter.{QueuedLetter}
use Rattle.flat_core.specs.declared.office.Event.{Event}
use Rattle.flat_core.specs.Office.{Letter, Actor, Office, next_state}

-- what contracts see of a core: its machines, its office, and the room made for more actors and letters
pub record Kept : Type 0 where
  pub machines : List FlatMachine
  pub office : Office
  pub actor_room : ℕ
  pub letter_room : ℕ

-- the letters in the queue that wait for an actor
abbrev pub letters_for : ℕ → List QueuedLetter → List Letter
letters_for number [] = []
letters_for number (letter ∷ letters) =
    if nat_eq letter.actor number
    then record { number = letter.number; event = letter.event } ∷ letters_for number letters
    else letters_for number letters

-- the actors from this number on
abbrev pub actors_from : ℕ → List FlatActor → List QueuedLetter → List Actor
actors_from number [] letters = []
actors_from number (flat_actor ∷ flat_actors) letters =
    record { machine = flat_actor.machine; state = flat_actor.state; letters = letters_for number letters }
    ∷ actors_from (number + 1) flat_actors letters

-- the queue without the first letter of an actor
abbrev pub without_first : ℕ → List QueuedLetter → List QueuedLetter
without_first number [] = []
without_first number (letter ∷ letters) =
    if nat_eq letter.actor number then letters else letter ∷ without_first number letters

-- the state in which an event leaves the actor of this number, read from what the core keeps
abbrev pub state_behind : List FlatMachine → List FlatActor → ℕ → Event → Option ℕ
state_behind machines flat_actors number event = option_and_then
    (λ flat_actor. option_and_then
    (λ machine. next_state machine flat_actor.state event)
    (slice_get machines flat_actor.machine))
    (if nat_lt 0 number then slice_get flat_actors (number - 1) else None)

-- The letters stand in the order of their numbers, which are from `least` on and below `next`. Each is for one of the actors.
abbrev pub IsQueue : ℕ → ℕ → ℕ → List QueuedLetter → Type 0
IsQueue actors least next [] = least ≤ next
IsQueue actors least next (letter ∷ letters) =
    (least ≤ letter.number) × (0 < letter.actor) × (letter.actor ≤ actors)
    × IsQueue actors (letter.number + 1) next letters
