-- The abstract office: actors that each have a machine, a state and a mailbox. Its decisions and its steps.
use Rattle.std.specs.Prelude.{ℕ, zero, suc, ◌+◌, ◌-◌, Bool, ◌&&◌, List, [], ◌∷◌, ◌++◌, length, drop, Option, None, Some, position, option_map, option_and_then, slice_get, nat_lt, nat_le, if◌then◌else◌}
use Rattle.std.specs.Option.{option_map_or}
use Rattle.std.specs.Str.{bytes_eq}
use Rattle.flat_core.specs.declared.flat.FlatMachine.{FlatMachine}
use Rattle.flat_core.specs.declared.request.Ask.{Ask}
use Rattle.flat_core.specs.declared.request.Ask.TheVariants.{Start, Send}
use Rattle.flat_core.specs.declared.request.Reply.{Reply}
use Rattle.flat_core.specs.declared.request.TheConstants.{STATUS_CREATED, STATUS_ACCEPTED, STATUS_NOT_FOUND}
use Rattle.flat_core.specs.declared.request.Word.{Word}
use Rattle.flat_core.specs.declared.request.Word.TheVariants as word
use Rattle.flat_core.specs.declared.office.Event.{Event}
use Rattle.flat_core.specs.declared.office.Event.TheVariants.{Init, Sent}
use Rattle.flat_core.specs.declared.office.Claim.{Claim}
use Rattle.flat_core.specs.Flat.{state_after}

-- a letter that waits
pub record Letter : Type 0 where
  pub number : ℕ
  pub event : Event

-- an actor: the place of its machine, the place of its state, which is none before the first step, and the letters that
-- wait for it, oldest first
pub record Actor : Type 0 where
  pub machine : ℕ
  pub state : Option ℕ
  pub letters : List Letter

-- the actors, of which the first is number 1, and the number that the next letter gets
pub record Office : Type 0 where
  pub actors : List Actor
  pub next_letter : ℕ

-- no actor, and no letter yet
abbrev pub empty_office : Office
empty_office = record { actors = []; next_letter = 1 }

-- the list with the item at a place changed
abbrev pub changed_at : {X : Type 0} → ℕ → (X → X) → List X → List X
changed_at place change [] = []
changed_at zero change (x ∷ xs) = change x ∷ xs
changed_at (suc place) change (x ∷ xs) = x ∷ changed_at place change xs

-- an actor has this number
abbrev pub is_given : Office → ℕ → Bool
is_given office number = nat_lt 0 number && nat_le number (length office.actors)

-- the actor of this number
abbrev pub actor_of : Office → ℕ → Option Actor
actor_of office number = if nat_lt 0 number then slice_get office.actors (number - 1) else None

-- the office with one actor changed
abbrev pub with_actor : Office → ℕ → (Actor → Actor) → Office
with_actor office number change = record {
  actors = changed_at (number - 1) change office.actors;
  next_letter = office.next_letter;
}

-- ---- decisions

-- a new actor of the machine, with the letter that begins it
abbrev pub with_new : Office → ℕ → Office
with_new office machine = record {
  actors = office.actors ++ record {
    machine = machine;
    state = None;
    letters = record { number = office.next_letter; event = Init } ∷ [];
  } ∷ [];
  next_letter = office.next_letter + 1;
}

-- a new letter at the end of an actor's mailbox
abbrev pub with_letter : Office → ℕ → List ℕ → Office
with_letter office number event = record {
  actors = changed_at (number - 1)
      (λ actor. record {
        machine = actor.machine;
        state = actor.state;
        letters = actor.letters ++ record { number = office.next_letter; event = Sent event } ∷ [];
      })
      office.actors;
  next_letter = office.next_letter + 1;
}

-- a reply, and the office after it
pub record Decision : Type 0 where
  pub reply : Reply
  pub after : Office

-- a status, a word and a value
abbrev pub reply_with : ℕ → Word → ℕ → Reply
reply_with status says value = record { status = status; word = says; value = value }

-- on a start: a new actor of the machine, or there is no such machine
abbrev pub start_decision : Office → Option ℕ → Decision
start_decision office None =
    record { reply = reply_with STATUS_NOT_FOUND word.Machine 0; after = office }
start_decision office (Some machine) = record {
  reply = reply_with STATUS_CREATED word.Actor (length office.actors + 1);
  after = with_new office machine;
}

-- the machine with this id, by its place
abbrev pub machine_of : List FlatMachine → List ℕ → Option ℕ
machine_of machines id = position (λ machine. bytes_eq machine.id id) machines

-- on a send: a new letter to the actor, or there is no such actor
abbrev pub send_decision : Office → ℕ → List ℕ → Decision
send_decision office actor event =
    if is_given office actor
    then record {
      reply = reply_with STATUS_ACCEPTED word.Letter office.next_letter;
      after = with_letter office actor event;
    }
    else record { reply = reply_with STATUS_NOT_FOUND word.Actor actor; after = office }

-- what is decided on a request
abbrev pub decided : List FlatMachine → Office → Ask → Decision
decided machines office (Start id) = start_decision office (machine_of machines id)
decided machines office (Send actor event) = send_decision office actor event

-- ---- steps

-- the state after an event: the first one enters the initial state, each later one moves from the state that there is
abbrev pub next_state : FlatMachine → Option ℕ → Event → Option ℕ
next_state machine state Init = Some machine.initial
next_state machine state (Sent event) = option_map (λ place. state_after machine place event) state

-- the state of an actor after an event
abbrev pub actor_state_after : List FlatMachine → Actor → Event → Option ℕ
actor_state_after machines actor event =
    option_map_or (λ machine. next_state machine actor.state event) (slice_get machines actor.machine) None

-- the actor after a step: it takes its head letter, and is in the state that the letter's event leads to
abbrev pub actor_after_step : List FlatMachine → Actor → Actor
actor_after_step machines actor = record {
  machine = actor.machine;
  state = option_map_or
      (λ letter. actor_state_after machines actor letter.event)
      (slice_get actor.letters 0)
      actor.state;
  letters = drop 1 actor.letters;
}

-- the office with an actor in this state, and its head letter taken
abbrev pub with_step : Office → ℕ → Option ℕ → Office
with_step office number state = with_actor office number (λ actor. record {
  machine = actor.machine;
  state = state;
  letters = drop 1 actor.letters;
})

-- the office after a step of an actor
abbrev pub took : List FlatMachine → Office → ℕ → Office
took machines office number = with_actor office number (actor_after_step machines)

-- ---- which actor is next

-- the number of an actor's head letter
abbrev pub head_of : Actor → Option ℕ
head_of actor = option_map (λ letter. letter.number) (slice_get actor.letters 0)

-- the one with the lesser letter
abbrev pub earlier_claim : Option Claim → Option Claim → Option Claim
earlier_claim None other = other
earlier_claim (Some claim) None = Some claim
earlier_claim (Some claim) (Some other) = Some (if nat_lt other.letter claim.letter then other else claim)

-- of the actors from this number on, the one with the least head letter
abbrev pub least_head : ℕ → List Actor → Option Claim
least_head number [] = None
least_head number (actor ∷ actors) =
    earlier_claim
    (option_map (λ letter. record { actor = number; letter = letter }) (head_of actor))
    (least_head (number + 1) actors)

-- the actor with the least head letter of all, and that letter
abbrev pub first_ready : Office → Option Claim
first_ready office = least_head 1 office.actors

-- ---- what is shown of an actor

-- nothing, since no actor has the number; that it waits for its first step; or its state's key
pub data Shown : Type 0 where
  never : Shown
  waiting : Shown
  key : List ℕ → Shown

-- what is shown of an actor of this machine in this state
abbrev pub shown_state : Option FlatMachine → Option ℕ → Shown
shown_state machine None = waiting
shown_state machine (Some place) =
    option_map_or (λ state. key state.key) (option_and_then (λ m. slice_get m.states place) machine) waiting

-- what is shown of the actor of this number
abbrev pub value_of : List FlatMachine → Office → ℕ → Shown
value_of machines office number =
    option_map_or
    (λ actor. shown_state (slice_get machines actor.machine) actor.state)
    (actor_of office number)
    never
