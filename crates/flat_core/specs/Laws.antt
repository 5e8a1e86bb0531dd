-- The laws of the abstract office, and of the line of a request.
use Rattle.std.specs.Prelude.{◌≡◌, ℕ, ◌+◌, ◌≤◌, List, [], ◌∷◌, ◌++◌, filter, fold, nat_eq, Option, None, Some, IfSome, slice_get}
use Rattle.std.specs.List.{list_any}
use Rattle.flat_core.specs.declared.flat.FlatMachine.{FlatMachine}
use Rattle.flat_core.specs.declared.office.Claim.{Claim}
use Rattle.flat_core.specs.declared.request.Request.{Request}
use Rattle.flat_core.specs.Office.{Letter, Actor, Office, empty_office, actor_of, next_state, first_ready}
use Rattle.flat_core.specs.Plan.{head_at}
use Rattle.flat_core.specs.RequestLine.{IsRequest}
use Rattle.flat_core.specs.Runs.{Entry, Route, after, along, mailbox, sent_to, sent_along, taken_by}

-- the numbers rise, from `least` on
abbrev pub RiseFrom : ℕ → List Letter → Type 0
RiseFrom least [] = Unit {0}
RiseFrom least (letter ∷ letters) = (least ≤ letter.number) × RiseFrom (letter.number + 1) letters

-- the state that letters lead to, one after the other, from no state
abbrev pub state_by : FlatMachine → List Letter → Option ℕ
state_by machine letters = fold (λ state letter. next_state machine state letter.event) None letters

-- all letters that an actor was sent in a run, in the order in which they were sent
abbrev pub all_sent : List FlatMachine → List Entry → ℕ → List Letter
all_sent machines entries actor = along machines (sent_to machines actor) empty_office entries

-- all letters that it took, in the order in which it took them
abbrev pub all_taken : List FlatMachine → List Entry → ℕ → List Letter
all_taken machines entries actor = along machines (taken_by actor) empty_office entries

-- the state of an actor is the fold of the letters that it took over its machine; these and those that wait for it are all
-- that it was sent, and their numbers rise
pub record FollowsItsLetters (machines : List FlatMachine) (entries : List Entry) (number : ℕ) (actor : Actor) : Type 0 where
  pub machine : FlatMachine
  pub machine_of : slice_get machines actor.machine ≡ Some machine
  pub state : actor.state ≡ state_by machine (all_taken machines entries number)
  pub letters : all_taken machines entries number ++ actor.letters ≡ all_sent machines entries number
  pub order : RiseFrom 1 (all_sent machines entries number)

-- each actor after each run follows its letters
abbrev pub ActorsFollowTheirLetters : Type 0
ActorsFollowTheirLetters =
    (machines : List FlatMachine) (entries : List Entry) (number : ℕ) →
    IfSome (actor_of (after machines empty_office entries) number) (FollowsItsLetters machines entries number)

-- the letters whose numbers stand in a list of letters too
abbrev pub among : List Letter → List Letter → List Letter
among chosen letters = filter (λ letter. list_any (λ other. nat_eq other.number letter.number) chosen) letters

-- what an actor took of a caller's letters, and then what waits of them, are all that the caller sent to it, in the order
-- sent; no number stands twice
pub record TakenAsSent (machines : List FlatMachine) (entries : List Entry) (number : ℕ) (own : List Letter) : Type 0 where
  pub letters : among own (all_taken machines entries number)
      ++ among own (mailbox (after machines empty_office entries) number) ≡ own
  pub order : RiseFrom 1 own

-- letters of one caller to one actor are taken in the order sent, each once
abbrev pub CallersAreServedInOrder : Type 0
CallersAreServedInOrder =
    (machines : List FlatMachine) (entries : List Entry) (route : Route) →
    TakenAsSent machines entries route.actor (along machines (sent_along machines route) empty_office entries)

-- the claim is that of an actor's head letter, and no head letter has a lesser number; without a claim no letter waits
abbrev pub IsLeastHead : Office → Option Claim → Type 0
IsLeastHead office None = (number : ℕ) → head_at office number ≡ None
IsLeastHead office (Some claim) =
    (head_at office claim.actor ≡ Some claim.letter)
    × ((number letter : ℕ) → head_at office number ≡ Some letter → claim.letter ≤ letter)

-- the next actor has the least head letter of all
abbrev pub NextActorHasLeastLetter : Type 0
NextActorHasLeastLetter = (office : Office) → IsLeastHead office (first_ready office)

-- a line is the line of one request at most
abbrev pub RequestIsUnique : Type 0
RequestIsUnique = (line : List ℕ) (a b : Request) → IsRequest line a → IsRequest line b → a ≡ b
