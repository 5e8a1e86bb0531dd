-- Which actor takes its turn next.
use Rattle.std.specs.Prelude.{ℕ, Bool, not, List, Option, None, filter, nat_eq, nat_lt, slice_get, if◌then◌else◌}
use Rattle.std.specs.List.{filter_map, list_any, reduce}
use Rattle.std.specs.Option.{option_map, option_or}
use Rattle.office_types.specs.declared.office.ActorRecord.{ActorRecord}
use Rattle.office_types.specs.declared.office.Letter.{Letter}
use Rattle.office_types.specs.declared.office.OfficeState.{OfficeState}
use Rattle.office_types.specs.Records.{is_ready_actor}

-- a ready actor, and the number of its head letter
pub record Head : Type 0 where
  pub actor : ℕ
  pub letter : ℕ

-- an actor with this head letter
abbrev pub head_with : ActorRecord → Letter → Head
head_with actor letter = record { actor = actor.number; letter = letter.number }

-- the head of an actor, if it is ready
abbrev pub head_at : ActorRecord → Option Head
head_at actor = if is_ready_actor actor then option_map (head_with actor) (slice_get actor.mailbox 0) else None

-- the heads of all ready actors
abbrev pub heads_of : OfficeState → List Head
heads_of state = filter_map head_at state.actors

-- the one with the lesser letter
abbrev pub earlier : Head → Head → Head
earlier head other = if nat_lt other.letter head.letter then other else head

-- the actor with the least letter; none exactly where there is no head
abbrev pub first_of : List Head → Option ℕ
first_of heads = option_map (λ (head : Head). head.actor) (reduce earlier heads)

-- the ready actor with the least head letter
abbrev pub first_ready : OfficeState → Option ℕ
first_ready state = first_of (heads_of state)

-- the actor of the head is among these
abbrev pub is_busy : List ℕ → Head → Bool
is_busy busy head = list_any (nat_eq head.actor) busy

-- of the ready actors that aren't busy the one with the least head letter, or else of the busy ones
abbrev pub next_ready : OfficeState → List ℕ → Option ℕ
next_ready state busy = option_or (first_of (filter (λ (head : Head). not (is_busy busy head)) (heads_of state))) (first_ready state)
