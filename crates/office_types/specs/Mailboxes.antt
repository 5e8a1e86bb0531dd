-- Letters enter mailboxes at their ends, and get the next numbers.
use Rattle.std.specs.Prelude.{ℕ, ◌+◌, Bool, ◌&&◌, [], ◌∷◌, ◌++◌, length, drop, sum_by, Ok, Err, nat_le, if◌then◌else◌}
use Rattle.xs_model.specs.declared.value.Value.{Value}
use Rattle.office_types.specs.declared.limits.TheConstants.{MAX_LETTERS, MAX_NEXT_NUMBER}
use Rattle.office_types.specs.declared.office.ActorRecord.{ActorRecord}
use Rattle.office_types.specs.declared.office.Letter.{Letter}
use Rattle.office_types.specs.declared.office.OfficeState.{OfficeState}
use Rattle.office_types.specs.declared.office.Origin.{Origin}
use Rattle.office_types.specs.declared.outcome.FaultName.TheVariants.{LettersFull}
use Rattle.office_types.specs.Fitting.{Fitted}
use Rattle.office_types.specs.Records.{with_actor}

-- how many letters wait, in all mailboxes
abbrev pub waiting_letters : OfficeState → ℕ
waiting_letters state = sum_by (λ (actor : ActorRecord). length actor.mailbox) state.actors

-- so many letters more find room, and numbers
abbrev pub has_letter_room : OfficeState → ℕ → Bool
has_letter_room state more =
    nat_le (waiting_letters state + more) MAX_LETTERS && nat_le (state.next_letter + more) MAX_NEXT_NUMBER

-- the mailbox with a letter more at its end
abbrev pub with_mail : Letter → ActorRecord → ActorRecord
with_mail letter actor = record actor { mailbox = actor.mailbox ++ letter ∷ [] }

-- a letter enters the mailbox of an actor
abbrev pub with_letter : OfficeState → Origin → ℕ → Value → OfficeState
with_letter state origin number event =
    let letter : Letter = record { number = state.next_letter; origin = origin; event = event } in
    record (with_actor state number (with_mail letter)) { next_letter = state.next_letter + 1 }

-- a letter enters the mailbox of an actor, if it finds room and a number
abbrev pub with_letter_if_room : OfficeState → Origin → ℕ → Value → Fitted
with_letter_if_room state origin number event = if has_letter_room state 1 then Ok (with_letter state origin number event) else Err LettersFull

-- the head letter of an actor is taken out
abbrev pub without_head : OfficeState → ℕ → OfficeState
without_head state number = with_actor state number (λ (actor : ActorRecord). record actor { mailbox = drop 1 actor.mailbox })
