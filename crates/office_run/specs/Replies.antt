-- What the abstract office answers to lines, byte for byte.
use Rattle.std.specs.Prelude.{ℕ, List, [], ◌∷◌, ◌++◌, Option, None, Some, decimal}
use Rattle.std.specs.Option.{option_map_or}
use Rattle.json.specs.Print.{quoted}
use Rattle.xs_data.specs.Ascii.{line_feed}
use Rattle.flat_core.specs.declared.flat.FlatMachine.{FlatMachine}
use Rattle.flat_core.specs.declared.request.Request.{Request as Asked}
use Rattle.flat_core.specs.declared.request.Reply.{Reply}
use Rattle.flat_core.specs.declared.request.Word.{Word}
use Rattle.flat_core.specs.declared.request.Word.TheVariants as word
use Rattle.flat_core.specs.declared.request.TheConstants.{STATUS_NOT_FOUND}
use Rattle.flat_core.specs.declared.office.Claim.{Claim}
use Rattle.flat_core.specs.Office.{Office, decided, took, first_ready, value_of, Shown, never, waiting, key}
use Rattle.flat_core.specs.RequestLine.{spaced_text}
use Rattle.office_run.specs.declared.replies.TheConstants.{ACTOR, LETTER, MACHINE, STEP, VALUE, ACTIVE, NULL, EMPTY, IDLE, MALFORMED}
use Rattle.office_run.specs.declared.script.Line.{Line}
use Rattle.office_run.specs.declared.script.Line.TheVariants.{Request, Turn, Value, Malformed}

-- a line of these parts
abbrev pub line_of : List (List ℕ) → List ℕ
line_of parts = spaced_text parts ++ line_feed ∷ []

-- the word that says what a value is
abbrev pub word_text : Word → List ℕ
word_text word.Actor = ACTOR.now
word_text word.Letter = LETTER.now
word_text word.Machine = MACHINE.now

-- the caller and its number, and the reply
abbrev pub reply_line : Asked → Reply → List ℕ
reply_line request reply = line_of (
    request.caller ∷ decimal request.number
    ∷ decimal reply.status ∷ word_text reply.word ∷ decimal reply.value ∷ []
    )

-- the actor that was stepped and the letter that it took, if one was ready
abbrev pub step_line : Option Claim → List ℕ
step_line None = IDLE.now
step_line (Some claim) =
    line_of (STEP.now ∷ decimal claim.actor ∷ decimal claim.letter ∷ ACTIVE.now ∷ [])

-- the status, the state and the context of an actor
abbrev pub value_line : ℕ → Shown → List ℕ
value_line actor never = line_of (decimal STATUS_NOT_FOUND ∷ ACTOR.now ∷ decimal actor ∷ [])
value_line actor waiting =
    line_of (VALUE.now ∷ decimal actor ∷ ACTIVE.now ∷ NULL.now ∷ NULL.now ∷ [])
value_line actor (key text) =
    line_of (VALUE.now ∷ decimal actor ∷ ACTIVE.now ∷ quoted text ∷ EMPTY.now ∷ [])

-- the answer to a line
abbrev pub answer_line : List FlatMachine → Office → Line → List ℕ
answer_line machines office (Request request) =
    reply_line request (decided machines office request.ask).reply
answer_line machines office Turn = step_line (first_ready office)
answer_line machines office (Value actor) = value_line actor (value_of machines office actor)
answer_line machines office Malformed = MALFORMED.now

-- the office after a line
abbrev pub office_after : List FlatMachine → Office → Line → Office
office_after machines office (Request request) = (decided machines office request.ask).after
office_after machines office Turn =
    option_map_or (λ claim. took machines office claim.actor) (first_ready office) office
office_after machines office (Value actor) = office
office_after machines office Malformed = office

-- the answers to lines, one after the other
abbrev pub answers : List FlatMachine → Office → List Line → List ℕ
answers machines office [] = []
answers machines office (line ∷ lines) =
    answer_line machines office line ++ answers machines (office_after machines office line) lines

-- the office after lines
abbrev pub office_after_all : List FlatMachine → Office → List Line → Office
office_after_all machines office [] = office
office_after_all machines office (line ∷ lines) =
    office_after_all machines (office_after machines office line) lines
