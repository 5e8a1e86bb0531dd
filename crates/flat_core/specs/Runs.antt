-- Runs of the abstract office: what happens in it one after the other, and which letters an actor is sent and takes.
use Rattle.std.specs.Prelude.{ℕ, ◌&&◌, ◌==◌, List, [], ◌∷◌, ◌++◌, take, if◌then◌else◌}
use Rattle.std.specs.Option.{option_map_or}
use Rattle.std.specs.Str.{bytes_eq}
use Rattle.flat_core.specs.declared.flat.FlatMachine.{FlatMachine}
use Rattle.flat_core.specs.declared.request.Ask.{Ask}
use Rattle.flat_core.specs.declared.request.Ask.TheVariants.{Start, Send}
use Rattle.flat_core.specs.declared.request.Reply.{Reply}
use Rattle.flat_core.specs.declared.request.Request.{Request}
use Rattle.flat_core.specs.declared.request.TheConstants.{STATUS_CREATED, STATUS_ACCEPTED}
use Rattle.flat_core.specs.declared.office.Event.TheVariants.{Init, Sent}
use Rattle.flat_core.specs.Office.{Letter, Office, actor_of, is_given, decided, took}

-- what happens in an office: a request is decided, or an actor has a turn
pub data Entry : Type 0 where
  decision : Request → Entry
  turn : ℕ → Entry

-- the office after an entry. The turn of an actor that isn't there changes nothing, nor does that of one for which no
-- letter waits
abbrev pub after_entry : List FlatMachine → Office → Entry → Office
after_entry machines office (decision request) = (decided machines office request.ask).after
after_entry machines office (turn actor) =
    if is_given office actor then took machines office actor else office

-- the office after a run
abbrev pub after : List FlatMachine → Office → List Entry → Office
after machines office [] = office
after machines office (entry ∷ entries) = after machines (after_entry machines office entry) entries

-- the letters that the entries of a run give, one after the other, each entry at the office that it meets
abbrev pub along : List FlatMachine → (Office → Entry → List Letter) → Office → List Entry → List Letter
along machines letters office [] = []
along machines letters office (entry ∷ entries) =
    letters office entry ++ along machines letters (after_entry machines office entry) entries

-- ---- letters

-- the letters that wait for an actor, oldest first
abbrev pub mailbox : Office → ℕ → List Letter
mailbox office actor = option_map_or (λ a. a.letters) (actor_of office actor) []

-- the letter that a reply tells of, if it is for this actor: one that was made gets its first letter, and a letter that was
-- accepted has the number that is told
abbrev pub letter_told : ℕ → Office → Ask → Reply → List Letter
letter_told actor office (Start id) reply =
    if (reply.status == STATUS_CREATED) && (reply.value == actor)
    then record { number = office.next_letter; event = Init } ∷ []
    else []
letter_told actor office (Send to event) reply =
    if (reply.status == STATUS_ACCEPTED) && (to == actor)
    then record { number = reply.value; event = Sent event } ∷ []
    else []

-- the letter that an entry sends to an actor
abbrev pub sent_to : List FlatMachine → ℕ → Office → Entry → List Letter
sent_to machines actor office (decision request) =
    letter_told actor office request.ask (decided machines office request.ask).reply
sent_to machines actor office (turn other) = []

-- from a caller to an actor
pub record Route : Type 0 where
  pub caller : List ℕ
  pub actor : ℕ

-- the letter that an entry sends from a caller to an actor
abbrev pub sent_along : List FlatMachine → Route → Office → Entry → List Letter
sent_along machines route office (decision request) =
    if bytes_eq request.caller route.caller
    then sent_to machines route.actor office (decision request)
    else []
sent_along machines route office (turn other) = []

-- the letter that an actor takes: in its turn the head of its mailbox
abbrev pub taken_by : ℕ → Office → Entry → List Letter
taken_by actor office (decision request) = []
taken_by actor office (turn other) = if other == actor then take 1 (mailbox office actor) else []
