-- The base text of an office.
use Rattle.std.specs.Prelude.{◌≡◌, ℕ, List, [], ◌∷◌, IsUtf8, codes, map, filter, is_none}
use Rattle.serde_json.specs.Data.{Data, string}
use Rattle.serde_json.specs.Written.{compact_text}
use Rattle.office_types.specs.declared.office.ActorRecord.{ActorRecord}
use Rattle.office_types.specs.declared.office.Caller.{Caller}
use Rattle.office_types.specs.declared.office.OfficeState.{OfficeState}
use Rattle.office_types.specs.declared.office.Timer.{Timer}
use Rattle.office_types.specs.declared.request.Reply.{Reply}
use Rattle.office_types.specs.declared.request.Word.{Word}
use Rattle.office_types.specs.declared.request.Word.TheVariants as word
use Rattle.office_types.specs.Definitions.{OfficeDefinitions}
use Rattle.office_types.specs.ValidOffice.{IsValidOffice}
use Rattle.snapshot_text.specs.Snapshots.{nested_snapshot}
use Rattle.snapshot_text.specs.ValueData.{list_data, map_data, number_data, optional_data, value_data}

-- ---- replies, callers and timers

-- the word of a reply, in lower case
abbrev pub reply_word : Word → List ℕ
reply_word word.Actor = codes "actor"
reply_word word.Letter = codes "letter"
reply_word word.Item = codes "item"
reply_word word.Due = codes "due"
reply_word word.Machine = codes "machine"
reply_word word.Stopped = codes "stopped"
reply_word word.Reserved = codes "reserved"
reply_word word.Closed = codes "closed"
reply_word word.Moment = codes "moment"
reply_word word.Name = codes "name"
reply_word word.Actors = codes "actors"
reply_word word.Letters = codes "letters"
reply_word word.Gap = codes "gap"
reply_word word.Callers = codes "callers"
reply_word word.Replies = codes "replies"
reply_word word.Entries = codes "entries"
reply_word word.Disk = codes "disk"
reply_word word.Journal = codes "journal"
reply_word word.Memory = codes "memory"

-- a kept reply
abbrev pub reply_data : Reply → Data
reply_data reply = list_data (number_data reply.status ∷ string (reply_word reply.word) ∷ number_data reply.value ∷ [])

-- a caller with its replies
abbrev pub caller_data : Caller → Data
caller_data caller = map_data (
    (codes "name", string caller.name)
    ∷ (codes "replies", list_data (map reply_data caller.replies))
    ∷ []
    )

-- a timer that stands
abbrev pub timer_data : Timer → Data
timer_data timer = map_data (
    (codes "due", number_data timer.due)
    ∷ (codes "event", value_data timer.event)
    ∷ (codes "id", optional_data string timer.id)
    ∷ (codes "order", number_data timer.order)
    ∷ (codes "owner", number_data timer.owner)
    ∷ (codes "target", number_data timer.target)
    ∷ []
    )

-- ---- the office

-- the numbers of the actors without a parent
abbrev pub top_actors : OfficeState → List ℕ
top_actors state =
    map (λ (actor : ActorRecord). actor.number) (filter (λ (actor : ActorRecord). is_none actor.parent) state.actors)

-- an office under definitions that have this text
abbrev pub office_data : OfficeDefinitions → OfficeState → List ℕ → Data
office_data definitions state text = map_data (
    (codes "actors", list_data (map (nested_snapshot definitions state) (top_actors state)))
    ∷ (codes "callers", list_data (map caller_data state.callers))
    ∷ (codes "defs", string text)
    ∷ (codes "entries", number_data state.entries)
    ∷ (codes "moment", number_data state.moment)
    ∷ (codes "nextActor", number_data state.next_actor)
    ∷ (codes "nextLetter", number_data state.next_letter)
    ∷ (codes "nextTimer", number_data state.next_timer)
    ∷ (codes "timers", list_data (map timer_data state.timers))
    ∷ []
    )

-- the base text of an office under definitions that have this text
abbrev pub base_text : OfficeDefinitions → OfficeState → List ℕ → List ℕ
base_text definitions state text = compact_text (office_data definitions state text)

-- a base text: that of a valid office
pub record IsBaseText (definitions : OfficeDefinitions) (base : List ℕ) (state : OfficeState) (text : List ℕ) : Type 0 where
  pub valid : IsValidOffice definitions state
  pub utf8 : IsUtf8 text
  pub written : base ≡ base_text definitions state text
