-- The lines of requests, and the texts of entries.
use Rattle.std.specs.Prelude.{◌≡◌, ℕ, ◌≤◌, List, [], ◌∷◌, ◌++◌, length, Option, None, Some, Result, Ok, Err, ⊤, codes, decimal}
use Rattle.std.specs.List.{join_with_byte}
use Rattle.std.specs.Option.{unwrap_or}
use Rattle.xs_data.specs.Ascii.{space}
use Rattle.xs_model.specs.declared.value.Value.{Value}
use Rattle.xs_model.specs.Compact.{compact_text}
use Rattle.office_types.specs.declared.entry.Entry.{Entry}
use Rattle.office_types.specs.declared.entry.Entry.TheVariants.{Decided, Step}
use Rattle.office_types.specs.declared.limits.TheConstants.{MAX_LINE}
use Rattle.office_types.specs.declared.line_fault.LineFault.{LineFault}
use Rattle.office_types.specs.declared.line_fault.LineFault.TheVariants.{NotALine, Memory}
use Rattle.office_types.specs.declared.request.Ask.{Ask}
use Rattle.office_types.specs.declared.request.Ask.TheVariants as ask
use Rattle.office_types.specs.declared.request.Request.{Request}
use Rattle.office_types.specs.JsonValues.{MeansValue}
use Rattle.office_types.specs.Requests.{HasRequestForm, IsNumber}

-- parts with one space between them
abbrev pub spaced : List (List ℕ) → List ℕ
spaced = join_with_byte space

-- a system name in a line
abbrev pub system_text : Option (List ℕ) → List ℕ
system_text system = unwrap_or system (codes "-")

-- the word of an ask
abbrev pub ask_word : Ask → List ℕ
ask_word (ask.Start machine system input) = codes "start"
ask_word (ask.Send actor event) = codes "send"
ask_word (ask.Resolve item output) = codes "resolve"
ask_word (ask.Reject item error) = codes "reject"
ask_word (ask.At moment) = codes "at"

-- the parts behind the word, with this text of the ask's JSON, if it has one
abbrev pub ask_parts : Ask → List ℕ → List (List ℕ)
ask_parts (ask.Start machine system input) json = machine ∷ system_text system ∷ json ∷ []
ask_parts (ask.Send actor event) json = decimal actor ∷ json ∷ []
ask_parts (ask.Resolve item output) json = decimal item ∷ json ∷ []
ask_parts (ask.Reject item error) json = decimal item ∷ json ∷ []
ask_parts (ask.At moment) json = decimal moment ∷ []

-- the value that an ask's JSON means, if it has one
abbrev pub ask_value : Ask → Option Value
ask_value (ask.Start machine system input) = Some input
ask_value (ask.Send actor event) = Some event
ask_value (ask.Resolve item output) = Some output
ask_value (ask.Reject item error) = Some error
ask_value (ask.At moment) = None

-- the line of a request, with this text of its JSON, if it has one
abbrev pub line_with : Request → List ℕ → List ℕ
line_with request json = spaced (request.caller ∷ decimal request.number ∷ ask_word request.ask ∷ ask_parts request.ask json)

-- the text means the ask's JSON; without one it is empty, and stands nowhere
abbrev pub SpellsValue : List ℕ → Option Value → Type 0
SpellsValue json None = json ≡ []
SpellsValue json (Some value) = MeansValue json value

-- the line of a request: `CALLER NUMBER`, and what is asked for; white space may stand round its JSON
pub record IsRequestLine (line : List ℕ) (request : Request) : Type 0 where
  pub short : length line ≤ MAX_LINE
  pub form : HasRequestForm request
  pub json : List ℕ
  pub meaning : SpellsValue json (ask_value request.ask)
  pub spelled : line ≡ line_with request json

-- a request: one that a line gives
abbrev pub IsRequest : Request → Type 0
IsRequest request = (line : List ℕ) × IsRequestLine line request

-- a line is the line of one request at most
abbrev pub RequestIsUnique : Type 0
RequestIsUnique = (line : List ℕ) (a b : Request) → IsRequestLine line a → IsRequestLine line b → a ≡ b

-- ---- canonical lines, and entries

-- an ask's JSON in compact text
abbrev pub canonical_json : Option Value → List ℕ
canonical_json None = []
canonical_json (Some value) = compact_text value

-- the line of a request with its JSON in compact text
abbrev pub canonical_line : Request → List ℕ
canonical_line request = line_with request (canonical_json (ask_value request.ask))

-- an entry in a journal: `R ` and a canonical line, or `S ` and an actor's number
abbrev pub entry_text : Entry → List ℕ
entry_text (Decided request) = codes "R " ++ canonical_line request
entry_text (Step actor) = codes "S " ++ decimal actor

-- the payload is the text of an entry, whose request's canonical line is a line of that request
abbrev pub IsEntryText : List ℕ → Entry → Type 0
IsEntryText payload (Decided request) = (payload ≡ entry_text (Decided request)) × IsRequestLine (canonical_line request) request
IsEntryText payload (Step actor) = (payload ≡ entry_text (Step actor)) × IsNumber actor

-- ---- reading

-- what was read has the property, or nothing has it; memory may run out anywhere
abbrev pub Reads : {X : Type 0} → (X → Type 0) → Result X LineFault → Type 0
Reads P (Ok x) = P x
Reads {X} P (Err NotALine) = (x : X) → P x → ⊥
Reads P (Err Memory) = ⊤
