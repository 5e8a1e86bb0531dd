-- The line of a request.
use Rattle.std.specs.Prelude.{◌≡◌, ℕ, ◌^◌, ◌<◌, ◌≤◌, Bool, false, not, ◌&&◌, ◌||◌, ◌==◌, List, [], ◌∷◌, ◌++◌, length, Option, None, Some, Result, Ok, Err, ⊤, codes, option_and_then, All, IsTrue, IsUtf8, decimal, nat_le, nat_lt, nat_eq, if◌then◌else◌}
use Rattle.std.specs.Char.{is_ascii_digit, is_ascii_lowercase}
use Rattle.std.specs.List.{list_all, starts_with, join_with_byte}
use Rattle.std.specs.Str.{bytes_eq}
use Rattle.json.specs.Print.{quoted}
use Rattle.xs_data.specs.Ascii.{space, hyphen}
use Rattle.xs_model.specs.declared.limits.TheConstants.{MAX_EVENT_TEXT, MAX_NAME}
use Rattle.ordered_json.specs.declared.json.OrderedJson.{OrderedJson}
use Rattle.ordered_json.specs.Words.{MemberParts, as_text, as_object}
use Rattle.ordered_json.specs.Meaning.{Means}
use Rattle.flat_core.specs.declared.request.Ask.{Ask}
use Rattle.flat_core.specs.declared.request.Ask.TheVariants.{Start, Send}
use Rattle.flat_core.specs.declared.request.Request.{Request}
use Rattle.flat_core.specs.declared.request_line.LineFault.{LineFault}
use Rattle.flat_core.specs.declared.request_line.LineFault.TheVariants.{NotALine, Memory}
use Rattle.flat_core.specs.declared.request_line.TheConstants.{MAX_LINE, MAX_CALLER}

-- the parts of a line, with one space between them
abbrev pub spaced_text : List (List ℕ) → List ℕ
spaced_text = join_with_byte space

-- a to z, 0 to 9, or `-`
abbrev pub is_caller_byte : ℕ → Bool
is_caller_byte b = is_ascii_lowercase b || (is_ascii_digit b || (b == hyphen))

-- a letter from a to z, then bytes of a caller; at most 64 in all
abbrev pub is_caller : List ℕ → Bool
is_caller [] = false
is_caller (b ∷ bs) =
    is_ascii_lowercase b && (nat_lt (length bs) MAX_CALLER && list_all is_caller_byte bs)

-- 1 to 256 bytes of text, each of them above a space
pub record IsName (name : List ℕ) : Type 0 where
  pub text : IsUtf8 name
  pub some : 0 < length name
  pub short : length name ≤ MAX_NAME
  pub visible : All (λ b. space < b) name

-- the type of an event: of an object whose one member is `type`, a text
abbrev pub type_in : List MemberParts → Option (List ℕ)
type_in (member ∷ []) = if bytes_eq member.key (codes "type") then as_text member.value else None
type_in _ = None

-- the compact text of an event of this type
abbrev pub event_text : List ℕ → List ℕ
event_text type = codes "{\"type\":" ++ quoted type ++ codes "}"

-- its compact text isn't too long, and the type isn't one of the machines' own
abbrev pub is_sendable : List ℕ → Bool
is_sendable type =
    nat_le (length (event_text type)) MAX_EVENT_TEXT && not (starts_with nat_eq type (codes "xstate."))

-- a JSON text that means an event of this type, which may be sent
pub record IsEvent (text type : List ℕ) : Type 0 where
  pub json : OrderedJson
  pub means : Means text json
  pub type_is : option_and_then type_in (as_object json) ≡ Some type
  pub sendable : IsTrue (is_sendable type)

-- what is asked for: `start MACHINE - null`, or `send ACTOR JSON`
abbrev pub IsAsk : List ℕ → Ask → Type 0
IsAsk text (Start machine) =
    IsName machine
    × (text ≡ spaced_text (codes "start" ∷ machine ∷ codes "-" ∷ codes "null" ∷ []))
IsAsk text (Send actor event) =
    (actor < 2 ^ 64) × (json : List ℕ) × IsEvent json event
    × (text ≡ spaced_text (codes "send" ∷ decimal actor ∷ json ∷ []))

-- the line of a request: the caller, its number, and what it asks for
pub record IsRequest (line : List ℕ) (request : Request) : Type 0 where
  pub short : length line ≤ MAX_LINE
  pub caller : IsTrue (is_caller request.caller)
  pub numbered : 0 < request.number
  pub number : request.number < 2 ^ 64
  pub ask : List ℕ
  pub asked : IsAsk ask request.ask
  pub spelled : line ≡ spaced_text (request.caller ∷ decimal request.number ∷ ask ∷ [])

-- What was read has the property, or nothing has it; memory may run out anywhere.
abbrev pub ReadsLine : {X : Type 0} → (X → Type 0) → Result X LineFault → Type 0
ReadsLine P (Ok x) = P x
ReadsLine {X} P (Err NotALine) = (x : X) → P x → ⊥
ReadsLine P (Err Memory) = ⊤
