-- The parts of a line, by which its reader goes.
use Rattle.std.specs.Prelude.{◌≡◌, ℕ, Bool, false, not, ◌&&◌, ◌==◌, List, [], ◌∷◌, ◌++◌, Option, None, Some, IsTrue, codes, decimal}
use Rattle.std.specs.List.{list_all}
use Rattle.xs_data.specs.Ascii.{space, digit_zero}
use Rattle.xs_model.specs.declared.value.Value.{Value}
use Rattle.ordered_json.specs.declared.fault.JsonFault.{JsonFault}
use Rattle.office_types.specs.declared.entry.Entry.{Entry}
use Rattle.office_types.specs.declared.entry.Entry.TheVariants.{Decided, Step}
use Rattle.office_types.specs.declared.line_fault.LineFault.{LineFault}
use Rattle.office_types.specs.declared.request.Ask.{Ask}
use Rattle.office_types.specs.Callers.{is_caller, is_digit}
use Rattle.office_types.specs.JsonValues.{MeansValue}
use Rattle.office_types.specs.Limits.{is_short}
use Rattle.office_types.specs.RequestLines.{IsRequestLine, SpellsValue, ask_parts, ask_value, ask_word, canonical_line, spaced}
use Rattle.office_types.specs.Requests.{HasAskForm, IsNumber, IsSystemName, IsVisibleName}

-- no space is among the bytes
abbrev pub is_spaceless : List ℕ → Bool
is_spaceless bytes = list_all (λ byte. not (byte == space)) bytes

-- the bytes have a space, and these stand before and after the first one
pub record IsCut (bytes first rest : List ℕ) : Type 0 where
  pub joined : bytes ≡ first ++ space ∷ rest
  pub spaceless : IsTrue (is_spaceless first)

-- the bytes spell a number of 64 bits
abbrev pub SpellsNumber : List ℕ → ℕ → Type 0
SpellsNumber bytes number = IsNumber number × (bytes ≡ decimal number)

-- a digit stands first, and it is no 0 where another byte follows
abbrev pub begins_number : List ℕ → Bool
begins_number [] = false
begins_number (byte ∷ []) = is_digit byte
begins_number (first ∷ second ∷ others) = is_digit first && not (first == digit_zero)

-- the bytes are a caller
abbrev pub IsCallerText : List ℕ → List ℕ → Type 0
IsCallerText bytes caller = (bytes ≡ caller) × IsTrue (is_caller caller)

-- the bytes are a name with no space
abbrev pub IsNameText : List ℕ → List ℕ → Type 0
IsNameText bytes name = (bytes ≡ name) × IsVisibleName name

-- the bytes are a system name, or `-` for none
abbrev pub IsSystemText : List ℕ → Option (List ℕ) → Type 0
IsSystemText bytes None = bytes ≡ codes "-"
IsSystemText bytes (Some name) = (bytes ≡ name) × IsSystemName name

-- the bytes mean a value that is short
abbrev pub IsShortText : List ℕ → Value → Type 0
IsShortText bytes value = MeansValue bytes value × IsTrue (is_short value)

-- a number, and a value behind it
pub record IsNumberedText (bytes : List ℕ) (pair : ℕ × Value) : Type 0 where
  pub number : IsNumber pair.0
  pub json : List ℕ
  pub value : IsShortText json pair.1
  pub spelled : bytes ≡ decimal pair.0 ++ space ∷ json

-- an ask of this word, with what stands behind the word
pub record IsAskBehind (word rest : List ℕ) (ask : Ask) : Type 0 where
  pub form : HasAskForm ask
  pub said : word ≡ ask_word ask
  pub json : List ℕ
  pub meaning : SpellsValue json (ask_value ask)
  pub spelled : rest ≡ spaced (ask_parts ask json)

-- an ask, its word first
pub record IsAskText (text : List ℕ) (ask : Ask) : Type 0 where
  pub form : HasAskForm ask
  pub json : List ℕ
  pub meaning : SpellsValue json (ask_value ask)
  pub spelled : text ≡ spaced (ask_word ask ∷ ask_parts ask json)

-- the decision on the request whose canonical line this is
abbrev pub IsDecidedText : List ℕ → Entry → Type 0
IsDecidedText line (Decided request) = (line ≡ canonical_line request) × IsRequestLine (canonical_line request) request
IsDecidedText line (Step actor) = ⊥

-- the step of the actor whose number this is
abbrev pub IsStepText : List ℕ → Entry → Type 0
IsStepText bytes (Decided request) = ⊥
IsStepText bytes (Step actor) = SpellsNumber bytes actor

-- what a fault of the JSON comes to
abbrev pub line_fault : JsonFault → LineFault
line_fault JsonFault.Memory = LineFault.Memory
line_fault _ = LineFault.NotALine
