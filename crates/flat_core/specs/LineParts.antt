-- The parts of a line, by which its reader goes.
use Rattle.std.specs.Prelude.{◌≡◌, ℕ, ◌^◌, ◌<◌, Bool, false, not, ◌&&◌, ◌==◌, List, [], ◌∷◌, ◌++◌, IsTrue, decimal, codes}
use Rattle.std.specs.Char.{is_ascii_digit}
use Rattle.std.specs.List.{list_all}
use Rattle.xs_data.specs.Ascii.{space, digit_zero}
use Rattle.ordered_json.specs.declared.fault.JsonFault.{JsonFault}
use Rattle.flat_core.specs.declared.request_line.LineFault.{LineFault}
use Rattle.flat_core.specs.RequestLine.{spaced_text, is_caller, IsName, IsEvent}

-- no space is among the bytes
abbrev pub is_spaceless : List ℕ → Bool
is_spaceless bytes = list_all (λ b. not (b == space)) bytes

-- the bytes have a space, and these stand before and after the first one
pub record IsCut (bytes first rest : List ℕ) : Type 0 where
  pub joined : bytes ≡ first ++ space ∷ rest
  pub spaceless : IsTrue (is_spaceless first)

-- the bytes spell a number of 64 bits
abbrev pub IsNumber : List ℕ → ℕ → Type 0
IsNumber bytes number = (number < 2 ^ 64) × (bytes ≡ decimal number)

-- a digit stands first, and it is no 0 where another byte follows
abbrev pub begins_number : List ℕ → Bool
begins_number [] = false
begins_number (b ∷ []) = is_ascii_digit b
begins_number (b ∷ c ∷ bs) = is_ascii_digit b && not (b == digit_zero)

-- the bytes are a name
abbrev pub IsNameText : List ℕ → List ℕ → Type 0
IsNameText bytes name = (bytes ≡ name) × IsName name

-- the bytes are a caller
abbrev pub IsCallerText : List ℕ → List ℕ → Type 0
IsCallerText bytes caller = (bytes ≡ caller) × IsTrue (is_caller caller)

-- what stands after the word `start`, with the machine's id
abbrev pub IsStart : List ℕ → List ℕ → Type 0
IsStart bytes machine = IsName machine × (bytes ≡ spaced_text (machine ∷ codes "-" ∷ codes "null" ∷ []))

-- what stands after the word `send`, with the actor and the type of the event
abbrev pub IsSend : List ℕ → ℕ × List ℕ → Type 0
IsSend bytes sent =
    (sent.0 < 2 ^ 64) × (json : List ℕ) × IsEvent json sent.1
    × (bytes ≡ spaced_text (decimal sent.0 ∷ json ∷ []))

-- what a fault of the event's JSON comes to
abbrev pub line_fault : JsonFault → LineFault
line_fault JsonFault.Memory = LineFault.Memory
line_fault _ = LineFault.NotALine
