-- The lines of a script.
use Rattle.std.specs.Prelude.{◌≡◌, ℕ, ◌^◌, ◌<◌, List, [], ◌∷◌, codes, decimal}
use Rattle.flat_core.specs.RequestLine.{spaced_text, IsRequest}
use Rattle.office_run.specs.declared.script.Line.{Line}
use Rattle.office_run.specs.declared.script.Line.TheVariants.{Request, Turn, Value, Malformed}

-- the bytes are a line of one of the forms
abbrev pub IsForm : List ℕ → Line → Type 0
IsForm bytes (Request request) = IsRequest bytes request
IsForm bytes Turn = bytes ≡ codes "turn"
IsForm bytes (Value actor) = (actor < 2 ^ 64) × (bytes ≡ spaced_text (codes "value" ∷ decimal actor ∷ []))
IsForm bytes Malformed = ⊥

-- what the bytes of a line are: of one of the forms, or of none
abbrev pub IsLine : List ℕ → Line → Type 0
IsLine bytes (Request request) = IsForm bytes (Request request)
IsLine bytes Turn = IsForm bytes Turn
IsLine bytes (Value actor) = IsForm bytes (Value actor)
IsLine bytes Malformed = (line : Line) → IsForm bytes line → ⊥

-- each of the lines is what was read
abbrev pub AreRead : List (List ℕ) → List Line → Type 0
AreRead [] [] = Unit {0}
AreRead (bytes ∷ lines) (line ∷ read) = IsLine bytes line × AreRead lines read
AreRead [] (line ∷ read) = ⊥
AreRead (bytes ∷ lines) [] = ⊥

-- a line `value ACTOR`
abbrev pub IsValueLine : List ℕ → ℕ → Type 0
IsValueLine bytes actor = IsForm bytes (Value actor)
