-- How an input is cut into lines, by its bytes alone.
use Rattle.std.specs.Prelude.{ℕ, Bool, ◌==◌, ◌||◌, List, [], ◌∷◌, ◌++◌, if◌then◌else◌}
use Rattle.std.specs.List.{list_any, flat_map}
use Rattle.xs_data.specs.Ascii.{line_feed}

-- whether a byte ends a line
abbrev pub is_feed : ℕ → Bool
is_feed byte = byte == line_feed

-- whether a line feed is among the bytes
abbrev pub has_feed : List ℕ → Bool
has_feed bytes = list_any is_feed bytes

-- a byte at the front of the first line, if there is one
abbrev pub with_first : ℕ → List (List ℕ) → List (List ℕ)
with_first byte [] = []
with_first byte (line ∷ lines) = (byte ∷ line) ∷ lines

-- the lines that a line feed ends, without it
abbrev pub ended_lines : List ℕ → List (List ℕ)
ended_lines [] = []
ended_lines (byte ∷ bytes) =
    if is_feed byte then [] ∷ ended_lines bytes else with_first byte (ended_lines bytes)

-- the bytes behind the last line feed
abbrev pub rest_of : List ℕ → List ℕ
rest_of [] = []
rest_of (byte ∷ bytes) =
    if is_feed byte || has_feed bytes then rest_of bytes else byte ∷ rest_of bytes

-- a rest is a line too, if it has a byte
abbrev pub last_line : List ℕ → List (List ℕ)
last_line [] = []
last_line (byte ∷ bytes) = (byte ∷ bytes) ∷ []

-- the lines of an input that was read to its end
abbrev pub all_lines : List ℕ → List (List ℕ)
all_lines bytes = ended_lines bytes ++ last_line (rest_of bytes)

-- lines, each with the line feed that ends it
abbrev pub with_feeds : List (List ℕ) → List ℕ
with_feeds lines = flat_map (λ line. line ++ line_feed ∷ []) lines
