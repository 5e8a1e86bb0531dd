-- Lists of named values.
use Rattle.std.specs.Prelude.{ℕ, List, String, map, bytes_eq}
use Rattle.std.specs.String.{string_bytes}
use Rattle.std.specs.declared.alloc.Global.{Global}
use Rattle.std.specs.Map.{remove_entry}

-- the entries, with each name as its bytes
abbrev pub named_values : {X : Type 0} → List (String Global × X) → List (List ℕ × X)
named_values entries = map (λ e. (string_bytes e.0, e.1)) entries

-- the pairs but the first under the key
abbrev pub without : {X : Type 0} → List ℕ → List (List ℕ × X) → List (List ℕ × X)
without key pairs = remove_entry (bytes_eq key) pairs
