use Rattle.std.proofs.Common.{◌≡◌, ℕ, List, take}
use Rattle.std.specs.BTreeMap.{get_by_text}
use Rattle.std.specs.List.{position}
use Rattle.std.specs.Str.{bytes_eq}
use Rattle.ordered_json.specs.Words.{key_of}
use Rattle.flat_core.proofs.places.Places.of.Given as goal

-- the map has the first place of each key so far
abbrev pub invariant-loop-place : goal.invariant-loop-place
invariant-loop-place l = (key : List ℕ) → get_by_text l.places key ≡ position (λ m. bytes_eq (key_of m) key) (take l.place l.members)
