-- Lemmas on an office of flat machines.
use Rattle.std.proofs.Common.{◌≡◌, ℕ, List, ◌++◌, map, Bool, true, false, refl, ap, ◌∙◌}
use Rattle.std.specs.Prelude.{Option, Some, option_map, option_and_then}
use Rattle.std.specs.Bool.{then_some}
use Rattle.std.specs.List.{list_all, list_any, position}
use Rattle.std.specs.Option.{option_copied}
use Rattle.std.specs.Str.{bytes_eq}
use denote.Ref.{Bor}
use Rattle.ordered_json.specs.declared.json.Member.{Member}
use Rattle.ordered_json.specs.declared.json.OrderedJson.{OrderedJson}
use Rattle.ordered_json.specs.Words.{member_parts, key_of}
use Rattle.flat_core.specs.FlatText.{member_keys, place_of_state}
use Rattle.flat_core.proofs.MapLemmas.{position-map}

-- what is read so far, put before what the rest means
abbrev pub with_front : {Y : Type 0} → List Y → Option (List Y) → Option (List Y)
with_front front rest = option_map (λ ys. front ++ ys) rest

-- where a state stands among the members of `states`
pub place_among : (members : List Member) (key : List ℕ) → place_of_state (member_keys (map member_parts members)) key ≡ position (λ m. bytes_eq (key_of m) key) members
unfolding place_of_state
place_among members key =
    position-map (λ k. bytes_eq k key) (λ m. m.key) (map member_parts members) ∙ position-map (λ m. bytes_eq m.key key) member_parts members
