-- Where a path leads in a value.
use Rattle.std.specs.Prelude.{ℕ, suc, ◌==◌, List, [], ◌∷◌, Option, Some, None, option_and_then, if◌then◌else◌, bytes_eq, decimal}
use Rattle.std.specs.List.{slice_split}
use Rattle.xs_data.specs.Ascii.{full_stop}
use Rattle.xs_model.specs.declared.value.Value.{Value, out-Value}
use Rattle.xs_model.specs.declared.value.Value.TheOpen.{Value-F}
use Rattle.xs_model.specs.Rising.{get}

-- the keys that dots join; the empty path has none
abbrev pub path_keys : List ℕ → List (List ℕ)
path_keys [] = []
path_keys (b ∷ bs) = slice_split (λ c. c == full_stop) (b ∷ bs)

-- the member whose place in decimal is the key, where the first has this place
abbrev pub member_at : List ℕ → ℕ → List Value → Option Value
member_at key place [] = None
member_at key place (member ∷ members) =
    if bytes_eq key (decimal place) then Some member else member_at key (suc place) members

-- what a key finds in one layer: a member of a list by its place from 0, a member of a map by its key
abbrev pub layer_step : List ℕ → Value-F Value → Option Value
layer_step key (Value-F.List members) = member_at key 0 members
layer_step key (Value-F.Map members) = get key members
layer_step key _ = None

-- what a key finds in a value
abbrev pub path_step : List ℕ → Value → Option Value
path_step key value = layer_step key (out-Value value)

-- what the keys find, one after another
abbrev pub walk : List (List ℕ) → Value → Option Value
walk [] value = Some value
walk (key ∷ keys) value = option_and_then (walk keys) (path_step key value)

-- what stands at a path
abbrev pub at_path : List ℕ → Value → Option Value
at_path path value = walk (path_keys path) value
