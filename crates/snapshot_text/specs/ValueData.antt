-- Values, numbers and names as JSON.
use Rattle.std.specs.Prelude.{ℕ, ℤ, pos, negsuc, List, [], ◌∷◌, Option}
use Rattle.std.specs.Option.{option_map_or}
use Rattle.serde_json.specs.Data.{unsigned, negative, Data, null, boolean, number, string, array, object, Members, no_members, member}
use Rattle.serde_json.specs.View.{items_of}
use Rattle.xs_model.specs.declared.value.Value.{Value, fold-Value}
use Rattle.xs_model.specs.declared.value.Value.TheOpen.{Value-F}

-- members, each a key and what stands under it
abbrev pub members_data : List (List ℕ × Data) → Members
members_data [] = no_members
members_data (m ∷ ms) = member m.0 m.1 (members_data ms)

-- a map with these members
abbrev pub map_data : List (List ℕ × Data) → Data
map_data members = object (members_data members)

-- a list of these
abbrev pub list_data : List Data → Data
list_data items = array (items_of items)

-- a number that isn't below zero
abbrev pub number_data : ℕ → Data
number_data n = number (unsigned n)

-- a whole number
abbrev pub integer_data : ℤ → Data
integer_data (pos n) = number (unsigned n)
integer_data (negsuc n) = number (negative (negsuc n))

-- what there is, or null
abbrev pub optional_data : {X : Type 0} → (X → Data) → Option X → Data
optional_data data_of option = option_map_or data_of option null

-- a value whose parts are these
abbrev pub layer_data : Value-F Data → Data
layer_data Value-F.Null = null
layer_data (Value-F.Bool truth) = boolean truth
layer_data (Value-F.Int n) = integer_data n
layer_data (Value-F.Text text) = string text
layer_data (Value-F.List items) = list_data items
layer_data (Value-F.Map members) = map_data members

-- a value
abbrev pub value_data : Value → Data
value_data = fold-Value Data layer_data
