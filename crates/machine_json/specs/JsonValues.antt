-- The value that JSON gives where any JSON may stand.
use Rattle.std.specs.Prelude.{ℕ, List, [], String, fold, map}
use Rattle.std.specs.String.{string_bytes}
use Rattle.std.specs.declared.alloc.Global.{Global}
use Rattle.xs_model.specs.declared.value.Value.{Value}
use Rattle.xs_model.specs.declared.value.Value.TheVariants as value
use Rattle.xs_model.specs.Rising.{put}
use Rattle.ordered_json.specs.declared.json.OrderedJson.{OrderedJson, OrderedJson-F, fold-OrderedJson}
use Rattle.ordered_json.specs.declared.json.Member.{Member-F}

-- a member of an object, as its key and its value
abbrev pub member_value : Member-F Value (List ℕ × Value) → List ℕ × Value
member_value member = (member.key, member.value)

-- pairs put one after another, so that they stand by their keys, and the last one under a key counts
abbrev pub put_each : List (List ℕ × Value) → List (List ℕ × Value)
put_each members =
    fold
    (λ (sorted : List (List ℕ × Value)) (member : List ℕ × Value). put sorted member.0 member.1)
    [] members

-- members by their keys
abbrev pub members_value : List (List ℕ × Value) → Value
members_value members = value.Map (put_each members)

-- values under strings, as values under the strings' bytes
abbrev pub pairs_of : List (String Global × Value) → List (List ℕ × Value)
pairs_of entries =
    map (λ (entry : String Global × Value). let pair : List ℕ × Value = (string_bytes entry.0, entry.1) in pair) entries

-- one layer of JSON, without its place
abbrev pub layer_value : OrderedJson-F Value (List ℕ × Value) → Value
layer_value (OrderedJson-F.Null place) = value.Null
layer_value (OrderedJson-F.Bool place truth) = value.Bool truth
layer_value (OrderedJson-F.Int place number) = value.Int number
layer_value (OrderedJson-F.Text place text) = value.Text text
layer_value (OrderedJson-F.List place items) = value.List items
layer_value (OrderedJson-F.Object place members) = members_value members

-- JSON as a value: without places, the members of objects by their keys
abbrev pub json_value : OrderedJson → Value
json_value = fold-OrderedJson Value (List ℕ × Value) layer_value member_value
