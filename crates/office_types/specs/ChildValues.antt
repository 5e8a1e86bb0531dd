-- What a node's state value is made of: the keys and values of its active children.
use Rattle.std.specs.Prelude.{ℕ, List, [], String, fold, map, reverse}
use Rattle.std.specs.String.{string_bytes}
use Rattle.std.specs.declared.alloc.Global.{Global}
use Rattle.xs_model.specs.declared.value.Value.{Value}
use Rattle.xs_model.specs.Rising.{put}
use Rattle.office_types.specs.declared.state_values.ChildValue.{ChildValue}
use Rattle.office_types.specs.StateValue.{ActiveNode, is_leaf_kind}

-- what the value of a node's parent needs of the node
abbrev pub child_value : ActiveNode → ChildValue
child_value child = record { key = child.node.key; is_leaf = is_leaf_kind child.node.kind; value = child.value }

-- those of children, the last one first
abbrev pub last_first : List ActiveNode → List ChildValue
last_first children = reverse (map child_value children)

-- the value of a region, put under its key
abbrev pub with_region : List (List ℕ × Value) → ChildValue → List (List ℕ × Value)
with_region pairs region = put pairs region.key region.value

-- the entries of an ordered map, put one after another
abbrev pub put_entries : List (String Global × Value) → List (List ℕ × Value)
put_entries entries = fold (λ (sorted : List (List ℕ × Value)) (entry : String Global × Value). put sorted (string_bytes entry.0) entry.1) [] entries
