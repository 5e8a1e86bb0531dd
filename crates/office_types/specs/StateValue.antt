-- The state value of a configuration, XState's `state.value`.
use Rattle.std.specs.Prelude.{ℕ, Bool, true, false, List, [], ◌∷◌, Some, filter, fold, nat_eq, slice_get, if◌then◌else◌}
use Rattle.std.specs.Option.{option_map_or, option_eq}
use Rattle.node_tree.specs.declared.node.Kind.{Kind}
use Rattle.node_tree.specs.declared.node.Kind.TheVariants as kind
use Rattle.node_tree.specs.declared.node.Node.{Node}
use Rattle.xs_model.specs.declared.value.Value.{Value}
use Rattle.xs_model.specs.declared.value.Value.TheVariants as value
use Rattle.xs_model.specs.Rising.{put}

-- an active node, and its value
pub record ActiveNode : Type 0 where
  pub node : Node
  pub value : Value

-- a node of this kind can be active with no active child
abbrev pub is_leaf_kind : Kind → Bool
is_leaf_kind kind.Atomic = true
is_leaf_kind kind.Final = true
is_leaf_kind (kind.Compound initial) = false
is_leaf_kind kind.Parallel = false
is_leaf_kind (kind.Shallow default) = false
is_leaf_kind (kind.Deep default) = false

-- a map from a child's key to its value
abbrev pub keyed_value : ActiveNode → Value
keyed_value child = value.Map ((child.node.key, child.value) ∷ [])

-- what the active child of a compound node makes its value: its key if it is a leaf, else a map from its key to its value
abbrev pub value_by_child : ActiveNode → Value
value_by_child child = if is_leaf_kind child.node.kind then value.Text child.node.key else keyed_value child

-- a map from the key of each region to its value
abbrev pub value_by_regions : List ActiveNode → Value
value_by_regions regions = value.Map (fold (λ (members : List (List ℕ × Value)) (region : ActiveNode). put members region.node.key region.value) [] regions)

-- the value of a node of this kind whose active children are these: a leaf's is `{}`
abbrev pub value_by_kind : Kind → List ActiveNode → Value
value_by_kind (kind.Compound initial) (child ∷ others) = value_by_child child
value_by_kind kind.Parallel children = value_by_regions children
value_by_kind _ _ = value.Map []

-- the active children of a node
abbrev pub children_among : ℕ → List ActiveNode → List ActiveNode
children_among n later = filter (λ (child : ActiveNode). option_eq nat_eq child.node.parent (Some n)) later

-- an active node before those that stand after it, its active children among them
abbrev pub with_node : List Node → ℕ → List ActiveNode → List ActiveNode
with_node nodes n later =
    option_map_or (λ (node : Node). record { node = node; value = value_by_kind node.kind (children_among n later) } ∷ later) (slice_get nodes n) later

-- the active nodes in document order, each with its value
unfoldable pub active_nodes : List Node → List ℕ → List ActiveNode
active_nodes nodes [] = []
active_nodes nodes (n ∷ later) = with_node nodes n (active_nodes nodes later)

-- the value of the first one, the root; before the first step there is none, and the value is null
abbrev pub first_value : List ActiveNode → Value
first_value [] = value.Null
first_value (root ∷ others) = root.value

-- the state value of a configuration
abbrev pub state_value : List Node → List ℕ → Value
state_value nodes configuration = first_value (active_nodes nodes configuration)
