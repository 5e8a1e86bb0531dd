-- The kinds of nodes, and the defaults of history nodes.
use Rattle.std.specs.Prelude.{ℕ, List, Option, Some, IsSomeAnd, slice_get, slice_set}
use Rattle.std.specs.Option.{option_map, option_map_or}
use Rattle.node_tree.specs.declared.node.Kind.{Kind}
use Rattle.node_tree.specs.declared.node.Kind.TheVariants.{Atomic, Compound, Parallel, Final, Shallow, Deep}
use Rattle.node_tree.specs.declared.node.Node.{Node}

-- the nodes of a tree in document order
abbrev pub Nodes : Type 0
Nodes = List Node

-- the kind of a node
abbrev pub kind_of : Nodes → ℕ → Option Kind
kind_of nodes n = option_map (λ (node : Node). node.kind) (slice_get nodes n)

-- shallow or deep
abbrev pub IsHistoryKind : Kind → Type 0
IsHistoryKind (Shallow default) = Unit {0}
IsHistoryKind (Deep default) = Unit {0}
IsHistoryKind Atomic = ⊥
IsHistoryKind (Compound initial) = ⊥
IsHistoryKind Parallel = ⊥
IsHistoryKind Final = ⊥

-- atomic or final
abbrev pub IsLeafKind : Kind → Type 0
IsLeafKind Atomic = Unit {0}
IsLeafKind Final = Unit {0}
IsLeafKind (Compound initial) = ⊥
IsLeafKind Parallel = ⊥
IsLeafKind (Shallow default) = ⊥
IsLeafKind (Deep default) = ⊥

-- a history node
abbrev pub IsHistory : Nodes → ℕ → Type 0
IsHistory nodes n = IsSomeAnd (kind_of nodes n) IsHistoryKind

-- a leaf is an atomic or final node
abbrev pub IsLeaf : Nodes → ℕ → Type 0
IsLeaf nodes n = IsSomeAnd (kind_of nodes n) IsLeafKind

-- the same kind of history node with this default; any other kind as it is
abbrev pub with_default : Kind → ℕ → Kind
with_default (Shallow default) n = Shallow (Some n)
with_default (Deep default) n = Deep (Some n)
with_default Atomic n = Atomic
with_default (Compound initial) n = Compound initial
with_default Parallel n = Parallel
with_default Final n = Final

-- the nodes, where one of them has this default, and all else is as it was
abbrev pub with_default_at : Nodes → ℕ → ℕ → Nodes
with_default_at nodes history n =
    option_map_or
    (λ (node : Node). slice_set nodes history (record node { kind = with_default node.kind n }))
    (slice_get nodes history) nodes
