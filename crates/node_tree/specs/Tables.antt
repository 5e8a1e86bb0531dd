-- What an outline keeps beside its rows, so that each look-up is short.
use Rattle.std.specs.Prelude.{◌≡◌, ◌↔◌, ◌<◌, ◌≤◌, ℕ, List, length, slice_index, slice_index_or, Option, Vec}
use Rattle.std.specs.BTreeMap.{BTreeMap, get_by}
use Rattle.std.specs.Cmp.Lexicographic.{slice_cmp}
use Rattle.std.specs.Ordering.{nat_cmp}
use Rattle.std.specs.declared.alloc.Global.{Global}
use Rattle.node_tree.specs.declared.node.Node.{Node}
use Rattle.node_tree.specs.declared.outline.Outline.TheInside.{Inside}
use Rattle.node_tree.specs.Nodes.{IsOutline, IsBelow, TellsRepeated, id_at, child_of}

-- a map from names to nodes
abbrev pub NodesByName : Type 0
NodesByName = BTreeMap (Vec ℕ Global) ℕ

-- the node that a name stands for
abbrev pub node_named : NodesByName → List ℕ → Option ℕ
node_named names name = get_by (λ held. slice_cmp nat_cmp name held.items) names

-- the rows between a node and this number are below the node, and no row from it on is
pub record IsEnd (nodes : List Node) (n end : ℕ) : Type 0 where
  pub after : n < end
  pub inside : end ≤ length nodes
  pub below : (k : ℕ) → n < k → k < end → IsBelow nodes k n
  pub last : IsBelow nodes end n → ⊥

-- in document order the nodes below a node follow it, up to where its subtree ends
abbrev pub AreEnds : List Node → List ℕ → Type 0
AreEnds nodes ends = (low high : ℕ) → low < length nodes → high < length nodes →
    IsBelow nodes low high ↔ ((high < low) × (low < slice_index ends high))

-- each id stands for its node
abbrev pub AreIds : List Node → NodesByName → Type 0
AreIds nodes ids = (id : List ℕ) → node_named ids id ≡ id_at nodes id

-- for each node, each key stands for the first child with that key
pub record AreChildren (nodes : List Node) (children : List NodesByName) : Type 0 where
  pub len : length children ≡ length nodes
  pub keys : (n : ℕ) (d : NodesByName) (key : List ℕ) → n < length nodes →
      node_named (slice_index_or children n d) key ≡ child_of nodes n key

-- the rows are an outline, and the tables are theirs
pub record HasTables (outline : Inside) : Type 0 where
  pub rows : IsOutline outline.nodes.items
  pub ends_len : length outline.ends.items ≡ length outline.nodes.items
  pub below : AreEnds outline.nodes.items outline.ends.items
  pub by_id : AreIds outline.nodes.items outline.ids
  pub repeated : TellsRepeated outline.nodes.items outline.repeated
  pub by_key : AreChildren outline.nodes.items outline.children.items
