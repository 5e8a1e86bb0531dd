-- A tree of nodes as the list of its nodes in document order: what is below what, which lists are
-- outlines and which are trees, and what a look-up by id or by key finds.
use Rattle.std.specs.Prelude.{◌≡◌, ◌≢◌, ◌⊎◌, ◌<◌, ◌^◌, ◌&&◌, ℕ, zero, suc, List, length, slice_get, Option, Some, None, IfSome, MatchOption, nat_eq}
use Rattle.std.specs.Option.{option_map, option_and_then, option_eq}
use Rattle.std.specs.List.{All, position}
use Rattle.std.specs.Str.{bytes_eq}
use Rattle.node_tree.specs.declared.node.Node.{Node}
use Rattle.node_tree.specs.declared.node.Kind.{Kind}
use Rattle.node_tree.specs.declared.node.Kind.TheVariants.{Atomic, Compound, Parallel, Final, Shallow, Deep}

-- the parent of a node, where it has one
abbrev pub parent_of : List Node → ℕ → Option ℕ
parent_of nodes n = option_and_then (λ node. node.parent) (slice_get nodes n)

-- the id of a node
abbrev pub id_of : List Node → ℕ → Option (List ℕ)
id_of nodes n = option_map (λ node. node.id) (slice_get nodes n)

-- a node is a child of its parent
abbrev pub IsChild : List Node → ℕ → ℕ → Type 0
IsChild nodes child parent = parent_of nodes child ≡ Some parent

-- "below" is the closure of "child of"
pub data IsBelow (nodes : List Node) : ℕ → ℕ → Type 0 where
  child : (low high : ℕ) → IsChild nodes low high → IsBelow nodes low high
  further : (low parent high : ℕ) → IsChild nodes low parent → IsBelow nodes parent high
      → IsBelow nodes low high

-- a node is the other one, or below it
abbrev pub IsWithin : List Node → ℕ → ℕ → Type 0
IsWithin nodes low high = (low ≡ high) ⊎ IsBelow nodes low high

-- document order: the first row is the root, and the parent of each other row is the row before it
-- or an ancestor of that row
abbrev pub IsPlaced : List Node → ℕ → Type 0
IsPlaced nodes zero = parent_of nodes 0 ≡ None
IsPlaced nodes (suc before) =
    (parent : ℕ) × IsChild nodes (suc before) parent × IsWithin nodes before parent

-- the rows before a number are in their places
abbrev pub ArePlaced : List Node → ℕ → Type 0
ArePlaced nodes end = (n : ℕ) → n < end → IsPlaced nodes n

-- the nodes that a row's kind names are there: its initial child is a child of it, its history default
-- a row
abbrev pub NamesNodes : List Node → ℕ → Kind → Type 0
NamesNodes nodes n Atomic = Unit {0}
NamesNodes nodes n (Compound initial) = IsChild nodes initial n
NamesNodes nodes n Parallel = Unit {0}
NamesNodes nodes n Final = Unit {0}
NamesNodes nodes n (Shallow default) = IfSome default (λ d. d < length nodes)
NamesNodes nodes n (Deep default) = IfSome default (λ d. d < length nodes)

-- a row names nodes that are there
abbrev pub HasNames : List Node → ℕ → Type 0
HasNames nodes n = IfSome (slice_get nodes n) (λ node. NamesNodes nodes n node.kind)

-- a row is in its place, and names nodes that are there
pub record IsRow (nodes : List Node) (n : ℕ) : Type 0 where
  pub placed : IsPlaced nodes n
  pub names : HasNames nodes n

-- no earlier row has the id of this one
abbrev pub HasNewId : List Node → ℕ → Type 0
HasNewId nodes n = (earlier : ℕ) → earlier < n → id_of nodes earlier ≢ id_of nodes n

-- the first of the numbers below `end` that breaks a rule
pub record IsFirstBreach (Rule : ℕ → Type 0) (end n : ℕ) : Type 0 where
  pub inside : n < end
  pub broken : Rule n → ⊥
  pub before : (earlier : ℕ) → earlier < n → Rule earlier

-- each row is in its place, and names nodes that are there
abbrev pub AreRows : List Node → Type 0
AreRows nodes = (n : ℕ) → n < length nodes → IsRow nodes n

-- each row has an id of its own
abbrev pub HaveNewIds : List Node → Type 0
HaveNewIds nodes = (n : ℕ) → n < length nodes → HasNewId nodes n

-- an outline: rows in document order that name nodes that are there
pub record IsOutline (nodes : List Node) : Type 0 where
  pub some : 0 < length nodes
  pub few : length nodes < 2 ^ 32
  pub rows : AreRows nodes

-- a tree: an outline in which each id stands once
pub record IsTree (nodes : List Node) : Type 0 where
  pub outline : IsOutline nodes
  pub ids : HaveNewIds nodes

-- the first row that is out of its place or names a node that is not there
abbrev pub IsFirstMisplaced : List Node → ℕ → Type 0
IsFirstMisplaced nodes = IsFirstBreach (IsRow nodes) (length nodes)

-- the first row whose id an earlier one has
abbrev pub IsFirstRepeated : List Node → ℕ → Type 0
IsFirstRepeated nodes = IsFirstBreach (HasNewId nodes) (length nodes)

-- the first row whose id an earlier one has, or none
abbrev pub TellsRepeated : List Node → Option ℕ → Type 0
TellsRepeated nodes repeated = MatchOption repeated (HaveNewIds nodes) (IsFirstRepeated nodes)

-- the numbers are those of nodes
abbrev pub AreNodes : List Node → List ℕ → Type 0
AreNodes nodes numbers = All (λ n. n < length nodes) numbers

-- the first node with this id
abbrev pub id_at : List Node → List ℕ → Option ℕ
id_at nodes id = position (λ node. bytes_eq node.id id) nodes

-- the first child of a node with this key
abbrev pub child_of : List Node → ℕ → List ℕ → Option ℕ
child_of nodes n key =
    position (λ node. option_eq nat_eq node.parent (Some n) && bytes_eq node.key key) nodes
