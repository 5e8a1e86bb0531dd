-- The rows of the tree that the nodes of a text are, with their ids.
use Rattle.std.specs.Prelude.{◌≡◌, ◌<◌, ◌^◌, ◌&&◌, ℕ, Bool, List, [], ◌∷◌, ◌++◌, Option, None, Some, IfSome, codes, fold, length, map, nat_eq, position, slice_get, slice_index_or, unwrap_or, if◌then◌else◌}
use Rattle.std.specs.List.{enumerate_from}
use Rattle.std.specs.Option.{option_eq, option_map_or}
use Rattle.std.specs.Str.{bytes_eq}
use Rattle.ordered_json.specs.Words.{MemberParts, get, get_text, place_of}
use Rattle.node_tree.specs.declared.node.Kind.{Kind}
use Rattle.node_tree.specs.declared.node.Kind.TheVariants as kind
use Rattle.node_tree.specs.declared.node.Node.{Node}
use Rattle.node_tree.specs.declared.node.TheConstants.{DOT}
use Rattle.machine_json.specs.declared.kind_word.NodeKind.{NodeKind}
use Rattle.machine_json.specs.declared.kind_word.NodeKind.TheVariants.{Atomic, Compound, Parallel, Final, History}
use Rattle.machine_json.specs.NodeKinds.{members_of, node_kind}
use Rattle.machine_json.specs.Nodes.{NodeParts}

-- ---- ids

-- the members of a node's object
abbrev pub fields_in : NodeParts → List MemberParts
fields_in node = members_of node.json

-- the id that the text gives a node
abbrev pub given_id : NodeParts → Option (List ℕ)
given_id node = get_text (codes "id") (fields_in node)

-- where the id of a node stands: at its value, or at the node for a default id
abbrev pub id_place : NodeParts → ℕ
id_place node = option_map_or place_of (get (codes "id") (fields_in node)) (place_of node.json)

-- a dot and a key behind the path of the parent; nothing for the root
abbrev pub path_below : List (List ℕ) → NodeParts → List ℕ
path_below before node =
    option_map_or (λ parent. slice_index_or before parent [] ++ DOT ∷ node.key) node.parent []

-- the keys that lead from the root to each node, a dot before each
abbrev pub node_paths : List NodeParts → List (List ℕ)
node_paths nodes =
    fold (λ (before : List (List ℕ)) (node : NodeParts). before ++ path_below before node ∷ []) [] nodes

-- the id of the root
abbrev pub root_id : List NodeParts → List ℕ
root_id [] = []
root_id (root ∷ nodes) = unwrap_or (given_id root) (codes "(machine)")

-- the id of a node: the one that the text gives, or that of the root and the path behind it
abbrev pub node_id : List NodeParts → ℕ → NodeParts → List ℕ
node_id nodes n node =
    unwrap_or (given_id node) (root_id nodes ++ slice_index_or (node_paths nodes) n [])

-- ---- kinds

-- the number of the child of a node that has a key
abbrev pub child_number : List NodeParts → ℕ → List ℕ → Option ℕ
child_number nodes n key =
    position (λ node. option_eq nat_eq node.parent (Some n) && bytes_eq node.key key) nodes

-- the key that the text says of the initial child of a node
abbrev pub initial_key : NodeParts → List ℕ
initial_key node = unwrap_or (get_text (codes "initial") (fields_in node)) []

-- the number of the child of a node that its text names as the initial one
abbrev pub initial_child : List NodeParts → ℕ → NodeParts → Option ℕ
initial_child nodes n node = child_number nodes n (initial_key node)

-- the number of the initial child of a node
abbrev pub initial_number : List NodeParts → ℕ → NodeParts → ℕ
initial_number nodes n node = unwrap_or (initial_child nodes n node) 0

-- whether a history node is deep
abbrev pub is_deep : NodeParts → Bool
is_deep node = bytes_eq (unwrap_or (get_text (codes "history") (fields_in node)) []) (codes "deep")

-- the kind of a node in the tree, from the number of its initial child, without the default of a
-- history node
abbrev pub kind_with_initial : ℕ → NodeParts → NodeKind → Kind
kind_with_initial initial node Atomic = kind.Atomic
kind_with_initial initial node Compound = kind.Compound initial
kind_with_initial initial node Parallel = kind.Parallel
kind_with_initial initial node Final = kind.Final
kind_with_initial initial node History =
    if is_deep node then kind.Deep None else kind.Shallow None

-- the kind of a node in the tree, without the default of a history node
abbrev pub row_kind : List NodeParts → ℕ → NodeParts → NodeKind → Kind
row_kind nodes n node kind = kind_with_initial (initial_number nodes n node) node kind

-- ---- rows

-- the row of a node
abbrev pub row_of : List NodeParts → ℕ → NodeParts → Node
row_of nodes n node = record {
  parent = node.parent;
  kind = row_kind nodes n node (node_kind node.json);
  key = node.key;
  id = node_id nodes n node;
}

-- a list of nodes that rows may be made of: each parent stands before its children, and a number
-- has 32 bits
pub record HaveEarlierParents (nodes : List NodeParts) : Type 0 where
  pub few : length nodes < 2 ^ 32
  pub parents : (n : ℕ) (node : NodeParts) → slice_get nodes n ≡ Some node
      → IfSome node.parent (λ parent. parent < n)

-- the rows of the nodes, in which the defaults of history nodes are open
abbrev pub open_rows : List NodeParts → List Node
open_rows nodes = map (λ (p : ℕ × NodeParts). row_of nodes p.0 p.1) (enumerate_from 0 nodes)
