-- The tree of a machine that was read, beside the rows of its nodes.
use Rattle.std.proofs.Common.{◌≡◌, ◌<◌, ℕ, List, Option, None, Some, length, refl, sym, ap, ◌∙◌, subst, inl, inr}
use Rattle.std.specs.Prelude.{IsSomeAnd, option_and_then, option_map, slice_get}
use Rattle.std.proofs.lemmas.Option.{slice_get_cases, slice_get_past, slice_get_within}
use Rattle.ordered_json.specs.declared.json.OrderedJson.{OrderedJson}
use Rattle.node_tree.specs.declared.node.Kind.{Kind}
use Rattle.node_tree.specs.declared.node.Kind.TheVariants.{Atomic, Compound, Parallel, Final, Shallow, Deep}
use Rattle.node_tree.specs.declared.node.Node.{Node}
use Rattle.node_tree.specs.Kinds.{IsHistory, IsHistoryKind, kind_of, with_default}
use Rattle.node_tree.specs.Nodes.{IsBelow, IsOutline, IsTree, IsWithin, parent_of}
use Rattle.node_tree.proofs.DefaultLemmas.{below-along}
use Rattle.machine_json.specs.declared.machine.Machine.{Machine}
use Rattle.machine_json.specs.declared.machine.UnlinkedNode.{UnlinkedNode}
use Rattle.machine_json.specs.Faultless.{AreFaultless}
use Rattle.machine_json.specs.Machines.{IsTreeOf, MeansMachine, named_default, row_with_default, with_named_default}
use Rattle.machine_json.specs.NodeKinds.{node_kind}
use Rattle.machine_json.specs.Nodes.{NodeParts}
use Rattle.machine_json.specs.Rows.{open_rows, row_kind, row_of}
use Rattle.machine_json.proofs.DefaultLemmas.{ids_new}
use Rattle.machine_json.proofs.OutlineLemmas.{is_outline, item_at, length_rows}
use Rattle.machine_json.proofs.RowLemmas.{row_at}

-- ---- the nodes of a machine that was read

-- the nodes of a text that means a machine have no fault
pub faultless_nodes : (text : OrderedJson) (machine : Machine) (m : MeansMachine text machine) → AreFaultless m.nodes
faultless_nodes text machine m = record {
  text = text;
  are_nodes = m.are_nodes;
  first_pass = m.first_pass;
  second_pass = m.second_pass;
}

pub rows_outline : (nodes : List NodeParts) → AreFaultless nodes → IsOutline (open_rows nodes)
rows_outline nodes sound =
    is_outline nodes (record { text = sound.text; are_nodes = sound.are_nodes; first_pass = sound.first_pass })

pub rows_tree : (nodes : List NodeParts) → AreFaultless nodes → IsTree (open_rows nodes)
rows_tree nodes sound = record {
  outline = rows_outline nodes sound;
  ids = ids_new nodes (λ fault has. sound.second_pass fault (nodes, sound.are_nodes, inl has));
}

-- what is said of a node is said of one of the text
pub read_node : (text : OrderedJson) (machine : Machine) (m : MeansMachine text machine) (n : ℕ) (said : UnlinkedNode)
    → slice_get machine.nodes n ≡ Some said → (node : NodeParts) × (slice_get m.nodes n ≡ Some node)
read_node text machine m n said at = item_at m.nodes n (subst (λ k. n < k) m.count (slice_get_within machine.nodes n said at))

-- ---- what a default leaves of a row

parent_kept : (d : Option ℕ) (row : Node) → (row_with_default d row).parent ≡ row.parent
parent_kept None row = refl
parent_kept (Some d) row = refl

-- what a default leaves of a kind, it leaves of the kind of a row
kind_kept : (P : Kind → Type 0) → ((kind : Kind) (d : ℕ) → P kind → P (with_default kind d)) → (d : Option ℕ) (row : Node)
    → P row.kind → P (row_with_default d row).kind
kind_kept P keeps None row is = is
kind_kept P keeps (Some d) row is = keeps row.kind d is

-- what a kind has with a default and without it, the kind of a row has too
kind_before : (P : Kind → Type 0) → ((kind : Kind) (d : ℕ) → P (with_default kind d) → P kind) → (d : Option ℕ) (row : Node)
    → P (row_with_default d row).kind → P row.kind
kind_before P back None row is = is
kind_before P back (Some d) row is = back row.kind d is

history_with : (kind : Kind) (d : ℕ) → IsHistoryKind kind → IsHistoryKind (with_default kind d)
history_with Atomic d is = is
history_with (Compound initial) d is = is
history_with Parallel d is = is
history_with Final d is = is
history_with (Shallow default) d is = tt
history_with (Deep default) d is = tt

history_without : (kind : Kind) (d : ℕ) → IsHistoryKind (with_default kind d) → IsHistoryKind kind
history_without Atomic d is = is
history_without (Compound initial) d is = is
history_without Parallel d is = is
history_without Final d is = is
history_without (Shallow default) d is = tt
history_without (Deep default) d is = tt

parallel_with : (kind : Kind) (d : ℕ) → kind ≡ Parallel → with_default kind d ≡ Parallel
parallel_with Atomic d is = is
parallel_with (Compound initial) d is = is
parallel_with Parallel d is = is
parallel_with Final d is = is
parallel_with (Shallow default) d is = absurd (cc)
parallel_with (Deep default) d is = absurd (cc)

-- ---- the tree beside the rows

and_of : (P : Kind → Type 0) (kind : Option Kind) (k : Kind) → kind ≡ Some k → P k → IsSomeAnd kind P
and_of P kind k is holds = let Q : Option Kind → Type 0 = λ o. IsSomeAnd o P in subst Q (sym is) holds

of_and : (P : Kind → Type 0) (kind : Option Kind) (k : Kind) → kind ≡ Some k → IsSomeAnd kind P → P k
of_and P kind k is holds = let Q : Option Kind → Type 0 = λ o. IsSomeAnd o P in subst Q is holds

some_parallel : (kind : Option Kind) → IsSomeAnd kind (λ k. k ≡ Parallel) → kind ≡ Some Parallel
some_parallel None is = absurd is
some_parallel (Some k) is = ap Some is

module _ (nodes : List NodeParts) (tree : List Node) (is : IsTreeOf nodes tree) where
  -- the row of a node in the tree
  pub tree_row : (n : ℕ) (node : NodeParts) → slice_get nodes n ≡ Some node
      → slice_get tree n ≡ Some (with_named_default (open_rows nodes) n (row_of nodes n node) node)
  tree_row n node at = is.rows n node (row_of nodes n node) at (row_at nodes n node at)

  pub kind_in_tree : (n : ℕ) (node : NodeParts) → slice_get nodes n ≡ Some node
      → kind_of tree n ≡ Some (row_with_default (named_default (open_rows nodes) n node) (row_of nodes n node)).kind
  kind_in_tree n node at = ap (option_map (λ (row : Node). row.kind)) (tree_row n node at)

  pub kind_in_rows : (n : ℕ) (node : NodeParts) → slice_get nodes n ≡ Some node
      → kind_of (open_rows nodes) n ≡ Some (row_kind nodes n node (node_kind node.json))
  kind_in_rows n node at = ap (option_map (λ (row : Node). row.kind)) (row_at nodes n node at)

  pub length_tree : length tree ≡ length (open_rows nodes)
  length_tree = is.count ∙ sym (length_rows nodes)

  -- a node of the tree is one of the text
  pub tree_node : (n : ℕ) (row : Node) → slice_get tree n ≡ Some row → (node : NodeParts) × (slice_get nodes n ≡ Some node)
  tree_node n row at = item_at nodes n (subst (λ k. n < k) is.count (slice_get_within tree n row at))

  -- each node has the parent that it has in the rows
  pub tree_parent : (n : ℕ) → parent_of tree n ≡ parent_of (open_rows nodes) n
  tree_parent n = elim (slice_get_cases nodes n).1 [
    | inl found ↦
        ap (option_and_then (λ (row : Node). row.parent)) (tree_row n found.0 found.2)
        ∙ parent_kept (named_default (open_rows nodes) n found.0) (row_of nodes n found.0)
        ∙ sym (ap (option_and_then (λ (row : Node). row.parent)) (row_at nodes n found.0 found.2))
    | inr past ↦
        ap (option_and_then (λ (row : Node). row.parent)) (slice_get_past tree n (rw is.count past.0))
        ∙ sym (ap (option_and_then (λ (row : Node). row.parent)) (slice_get_past (open_rows nodes) n (rw (length_rows nodes) past.0)))
  ]

  -- and is below what it is below in the rows
  pub tree_below : (low high : ℕ) → IsBelow (open_rows nodes) low high → IsBelow tree low high
  tree_below low high below = below-along (open_rows nodes) tree tree_parent low high below

  pub rows_below : (low high : ℕ) → IsBelow tree low high → IsBelow (open_rows nodes) low high
  rows_below low high below = below-along tree (open_rows nodes) (λ n. sym (tree_parent n)) low high below

  pub rows_within : (low high : ℕ) → IsWithin tree low high → IsWithin (open_rows nodes) low high
  rows_within low high (inl same) = inl same
  rows_within low high (inr below) = inr (rows_below low high below)

  pub tree_within : (low high : ℕ) → IsWithin (open_rows nodes) low high → IsWithin tree low high
  tree_within low high (inl same) = inl same
  tree_within low high (inr below) = inr (tree_below low high below)

  -- what a default leaves of a kind
  kind_moved : (P : Kind → Type 0) → ((kind : Kind) (d : ℕ) → P kind → P (with_default kind d)) → (n : ℕ)
      → IsSomeAnd (kind_of (open_rows nodes) n) P → IsSomeAnd (kind_of tree n) P
  kind_moved P keeps n holds = elim (slice_get_cases nodes n).1 [
    | inl found ↦
        and_of P (kind_of tree n) _ (kind_in_tree n found.0 found.2)
        (kind_kept P keeps (named_default (open_rows nodes) n found.0) (row_of nodes n found.0)
        (of_and P (kind_of (open_rows nodes) n) _ (kind_in_rows n found.0 found.2) holds))
    | inr past ↦
        (let none : kind_of (open_rows nodes) n ≡ None = ap (option_map (λ (row : Node). row.kind)) (slice_get_past (open_rows nodes) n (rw (length_rows nodes) past.0)) in
        let Q : Option Kind → Type 0 = λ o. IsSomeAnd o P in absurd (subst Q none holds))
  ]

  kind_back : (P : Kind → Type 0) → ((kind : Kind) (d : ℕ) → P (with_default kind d) → P kind) → (n : ℕ)
      → IsSomeAnd (kind_of tree n) P → IsSomeAnd (kind_of (open_rows nodes) n) P
  kind_back P back n holds = elim (slice_get_cases nodes n).1 [
    | inl found ↦
        and_of P (kind_of (open_rows nodes) n) _ (kind_in_rows n found.0 found.2)
        (kind_before P back (named_default (open_rows nodes) n found.0) (row_of nodes n found.0)
        (of_and P (kind_of tree n) _ (kind_in_tree n found.0 found.2) holds))
    | inr past ↦
        (let none : kind_of tree n ≡ None = ap (option_map (λ (row : Node). row.kind)) (slice_get_past tree n (rw is.count past.0)) in
        let Q : Option Kind → Type 0 = λ o. IsSomeAnd o P in absurd (subst Q none holds))
  ]

  pub tree_history : (n : ℕ) → IsHistory (open_rows nodes) n → IsHistory tree n
  tree_history n history = kind_moved IsHistoryKind history_with n history

  pub rows_history : (n : ℕ) → IsHistory tree n → IsHistory (open_rows nodes) n
  rows_history n history = kind_back IsHistoryKind history_without n history

  pub tree_parallel : (n : ℕ) → kind_of (open_rows nodes) n ≡ Some Parallel → kind_of tree n ≡ Some Parallel
  tree_parallel n parallel =
      some_parallel (kind_of tree n) (kind_moved (λ k. k ≡ Parallel) parallel_with n (and_of (λ k. k ≡ Parallel) (kind_of (open_rows nodes) n) Parallel parallel refl))
