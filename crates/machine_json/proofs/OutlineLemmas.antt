-- The rows of a text without faults of the first pass are an outline.
use Rattle.std.proofs.Common.{◌≡◌, ◌<◌, ◌≤◌, ◌^◌, ℕ, Bool, true, false, ◌&&◌, List, [], Option, None, Some, get_or, length, refl, sym, ap, ◌∙◌, subst, arith, inl, inr}
use Rattle.std.specs.Prelude.{IfSome, nat_eq, option_and_then, position, slice_get, unwrap_or}
use Rattle.std.specs.Option.{option_eq}
use Rattle.std.specs.Str.{bytes_eq}
use Rattle.std.proofs.lemmas.Bool.Decides.{Decides-eqb}
use Rattle.std.proofs.lemmas.List.{length-map}
use Rattle.std.proofs.lemmas.List.FromFn.{length-enumerate_from}
use Rattle.std.proofs.lemmas.List.Quantifiers.{position-Some}
use Rattle.std.proofs.lemmas.Option.{get_or_from_slice_get, slice_get-get_or, slice_get_cases, slice_get_within}
use Rattle.std.proofs.lemmas.Slice.Eq.{bytes_eq-Decides}
use Rattle.ordered_json.specs.Words.{place_of}
use Rattle.node_tree.specs.declared.node.Node.{Node}
use Rattle.node_tree.specs.Nodes.{HasNames, IsChild, IsOutline, IsRow, NamesNodes, parent_of}
use Rattle.node_tree.proofs.PlaceLemmas.{position_none}
use Rattle.node_tree.proofs.TreeLemmas.{read_parent_first}
use Rattle.machine_json.specs.declared.fault.MachineFault.TheVariants.{TooMany}
use Rattle.machine_json.specs.declared.kind_word.NodeKind.{NodeKind}
use Rattle.machine_json.specs.declared.kind_word.NodeKind.TheVariants.{Atomic, Compound, Parallel, Final, History}
use Rattle.machine_json.specs.declared.nodes.TheConstants.{MAX_NODES}
use Rattle.machine_json.specs.NodeKinds.{children_of, members_of, node_kind}
use Rattle.machine_json.specs.Nodes.{AreFaultlessAtFirst, NodeParts}
use Rattle.machine_json.specs.Rows.{HaveEarlierParents, initial_key, initial_number, is_deep, kind_with_initial, open_rows, row_of}
use Rattle.machine_json.specs.SecondPass.{node_role}
use Rattle.machine_json.proofs.DocumentLemmas.{all_placed, child_is_node, some_node}
use Rattle.machine_json.proofs.NodeFaultLemmas.{HasNoFaultAs, initial_member, names_child, node_faultless}
use Rattle.machine_json.proofs.RowLemmas.{row_at}

-- ---- the rows of nodes

pub length_rows : (nodes : List NodeParts) → length (open_rows nodes) ≡ length nodes
length_rows nodes = length-map _ (λ (p : ℕ × NodeParts). row_of nodes p.0 p.1) ∙ length-enumerate_from 0 nodes

-- the parent of a row is the one of its node
pub row_parent : (nodes : List NodeParts) (n : ℕ) (x : NodeParts) → slice_get nodes n ≡ Some x → parent_of (open_rows nodes) n ≡ x.parent
row_parent nodes n x at = ap (option_and_then (λ (row : Node). row.parent)) (row_at nodes n x at)

-- an item that is there
pub item_at : (nodes : List NodeParts) (n : ℕ) → n < length nodes → (x : NodeParts) × (slice_get nodes n ≡ Some x)
item_at nodes n inside = elim (slice_get_cases nodes n).1 [ inl found ↦ (found.0, found.2) | inr past ↦ absurd (omega (arith, past.0)) ]

-- ---- the initial child

-- what is found at a place where something passes
found_passing : (passes : NodeParts → Bool) (nodes : List NodeParts) (found : Option ℕ) (j : ℕ) (x : NodeParts) → position passes nodes ≡ found
    → slice_get nodes j ≡ Some x → passes x ≡ true → (i : ℕ) × (y : NodeParts) × (position passes nodes ≡ Some i) × (slice_get nodes i ≡ Some y) × (passes y ≡ true)
found_passing passes nodes None j x is at yes_it =
    let fails = position_none passes nodes is j x (slice_get_within nodes j x at) in
    let same : passes (get_or nodes j x) ≡ passes x = ap passes (get_or_from_slice_get nodes j x x at) in
    let both : false ≡ true = sym fails ∙ same ∙ yes_it in absurd (cc)
found_passing passes nodes (Some i) j x is at yes_it =
    let there = position-Some passes nodes i x is in
    (i, get_or nodes i x, is, slice_get-get_or nodes i x there.0, there.1)

and_first : (a b : Bool) → (a && b) ≡ true → a ≡ true
and_first true b is = refl
and_first false b is = is

and_second : (a b : Bool) → (a && b) ≡ true → b ≡ true
and_second true b is = is
and_second false b is = cc

-- a parent that is told equal is the one
parent_same : (parent : Option ℕ) (n : ℕ) → option_eq nat_eq parent (Some n) ≡ true → parent ≡ Some n
parent_same None n is = absurd (cc)
parent_same (Some m) n is = ap Some ((Decides-eqb m n).0 is)

-- the first node of a parent with the key
abbrev pub IsInitialOf : List NodeParts → ℕ → NodeParts → Type 0
IsInitialOf nodes n x =
    (it : NodeParts) × (slice_get nodes (initial_number nodes n x) ≡ Some it) × (it.parent ≡ Some n) × (it.key ≡ initial_key x)

-- a compound node has a child with the key of its initial one
pub initial_there : (nodes : List NodeParts) (n : ℕ) (x : NodeParts) → AreFaultlessAtFirst nodes → slice_get nodes n ≡ Some x → node_kind x.json ≡ Compound
    → IsInitialOf nodes n x
initial_there nodes n x faultless at compound =
    let clean : HasNoFaultAs (node_role x) x.json = node_faultless 0 None [] faultless.text nodes faultless.are_nodes (λ f there. faultless.first_pass f (inl there)) n x at in
    let named = names_child x compound clean in
    let key = named.0 in
    let member = initial_member (children_of (members_of x.json)) key named.2 in
    let there = child_is_node faultless.text nodes faultless.are_nodes n x at member.0 member.1 member.2 in
    let it : NodeParts = record { parent = Some n; key = member.1.key; json = member.1.value } in
    let wanted : initial_key x ≡ key = ap (λ (o : Option (List ℕ)). unwrap_or o []) named.1 in
    let passes : NodeParts → Bool = λ y. option_eq nat_eq y.parent (Some n) && bytes_eq y.key (initial_key x) in
    let same : nat_eq n n ≡ true = (Decides-eqb n n).1 refl in
    let key_same : bytes_eq member.1.key (initial_key x) ≡ true = (bytes_eq-Decides member.1.key (initial_key x)).1 (member.3 ∙ sym wanted) in
    let passing : passes it ≡ true = ap (λ (b : Bool). b && bytes_eq member.1.key (initial_key x)) {y = true} same ∙ key_same in
    let found = found_passing passes nodes (position passes nodes) there.0 it refl there.1 passing in
    let number : initial_number nodes n x ≡ found.0 = ap (λ (o : Option ℕ). unwrap_or o 0) {y = Some found.0} found.2 in
    let up : found.1.parent ≡ Some n = parent_same found.1.parent n (and_first (option_eq nat_eq found.1.parent (Some n)) (bytes_eq found.1.key (initial_key x)) found.4) in
    let own = and_second (option_eq nat_eq found.1.parent (Some n)) (bytes_eq found.1.key (initial_key x)) found.4 in
    (found.1, ap (slice_get nodes) number ∙ found.3, up, (bytes_eq-Decides found.1.key (initial_key x)).0 own)

-- the initial child of a compound node is a child of it
initial_is_child : (nodes : List NodeParts) (n : ℕ) (x : NodeParts) → AreFaultlessAtFirst nodes → slice_get nodes n ≡ Some x → node_kind x.json ≡ Compound
    → IsChild (open_rows nodes) (initial_number nodes n x) n
initial_is_child nodes n x faultless at compound =
    let found = initial_there nodes n x faultless at compound in
    row_parent nodes (initial_number nodes n x) found.0 found.1 ∙ found.2

-- ---- rows in their places

names_open : (rows : List Node) (n initial : ℕ) (x : NodeParts) (deep : Bool) (node : NodeKind) → is_deep x ≡ deep → (node ≡ Compound → IsChild rows initial n)
    → NamesNodes rows n (kind_with_initial initial x node)
names_open rows n initial x deep Atomic is child = tt
names_open rows n initial x deep Compound is child = child refl
names_open rows n initial x deep Parallel is child = tt
names_open rows n initial x deep Final is child = tt
names_open rows n initial x true History is child = rw is tt
names_open rows n initial x false History is child = rw is tt

-- each row names nodes that are there
row_names : (nodes : List NodeParts) (n : ℕ) (x : NodeParts) → AreFaultlessAtFirst nodes → slice_get nodes n ≡ Some x → HasNames (open_rows nodes) n
row_names nodes n x faultless at =
    let P : Option Node → Type 0 = λ o. IfSome o (λ row. NamesNodes (open_rows nodes) n row.kind) in
    subst P (sym (row_at nodes n x at))
    (names_open (open_rows nodes) n (initial_number nodes n x) x (is_deep x) (node_kind x.json) refl (λ compound. initial_is_child nodes n x faultless at compound))

pub row_stands : (nodes : List NodeParts) (n : ℕ) → AreFaultlessAtFirst nodes → n < length nodes → IsRow (open_rows nodes) n
row_stands nodes n faultless inside =
    let x = item_at nodes n inside in
    record {
      placed = all_placed (open_rows nodes) faultless.text nodes faultless.are_nodes (λ m y at. row_parent nodes m y at) n inside;
      names = row_names nodes n x.0 faultless x.1;
    }

-- there are not too many nodes
few_nodes : (nodes : List NodeParts) (extra : Option NodeParts) → AreFaultlessAtFirst nodes → slice_get nodes MAX_NODES ≡ extra → length nodes ≤ MAX_NODES
few_nodes nodes None faultless is = elim (slice_get_cases nodes MAX_NODES).1 [ inl found ↦ (let both : None ≡ Some found.0 = sym is ∙ found.2 in absurd (cc)) | inr past ↦ past.0 ]
few_nodes nodes (Some x) faultless is =
    absurd (faultless.first_pass (TooMany (place_of x.json)) (inr (nodes, faultless.are_nodes, x, is, refl)))

pub is_outline : (nodes : List NodeParts) → AreFaultlessAtFirst nodes → IsOutline (open_rows nodes)
is_outline nodes faultless =
    let count = length_rows nodes in
    let few : length nodes ≤ MAX_NODES = few_nodes nodes (slice_get nodes MAX_NODES) faultless refl in
    let most : length nodes < 2 ^ 32 = omega arith in
    record {
      some = rw count (some_node faultless.text nodes faultless.are_nodes);
      few = rw count most;
      rows = λ n inside. row_stands nodes n faultless (subst (λ m. n < m) count inside);
    }

-- the parents of nodes stand before them
pub earlier_parents : (nodes : List NodeParts) → AreFaultlessAtFirst nodes → HaveEarlierParents nodes
earlier_parents nodes faultless =
    let outline = is_outline nodes faultless in record {
      few = subst (λ m. m < 2 ^ 32) (length_rows nodes) outline.few;
      parents = λ n x at. read_parent_first (open_rows nodes) outline n (row_of nodes n x) (row_at nodes n x at);
    }
