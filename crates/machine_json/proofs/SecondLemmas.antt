-- The second pass, node by node.
use Rattle.std.proofs.Common.{◌≡◌, ◌⊎◌, ◌<◌, ◌≤◌, ℕ, true, false, List, length, get_or, Some, None, Option, refl, ap, sym, ◌∙◌, subst, inl, inr, arith, nat_eq}
use Rattle.std.specs.Prelude.{option_map, slice_get}
use Rattle.std.specs.Option.{option_eq}
use Rattle.std.specs.Str.{bytes_eq}
use Rattle.std.proofs.lemmas.Bool.{cases_eq, cases_lt}
use Rattle.std.proofs.lemmas.Bool.Decides.{nat_tests}
use Rattle.std.proofs.lemmas.List.{length-map}
use Rattle.std.proofs.lemmas.List.FromFn.{length-enumerate_from}
use Rattle.std.proofs.lemmas.List.Quantifiers.{position-Some}
use Rattle.std.proofs.lemmas.Option.{slice_get-get_or, slice_get_within}
use Rattle.std.proofs.lemmas.Slice.Eq.{bytes_eq-Decides}
use Rattle.node_tree.specs.declared.node.Node.{Node}
use Rattle.node_tree.specs.Nodes.{id_at, id_of}
use Rattle.node_tree.proofs.PlaceLemmas.{position_none}
use Rattle.machine_json.specs.declared.fault.MachineFault.{MachineFault}
use Rattle.machine_json.specs.declared.fault.MachineFault.TheVariants.{DoubleId}
use Rattle.machine_json.specs.declared.kind_word.NodeKind.{NodeKind}
use Rattle.machine_json.specs.declared.kind_word.NodeKind.TheVariants.{History}
use Rattle.machine_json.specs.declared.role.Role.{Role}
use Rattle.machine_json.specs.Fields.{is_history}
use Rattle.machine_json.specs.FirstPass.{TellsFirst, earlier}
use Rattle.machine_json.specs.Links.{HasBadDefault, HasNodeFault, HasOldId}
use Rattle.machine_json.specs.NodeKinds.{node_kind}
use Rattle.machine_json.specs.Nodes.{NodeParts}
use Rattle.machine_json.specs.Rows.{id_place, open_rows, row_of}
use Rattle.machine_json.specs.SecondPass.{HasLinkFault, IsBadDefault, IsDefaultFault, IsDoubleId, IsLinkFault, node_role}
use Rattle.machine_json.proofs.FirstLemmas.{as_set, both, single}
use Rattle.machine_json.proofs.NumberLemmas.{IsBelowNumber}

-- ---- double ids

only : (x : MachineFault) (IsThere : MachineFault → Type 0) → IsThere x → ((f : MachineFault) → IsThere f → f ≡ x) → TellsFirst (Some x) IsThere
only x IsThere there each =
    as_set (Some x) (λ f. x ≡ f) IsThere
    (λ f same. let P : MachineFault → Type 0 = λ y. IsThere y in subst P same there)
    (λ f is. sym (each f is))
    (single x)

pub is_found : (first : Option ℕ) (n : ℕ) → option_eq nat_eq first (Some n) ≡ true → first ≡ Some n
is_found None n is = cc
is_found (Some m) n is = let same : m ≡ n = grind (arith, nat_tests) in ap Some same

pub is_not_found : (first : Option ℕ) (n : ℕ) → option_eq nat_eq first (Some n) ≡ false → first ≡ Some n → ⊥
is_not_found None n is found = cc
is_not_found (Some m) n is found = let same : m ≡ n = cc in grind (arith, nat_tests)

module _ (rows : List Node) (n : ℕ) (row : Node) (node : NodeParts) (at : slice_get rows n ≡ Some row) where
  inside : n < length rows
  inside = slice_get_within rows n row at

  id_at_row : (k : ℕ) → k < length rows → id_of rows k ≡ Some (get_or rows k row).id
  id_at_row k within = ap (option_map (λ (x : Node). x.id)) (slice_get-get_or rows k row within)

  id_here : id_of rows n ≡ Some row.id
  id_here = ap (option_map (λ (x : Node). x.id)) at

  row_here : get_or rows n row ≡ row
  row_here = let found : Some (get_or rows n row) ≡ Some row = sym (slice_get-get_or rows n row inside) ∙ at in cc

  has_id : bytes_eq (get_or rows n row).id row.id ≡ true
  has_id = (bytes_eq-Decides (get_or rows n row).id row.id).1 (ap (λ (x : Node). x.id) row_here)

  pub id_is_new : (first : Option ℕ) → first ≡ id_at rows row.id → first ≡ Some n → TellsFirst None (HasOldId rows n node)
  id_is_new first is found = λ fault old.
      let at_first = position-Some (λ (x : Node). bytes_eq x.id row.id) rows n row (sym is ∙ found) in
      let differs : bytes_eq (get_or rows old.0 row).id row.id ≡ false = at_first.2 old.0 old.1 in
      let less : old.0 < n = old.1 in
      let here = inside in
      let within : old.0 < length rows = omega arith in
      let ids : Some row.id ≡ Some (get_or rows old.0 row).id = sym id_here ∙ old.2 ∙ id_at_row old.0 within in
      let same : (get_or rows old.0 row).id ≡ row.id = cc in
      let equal : bytes_eq (get_or rows old.0 row).id row.id ≡ true = (bytes_eq-Decides (get_or rows old.0 row).id row.id).1 same in absurd (cc)

  earlier_one : (m : ℕ) → (m ≡ n → ⊥) → ((k : ℕ) → k < m → bytes_eq (get_or rows k row).id row.id ≡ false) → m < n
  earlier_one m other none =
      elim (cases_lt m n) [
        | inl less ↦ less
        | inr from ↦ elim (cases_eq m n) [
          | inl same ↦ absurd (other same)
          | inr apart ↦ (let differs = none n (omega arith) in let equal = has_id in absurd (cc))
        ]
      ]

  pub id_is_old : (first : Option ℕ) → first ≡ id_at rows row.id → (first ≡ Some n → ⊥) → TellsFirst (Some (DoubleId (id_place node))) (HasOldId rows n node)
  id_is_old None is other =
      let fails = position_none (λ (x : Node). bytes_eq x.id row.id) rows (sym is) n row inside in
      let equal = has_id in absurd (cc)
  id_is_old (Some m) is other =
      let found = position-Some (λ (x : Node). bytes_eq x.id row.id) rows m row (sym is) in
      let before : m < n = earlier_one m (λ same. other (ap Some same)) found.2 in
      let same : (get_or rows m row).id ≡ row.id = (bytes_eq-Decides (get_or rows m row).id row.id).0 found.1 in
      only (DoubleId (id_place node)) (HasOldId rows n node) (m, before, id_here ∙ ap Some (sym same) ∙ sym (id_at_row m found.0), refl) (λ f old. old.3)

-- ---- one node

pub history_first : (rows : List Node) (n : ℕ) (node : NodeParts) (kind : NodeKind) (found : Option MachineFault) → kind ≡ node_kind node.json → kind ≡ History
    → TellsFirst found (IsBadDefault rows n node.json) → TellsFirst found (HasBadDefault rows n node)
history_first rows n node kind found is history first =
    let yes : is_history (node_kind node.json) ≡ true = ap is_history (sym is ∙ history) in
    as_set found (IsBadDefault rows n node.json) (HasBadDefault rows n node) (λ f bad. (yes, bad)) (λ f bad. bad.1) first

pub node_first : (rows : List Node) (n : ℕ) (node : NodeParts) (role : Role) (old link default : Option MachineFault) → role ≡ node_role node
    → TellsFirst old (HasOldId rows n node) → TellsFirst link (HasLinkFault rows n role node.json) → TellsFirst default (HasBadDefault rows n node)
    → TellsFirst (earlier old (earlier link default)) (HasNodeFault rows n node)
node_first rows n node role old link default is first second third =
    let P : Role → Type 0 = λ r. TellsFirst link (HasLinkFault rows n r node.json) in
    both old (earlier link default) (HasOldId rows n node) (λ f. HasLinkFault rows n (node_role node) node.json f ⊎ HasBadDefault rows n node f) first
    (both link default (HasLinkFault rows n (node_role node) node.json) (HasBadDefault rows n node) (subst P is second) third)

-- ---- all nodes

-- the node of a number has a fault
abbrev pub IsNodeFaultAt : List Node → List NodeParts → ℕ → MachineFault → Type 0
IsNodeFaultAt rows nodes n fault = (node : NodeParts) × (slice_get nodes n ≡ Some node) × HasNodeFault rows n node fault

pub node_at : (rows : List Node) (nodes : List NodeParts) (n : ℕ) (node : NodeParts) (found : Option MachineFault) → slice_get nodes n ≡ Some node
    → TellsFirst found (HasNodeFault rows n node) → TellsFirst found (IsNodeFaultAt rows nodes n)
node_at rows nodes n node found at first =
    as_set found (HasNodeFault rows n node) (IsNodeFaultAt rows nodes n)
    (λ f has. (node, at, has))
    (λ f is.
    let both_at : Some is.0 ≡ Some node = sym is.1 ∙ at in
    let same : is.0 ≡ node = cc in
    let P : NodeParts → Type 0 = λ x. HasNodeFault rows n x f in subst P same is.2)
    first

pub rows_and_nodes : (nodes : List NodeParts) → length (open_rows nodes) ≡ length nodes
rows_and_nodes nodes = length-map _ (λ (p : ℕ × NodeParts). row_of nodes p.0 p.1) ∙ length-enumerate_from 0 nodes

-- a fault of the second pass, in rows that are those of the nodes
abbrev pub IsPassFault : List Node → List NodeParts → MachineFault → Type 0
IsPassFault rows nodes fault =
    ((n earlier : ℕ) × (node : NodeParts) × (earlier < n) × (slice_get nodes n ≡ Some node) × (id_of rows n ≡ id_of rows earlier) × (fault ≡ DoubleId (id_place node)))
    ⊎ (((n : ℕ) × (node : NodeParts) × (slice_get nodes n ≡ Some node) × HasLinkFault rows n (node_role node) node.json fault)
    ⊎ ((n : ℕ) × (node : NodeParts) × (slice_get nodes n ≡ Some node) × (is_history (node_kind node.json) ≡ true) × IsBadDefault rows n node.json fault))

to_pass : (rows : List Node) (nodes : List NodeParts) (n : ℕ) (f : MachineFault) → IsNodeFaultAt rows nodes n f → IsPassFault rows nodes f
to_pass rows nodes n f (node, at, inl old) = inl (n, old.0, node, old.1, at, old.2, old.3)
to_pass rows nodes n f (node, at, inr (inl link)) = inr (inl (n, node, at, link))
to_pass rows nodes n f (node, at, inr (inr bad)) = inr (inr (n, node, at, bad.0, bad.1))

from_pass : (rows : List Node) (nodes : List NodeParts) (f : MachineFault) → IsPassFault rows nodes f → (n : ℕ) × (n < length nodes) × IsNodeFaultAt rows nodes n f
from_pass rows nodes f (inl (n, before, node, less, at, same, is)) = (n, slice_get_within nodes n node at, (node, at, inl (before, less, same, is)))
from_pass rows nodes f (inr (inl (n, node, at, link))) = (n, slice_get_within nodes n node at, (node, at, inr (inl link)))
from_pass rows nodes f (inr (inr is)) = (is.0, slice_get_within nodes is.0 is.1 is.2, (is.1, is.2, inr (inr (is.3, is.4))))

pub all_nodes : (rows : List Node) (nodes : List NodeParts) (n : ℕ) (found : Option MachineFault) → rows ≡ open_rows nodes → length rows ≤ n
    → TellsFirst found (IsBelowNumber (IsNodeFaultAt rows nodes) n)
    → TellsFirst found (λ f. IsDoubleId nodes f ⊎ (IsLinkFault nodes f ⊎ IsDefaultFault nodes f))
all_nodes rows nodes n found is past first =
    let count : length rows ≡ length nodes = ap length is ∙ rows_and_nodes nodes in
    let P : List Node → Type 0 = λ r. TellsFirst found (IsPassFault r nodes) in
    subst P is (as_set found (IsBelowNumber (IsNodeFaultAt rows nodes) n) (IsPassFault rows nodes)
    (λ f there. to_pass rows nodes there.0 f there.2)
    (λ f fault. let at = from_pass rows nodes f fault in let within : at.0 < length nodes = at.1 in (at.0, omega arith, at.2))
    first)
