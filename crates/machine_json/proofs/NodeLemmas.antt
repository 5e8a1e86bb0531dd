-- The nodes of a text, added one after another.
use Rattle.std.proofs.Common.{◌≡◌, ℕ, zero, suc, ◌+◌, ◌<◌, Bool, true, false, List, [], ◌∷◌, ◌++◌, Some, None, Option, length, map, take, get_or, refl, ap, sym, ◌∙◌, subst, arith, append_assoc, append-nil, add-zero, length-append}
use Rattle.std.specs.Prelude.{codes, slice_get, option_map, Result, Ok, Err, OnOk}
use Rattle.std.proofs.lemmas.List.{take_more}
use Rattle.std.proofs.lemmas.Option.{get_or_from_slice_get, slice_get-map, slice_get_read, slice_get_within}
use Rattle.std.specs.Str.{bytes_eq}
use Rattle.ordered_json.specs.declared.json.Member.{Member}
use Rattle.ordered_json.specs.declared.json.OrderedJson.{OrderedJson}
use Rattle.ordered_json.specs.Words.{MemberParts, get, member_parts, place_of}
use Rattle.machine_json.specs.NodeKinds.{children_of, members_of}
use Rattle.machine_json.specs.declared.fault.MachineFault.{MachineFault}
use Rattle.machine_json.specs.declared.fault.MachineFault.TheVariants.{TooMany}
use Rattle.machine_json.specs.declared.nodes.TheConstants.{MAX_NODES}
use Rattle.machine_json.specs.FirstPass.{TellsFirst}
use Rattle.machine_json.specs.Nodes.{AddsNodes, AreNodes, AreNodesBelow, IsTooMany, NodeParts, more, node, none}
use Rattle.machine_json.proofs.FirstLemmas.{as_set, single}

-- ---- a node, and those below it

pub with_node : (old first new : List NodeParts) (number next : ℕ) (parent : Option ℕ) (key : List ℕ) (whole : OrderedJson) (children : List MemberParts)
    → first ≡ old ++ (record { parent = parent; key = key; json = whole }) ∷ [] → next ≡ number + 1 → children ≡ children_of (members_of whole)
    → AddsNodes first new (AreNodesBelow next number children) → AddsNodes old new (AreNodes number parent key whole)
with_node old first new number next parent key whole children is_first is_next is_children adds =
    let n : NodeParts = record { parent = parent; key = key; json = whole } in
    let P : ℕ → Type 0 = λ k. AreNodesBelow k number children adds.0 in
    let Q : List MemberParts → Type 0 = λ l. AreNodesBelow (number + 1) number l adds.0 in (
      n ∷ adds.0,
      adds.1 ∙ ap (λ l. l ++ adds.0) is_first ∙ append_assoc old (n ∷ []) adds.0,
      node number parent key whole adds.0 (subst Q is_children (subst P is_next adds.2)),
    )

-- nothing is added
pub adds_none : (nodes : List NodeParts) (next parent : ℕ) (children : List MemberParts) → children ≡ [] → AddsNodes nodes nodes (AreNodesBelow next parent children)
adds_none nodes next parent children no_child =
    let Q : List MemberParts → Type 0 = λ l. AreNodesBelow next parent l [] in
    ([], sym (append-nil nodes), subst Q (sym no_child) (none next parent))

-- one child more
below-last : (next parent : ℕ) (children : List MemberParts) (nodes : List NodeParts) (child : MemberParts) (last : List NodeParts)
    → AreNodesBelow next parent children nodes → AreNodes (next + length nodes) (Some parent) child.key child.value last
    → AreNodesBelow next parent (children ++ child ∷ []) (nodes ++ last)
below-last _ _ _ _ child last (none next parent) it =
    let P : ℕ → Type 0 = λ k. AreNodes k (Some parent) child.key child.value last in
    let Q : List NodeParts → Type 0 = λ l. AreNodesBelow next parent (child ∷ []) l in
    subst Q (append-nil last) (more next parent child [] last [] (subst P (add-zero next) it) (none (next + length last) parent))
below-last _ _ _ _ child last (more next parent one children nodes later is_one rest) it =
    let P : ℕ → Type 0 = λ k. AreNodes k (Some parent) child.key child.value last in
    let same : next + length (nodes ++ later) ≡ (next + length nodes) + length later = simp length-append (omega arith) in
    let Q : List NodeParts → Type 0 = λ l. AreNodesBelow next parent (one ∷ (children ++ child ∷ [])) l in
    subst Q (sym (append_assoc nodes later last))
    (more next parent one (children ++ child ∷ []) nodes (later ++ last) is_one
    (below-last (next + length nodes) parent children later child last rest (subst P same it)))

pub with_child : (old so_far new : List NodeParts) (next here parent : ℕ) (children more_children : List MemberParts) (child : MemberParts)
    → next ≡ length old → here ≡ length so_far → more_children ≡ children ++ child ∷ []
    → AddsNodes old so_far (AreNodesBelow next parent children)
    → AddsNodes so_far new (AreNodes here (Some parent) child.key child.value)
    → AddsNodes old new (AreNodesBelow next parent more_children)
with_child old so_far new next here parent children more_children child is_next is_here is_more before adds =
    let place : here ≡ next + length before.0 = is_here ∙ ap length before.1 ∙ length-append old before.0 ∙ ap (λ n. n + length before.0) (sym is_next) in
    let P : ℕ → Type 0 = λ k. AreNodes k (Some parent) child.key child.value adds.0 in
    let Q : List MemberParts → Type 0 = λ l. AreNodesBelow next parent l (before.0 ++ adds.0) in (
      before.0 ++ adds.0,
      adds.1 ∙ ap (λ l. l ++ adds.0) before.1 ∙ append_assoc old before.0 adds.0,
      subst Q (sym is_more) (below-last next parent children before.0 child adds.0 before.2 (subst P place adds.2)),
    )

-- ---- the member `states`

-- a key is not that of the next member
unlike : (key : List ℕ) (m : MemberParts) (members : List MemberParts) (test : Bool) → bytes_eq m.key key ≡ test
    → get key (m ∷ members) ≡ None → (test ≡ false) × (get key members ≡ None)
unlike key m members true is nothing = let some : get key (m ∷ members) ≡ Some m.value = rw is refl in absurd (cc)
unlike key m members false is nothing = (refl, let rest : get key (m ∷ members) ≡ get key members = rw is refl in sym rest ∙ nothing)

pub skipped : (key : List ℕ) (m : MemberParts) (members : List MemberParts) → bytes_eq m.key key ≡ false → get key (m ∷ members) ≡ get key members
skipped key m members is = rw is refl

-- what stands under a key, where none of the members before it has the key
pub found_at : (key : List ℕ) (members : List MemberParts) (i : ℕ) (x : MemberParts) → slice_get members i ≡ Some x
    → get key (take i members) ≡ None → bytes_eq x.key key ≡ true → get key members ≡ Some x.value
found_at key [] i x at before is = absurd (cc)
found_at key (m ∷ members) zero x at before is =
    let same : m ≡ x = cc in
    let test : bytes_eq m.key key ≡ true = ap (λ (y : MemberParts). bytes_eq y.key key) same ∙ is in
    rw test (ap (λ (y : MemberParts). Some y.value) same)
found_at key (m ∷ members) (suc i) x at before is =
    let other = unlike key m (take i members) (bytes_eq m.key key) refl before in
    skipped key m members other.0 ∙ found_at key members i x at other.1 is

-- and none of them has it, where the next one has it neither
pub not_found : (key : List ℕ) (members : List MemberParts) (i : ℕ) (x : MemberParts) → slice_get members i ≡ Some x
    → get key (take i members) ≡ None → bytes_eq x.key key ≡ false → get key (take (suc i) members) ≡ None
not_found key [] i x at before is = absurd (cc)
not_found key (m ∷ members) zero x at before is =
    let same : m ≡ x = cc in
    let test : bytes_eq m.key key ≡ false = ap (λ (y : MemberParts). bytes_eq y.key key) same ∙ is in
    skipped key m [] test
not_found key (m ∷ members) (suc i) x at before is =
    let other = unlike key m (take i members) (bytes_eq m.key key) refl before in
    skipped key m (take (suc i) members) other.0 ∙ not_found key members i x at other.1 is

pub children_at : (members : List MemberParts) (states : OrderedJson) → get (codes "states") members ≡ Some states → members_of states ≡ children_of members
children_at members states is = rw is refl

pub no_children : (members : List MemberParts) → get (codes "states") members ≡ None → children_of members ≡ []
no_children members is = rw is refl

-- ---- the same, of equal lists

pub of_children : (old new : List NodeParts) (next parent : ℕ) (children others : List MemberParts) → children ≡ others
    → AddsNodes old new (AreNodesBelow next parent children) → AddsNodes old new (AreNodesBelow next parent others)
of_children old new next parent children others same adds =
    let P : List MemberParts → Type 0 = λ l. AddsNodes old new (AreNodesBelow next parent l) in subst P same adds

pub if_ok : {T E : Type 0} (r : Result T E) (P Q : Type 0) → (P → Q) → OnOk r P → OnOk r Q
if_ok (Ok x) P Q f p = f p
if_ok (Err e) P Q f p = tt

-- the items up to a place and the item there
pub take_next : {X : Type 0} (xs : List X) (i : ℕ) (x : X) → slice_get xs i ≡ Some x → take (i + 1) xs ≡ take i xs ++ x ∷ []
take_next xs i x at =
    take_more xs i x (slice_get_within xs i x at) ∙ ap (λ y. take i xs ++ y ∷ []) (get_or_from_slice_get xs i x x at)

-- a member by its parts, at its place
pub part_at : (members : List Member) (i : ℕ) (m : Member) → i < length members → m ≡ get_or members i m → slice_get (map member_parts members) i ≡ Some (member_parts m)
part_at members i m within is =
    slice_get-map member_parts members i ∙ ap (option_map member_parts) (slice_get_read members (length members) i m refl within is)

-- ---- a text has one list of nodes

mutual
  pub same_nodes : (number : ℕ) (parent : Option ℕ) (key : List ℕ) (whole : OrderedJson) (nodes others : List NodeParts)
      → AreNodes number parent key whole nodes → AreNodes number parent key whole others → nodes ≡ others
  same_nodes _ _ _ _ _ _ (node number parent key whole below is) (node _ _ _ _ other is_too) =
      ap (λ (l : List NodeParts). (record { parent = parent; key = key; json = whole }) ∷ l) (same_below (number + 1) number (children_of (members_of whole)) below other is is_too)

  same_below : (next parent : ℕ) (children : List MemberParts) (nodes others : List NodeParts)
      → AreNodesBelow next parent children nodes → AreNodesBelow next parent children others → nodes ≡ others
  same_below _ _ _ _ _ (none next parent) (none _ _) = refl
  same_below _ _ _ _ _ (more next parent child children nodes later is rest) (more _ _ _ _ nodes_too later_too is_too rest_too) =
      let same = same_nodes next (Some parent) child.key child.value nodes nodes_too is is_too in
      let P : List NodeParts → Type 0 = λ l. AreNodesBelow (next + length l) parent children later_too in
      let behind = same_below (next + length nodes) parent children later later_too rest (subst P (sym same) rest_too) in
      ap (λ l. l ++ later) same ∙ ap (λ l. nodes_too ++ l) behind

extra_is : (text : OrderedJson) (nodes : List NodeParts) (fault : MachineFault) → AreNodes 0 None [] text nodes → IsTooMany text fault
    → option_map (λ (n : NodeParts). TooMany (place_of n.json)) (slice_get nodes MAX_NODES) ≡ Some fault
extra_is text nodes fault are is =
    let same = same_nodes 0 None [] text nodes is.0 are is.1 in
    ap (λ l. option_map (λ (n : NodeParts). TooMany (place_of n.json)) (slice_get l MAX_NODES)) same
    ∙ ap (option_map (λ (n : NodeParts). TooMany (place_of n.json))) is.3 ∙ ap Some (sym is.4)

by_extra : (text : OrderedJson) (nodes : List NodeParts) (found : Option MachineFault) (extra : Option NodeParts) → AreNodes 0 None [] text nodes
    → slice_get nodes MAX_NODES ≡ extra → found ≡ option_map (λ (n : NodeParts). TooMany (place_of n.json)) (slice_get nodes MAX_NODES)
    → TellsFirst found (IsTooMany text)
by_extra text nodes None extra are at is = λ fault there. let both : None ≡ Some fault = is ∙ extra_is text nodes fault are there in absurd (cc)
by_extra text nodes (Some x) None are at is = let nothing : Some x ≡ None = is ∙ ap (option_map (λ (n : NodeParts). TooMany (place_of n.json))) at in absurd (cc)
by_extra text nodes (Some x) (Some n) are at is =
    let one : Some x ≡ Some (TooMany (place_of n.json)) = is ∙ ap (option_map (λ (m : NodeParts). TooMany (place_of m.json))) at in
    let it : x ≡ TooMany (place_of n.json) = cc in
    let only : (fault : MachineFault) → IsTooMany text fault → x ≡ fault = λ fault there. let both : Some x ≡ Some fault = is ∙ extra_is text nodes fault are there in cc in
    as_set (Some x) (λ f. x ≡ f) (IsTooMany text)
    (λ f same. (nodes, are, n, at, sym same ∙ it)) only (single x)

-- the node more than a machine may have, where there is one
pub extra_first : (text : OrderedJson) (nodes : List NodeParts) (found : Option MachineFault) → AreNodes 0 None [] text nodes
    → found ≡ option_map (λ (n : NodeParts). TooMany (place_of n.json)) (slice_get nodes MAX_NODES) → TellsFirst found (IsTooMany text)
extra_first text nodes found are is = by_extra text nodes found (slice_get nodes MAX_NODES) are refl is
