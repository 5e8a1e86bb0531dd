-- What a text without faults of the first pass has.
use Rattle.std.proofs.Common.{◌≡◌, ◌+◌, ◌⊎◌, ℕ, zero, suc, Bool, true, false, ◌&&◌, ◌||◌, List, [], ◌∷◌, Option, None, Some, length, refl, sym, ap, ◌∙◌, subst, inl, inr}
use Rattle.std.specs.Prelude.{Contains, codes, is_none, is_some, not, option_and_then, slice_get, unwrap_or}
use Rattle.std.specs.List.{list_any}
use Rattle.std.specs.Option.{option_map_or}
use Rattle.std.specs.Str.{bytes_eq}
use Rattle.std.proofs.lemmas.List.Elements.{Contains-append_left, Contains-append_right}
use Rattle.std.proofs.lemmas.Slice.Eq.{bytes_eq-Decides}
use Rattle.ordered_json.specs.declared.json.OrderedJson.{OrderedJson}
use Rattle.ordered_json.specs.Words.{MemberParts, as_object, as_text, get, get_text, place_of}
use Rattle.step_sets.proofs.ListLemmas.{Contains-here}
use Rattle.machine_json.specs.declared.fault.MachineFault.{MachineFault}
use Rattle.machine_json.specs.declared.fault.MachineFault.TheVariants.{BadKind, NoInitial, UnknownField}
use Rattle.machine_json.specs.declared.kind_word.NodeKind.{NodeKind}
use Rattle.machine_json.specs.declared.kind_word.NodeKind.TheVariants.{Compound}
use Rattle.machine_json.specs.declared.role.Role.{Role}
use Rattle.machine_json.specs.declared.role.Role.TheVariants as role
use Rattle.machine_json.specs.Fields.{is_inner}
use Rattle.machine_json.specs.FirstPass.{HasFaultAs, fault_if, initial_faults, initial_text_faults, is_history_child, is_initial_child, names_initial, node_faults, own_faults, value_faults}
use Rattle.machine_json.specs.FirstPass.HasFaultAs.{own, at_key, in_member}
use Rattle.machine_json.specs.NodeKinds.{children_of, members_of, node_kind}
use Rattle.machine_json.specs.Nodes.{AreNodes, AreNodesBelow, NodeParts, more, node, none}
use Rattle.machine_json.specs.Roles.{member_role, takes, takes_key}
use Rattle.machine_json.specs.SecondPass.{node_role}
use Rattle.machine_json.proofs.DocumentLemmas.{slice_get-either}

-- the first pass finds no fault in a value of a role
abbrev pub HasNoFaultAs : Role → OrderedJson → Type 0
HasNoFaultAs role json = (fault : MachineFault) → HasFaultAs role json fault → ⊥

-- ---- members

-- what stands under a key stands in the first member with it, or in a later one
member_or_later : (key : List ℕ) (m : MemberParts) (members : List MemberParts) (json : OrderedJson) (test : Bool) → bytes_eq m.key key ≡ test
    → get key (m ∷ members) ≡ Some json
    → (get key members ≡ Some json → (k : ℕ) × (x : MemberParts) × (slice_get members k ≡ Some x) × (x.key ≡ key) × (x.value ≡ json))
    → (k : ℕ) × (x : MemberParts) × (slice_get (m ∷ members) k ≡ Some x) × (x.key ≡ key) × (x.value ≡ json)
member_or_later key m members json true test is later =
    let here : get key (m ∷ members) ≡ Some m.value = rw test refl in
    let same : m.value ≡ json = cc in
    (0, m, refl, (bytes_eq-Decides m.key key).0 test, same)
member_or_later key m members json false test is later =
    let rest : get key (m ∷ members) ≡ get key members = rw test refl in
    let found = later (sym rest ∙ is) in
    (suc found.0, found.1, found.2, found.3, found.4)

-- what stands under a key stands in a member with the key
pub member_under : (key : List ℕ) (members : List MemberParts) (json : OrderedJson) → get key members ≡ Some json
    → (k : ℕ) × (m : MemberParts) × (slice_get members k ≡ Some m) × (m.key ≡ key) × (m.value ≡ json)
member_under key [] json is = absurd (cc)
member_under key (m ∷ members) json is =
    member_or_later key m members json (bytes_eq m.key key) refl is (λ later. member_under key members json later)

-- a part of an object without faults has none
pub part_faultless : (r part : Role) (json : OrderedJson) (key : List ℕ) (value : OrderedJson) → HasNoFaultAs r json
    → get key (members_of json) ≡ Some value → member_role r (node_kind json) key ≡ Some part → HasNoFaultAs part value
part_faultless r part json key value clean is has fault there =
    let found = member_under key (members_of json) value is in
    let role_is : member_role r (node_kind json) found.1.key ≡ Some part = ap (member_role r (node_kind json)) found.3 ∙ has in
    let P : OrderedJson → Type 0 = λ j. HasFaultAs part j fault in
    clean fault (in_member r part json fault found.0 found.1 found.2 role_is (subst P (sym found.4) there))

-- an object without faults has each of its keys
pub key_faultless : (r : Role) (json : OrderedJson) (key : List ℕ) (value : OrderedJson) → HasNoFaultAs r json
    → get key (members_of json) ≡ Some value → member_role r (node_kind json) key ≡ None → ⊥
key_faultless r json key value clean is has =
    let found = member_under key (members_of json) value is in
    let unknown : is_none (member_role r (node_kind json) found.1.key) ≡ true = ap (λ k. is_none (member_role r (node_kind json) k)) found.3 ∙ ap is_none has in
    let fault = UnknownField found.1.key_place in
    let one : Contains (fault_if (is_none (member_role r (node_kind json) found.1.key)) fault) fault = rw unknown (Contains-here fault []) in
    clean fault (at_key r json fault found.0 found.1 found.2
    (Contains-append_left (fault_if (is_none (member_role r (node_kind json) found.1.key)) fault)
    (fault_if (not (takes_key r found.1.key)) (BadKind found.1.key_place)) fault one))

-- the role of a node with a parent, or without
abbrev pub role_below : Option ℕ → Role
role_below parent = option_map_or (λ (n : ℕ). role.State) parent role.Root

-- a test that is one thing or the other
bool_cases : (b : Bool) → (b ≡ true) ⊎ (b ≡ false)
bool_cases true = inl refl
bool_cases false = inr refl

-- a node's `states` stand on it, or are unknown to it
states_role : (parent : Option ℕ) (kind : NodeKind)
    → (member_role (role_below parent) kind (codes "states") ≡ Some role.States) ⊎ (member_role (role_below parent) kind (codes "states") ≡ None)
states_role None kind = inl refl
states_role (Some n) kind = elim (bool_cases (is_inner kind)) [ inl yes_it ↦ inl (rw yes_it refl) | inr no_it ↦ inr (rw no_it refl) ]

-- a child among the members of `states`
child_faultless : (json : OrderedJson) (k : ℕ) (c : MemberParts) → HasNoFaultAs role.States json → slice_get (members_of json) k ≡ Some c → HasNoFaultAs role.State c.value
child_faultless json k c clean at fault there = clean fault (in_member role.States role.State json fault k c at refl there)

under_states : (parent : Option ℕ) (json : OrderedJson) (states : Option OrderedJson) → HasNoFaultAs (role_below parent) json
    → get (codes "states") (members_of json) ≡ states → (k : ℕ) (c : MemberParts) → slice_get (unwrap_or (option_and_then as_object states) []) k ≡ Some c
    → HasNoFaultAs role.State c.value
under_states parent json None clean is k c at = absurd (cc)
under_states parent json (Some states) clean is k c at = elim (states_role parent (node_kind json)) [
  | inl known ↦ child_faultless states k c (part_faultless (role_below parent) role.States json (codes "states") states clean is known) at
  | inr unknown ↦ absurd (key_faultless (role_below parent) json (codes "states") states clean is unknown)
]

-- the children of a node without faults have none
pub children_faultless : (parent : Option ℕ) (json : OrderedJson) → HasNoFaultAs (role_below parent) json
    → (k : ℕ) (c : MemberParts) → slice_get (children_of (members_of json)) k ≡ Some c → HasNoFaultAs role.State c.value
children_faultless parent json clean k c at = under_states parent json (get (codes "states") (members_of json)) clean refl k c at

mutual
  -- no node of a text without faults has one
  pub node_faultless : (number : ℕ) (parent : Option ℕ) (key : List ℕ) (json : OrderedJson) (nodes : List NodeParts) → AreNodes number parent key json nodes
      → HasNoFaultAs (role_below parent) json → (k : ℕ) (x : NodeParts) → slice_get nodes k ≡ Some x → HasNoFaultAs (node_role x) x.json
  node_faultless _ _ _ _ _ (node number parent key json below is) clean zero x at =
      let head : NodeParts = record { parent = parent; key = key; json = json } in
      let same : head ≡ x = cc in
      subst (λ (y : NodeParts). HasNoFaultAs (node_role y) y.json) same clean
  node_faultless _ _ _ _ _ (node number parent key json below is) clean (suc k) x at =
      nodes_faultless (number + 1) number (children_of (members_of json)) below is (children_faultless parent json clean) k x at

  nodes_faultless : (next parent : ℕ) (children : List MemberParts) (nodes : List NodeParts) → AreNodesBelow next parent children nodes
      → ((i : ℕ) (c : MemberParts) → slice_get children i ≡ Some c → HasNoFaultAs role.State c.value)
      → (k : ℕ) (x : NodeParts) → slice_get nodes k ≡ Some x → HasNoFaultAs (node_role x) x.json
  nodes_faultless _ _ _ _ (none next parent) clean k x at = absurd (cc)
  nodes_faultless _ _ _ _ (more next parent child children nodes later is rest) clean k x at =
      elim (slice_get-either nodes later k x at) [
        | inl left ↦ node_faultless next (Some parent) child.key child.value nodes is (clean 0 child refl) k x left
        | inr right ↦ nodes_faultless (next + length nodes) parent children later rest (λ i c c_at. clean (suc i) c c_at) right.0 x right.2
      ]

-- ---- the initial child

-- a node has no fault of its own
pub own_faultless : (parent : Option ℕ) (json : OrderedJson) (fault : MachineFault) → HasNoFaultAs (role_below parent) json
    → Contains (own_faults (role_below parent) json) fault → ⊥
own_faultless None json fault clean has = clean fault (own role.Root json fault has)
own_faultless (Some n) json fault clean has = clean fault (own role.State json fault has)

initial_among : (parent : Option ℕ) (json : OrderedJson) (fault : MachineFault)
    → Contains (initial_faults (node_kind json) (members_of json) (place_of json)) fault → Contains (own_faults (role_below parent) json) fault
initial_among None json fault has =
    Contains-append_right (value_faults role.Root json) (node_faults true json) fault
    (Contains-append_right _ _ fault (Contains-append_left _ _ fault has))
initial_among (Some n) json fault has =
    Contains-append_right (value_faults role.State json) (node_faults false json) fault
    (Contains-append_right _ _ fault (Contains-append_left _ _ fault has))

-- the role of `initial` on a compound node
initial_role : (parent : Option ℕ) → member_role (role_below parent) Compound (codes "initial") ≡ Some role.AnyText
initial_role None = refl
initial_role (Some n) = refl

-- a value that must be a text is one
is_a_text : (json : OrderedJson) (text : Option (List ℕ)) → HasNoFaultAs role.AnyText json → as_text json ≡ text → (key : List ℕ) × (as_text json ≡ Some key)
is_a_text json (Some key) clean is = (key, is)
is_a_text json None clean is =
    let fault = BadKind (place_of json) in
    let test : not (takes role.AnyText json) ≡ true = ap (λ o. not (is_some o)) is in
    let one : Contains (own_faults role.AnyText json) fault = rw test (Contains-here fault []) in
    absurd (clean fault (own role.AnyText json fault one))

not_false : (b : Bool) → not b ≡ false → b ≡ true
not_false true h = refl
not_false false h = cc

-- a fault that isn't there
no_fault_if : (b : Bool) (fault : MachineFault) → (Contains (fault_if b fault) fault → ⊥) → b ≡ false
no_fault_if true fault clean = absurd (clean (Contains-here fault []))
no_fault_if false fault clean = refl

-- the initial child that a compound node names
abbrev pub NamesInitial : OrderedJson → Type 0
NamesInitial json =
    (key : List ℕ) × (get_text (codes "initial") (members_of json) ≡ Some key) × (names_initial (children_of (members_of json)) key ≡ true)

names_it : (parent : Option ℕ) (json : OrderedJson) (initial : Option OrderedJson) → node_kind json ≡ Compound → HasNoFaultAs (role_below parent) json
    → get (codes "initial") (members_of json) ≡ initial → NamesInitial json
names_it parent json None kind clean is =
    let faults : initial_faults (node_kind json) (members_of json) (place_of json) ≡ NoInitial (place_of json) ∷ [] =
    ap (λ k. initial_faults k (members_of json) (place_of json)) kind ∙ rw is refl in
    let one : Contains (initial_faults (node_kind json) (members_of json) (place_of json)) (NoInitial (place_of json)) =
    subst (λ (l : List MachineFault). Contains l (NoInitial (place_of json))) (sym faults) (Contains-here (NoInitial (place_of json)) []) in
    absurd (own_faultless parent json (NoInitial (place_of json)) clean (initial_among parent json (NoInitial (place_of json)) one))
names_it parent json (Some value) kind clean is =
    let has : member_role (role_below parent) (node_kind json) (codes "initial") ≡ Some role.AnyText =
    ap (λ k. member_role (role_below parent) k (codes "initial")) kind ∙ initial_role parent in
    let text = is_a_text value (as_text value) (part_faultless (role_below parent) role.AnyText json (codes "initial") value clean is has) refl in
    let names : List ℕ → Bool = names_initial (children_of (members_of json)) in
    let fault = NoInitial (place_of value) in
    let faults : initial_faults (node_kind json) (members_of json) (place_of json) ≡ fault_if (not (names text.0)) fault =
    ap (λ k. initial_faults k (members_of json) (place_of json)) kind
    ∙ ap (λ (o : Option OrderedJson). option_map_or (initial_text_faults names) o (NoInitial (place_of json) ∷ [])) is
    ∙ ap (λ (o : Option (List ℕ)). fault_if (option_map_or (λ key. not (names key)) o false) fault) text.1 in
    let none_is : Contains (fault_if (not (names text.0)) fault) fault → ⊥ = λ one.
    own_faultless parent json fault clean (initial_among parent json fault (subst (λ (l : List MachineFault). Contains l fault) (sym faults) one)) in
    (text.0, ap (option_and_then as_text) is ∙ text.1, not_false (names text.0) (no_fault_if (not (names text.0)) fault none_is))

-- a compound node without faults names a child
pub names_child : (x : NodeParts) → node_kind x.json ≡ Compound → HasNoFaultAs (node_role x) x.json → NamesInitial x.json
names_child x kind clean = names_it x.parent x.json (get (codes "initial") (members_of x.json)) kind clean refl

-- the first passes, or a later one
any_here : {X : Type 0} (test : X → Bool) (x : X) (xs : List X) (b : Bool) → test x ≡ b → list_any test (x ∷ xs) ≡ true
    → (list_any test xs ≡ true → (i : ℕ) × (y : X) × (slice_get xs i ≡ Some y) × (test y ≡ true))
    → (i : ℕ) × (y : X) × (slice_get (x ∷ xs) i ≡ Some y) × (test y ≡ true)
any_here test x xs true here is later = (0, x, refl, here)
any_here test x xs false here is later =
    let found = later (sym (ap (λ b. b || list_any test xs) here) ∙ is) in
    (suc found.0, found.1, found.2, found.3)

-- one of a list passes a test that any passes
any_at : {X : Type 0} (test : X → Bool) (xs : List X) → list_any test xs ≡ true → (i : ℕ) × (x : X) × (slice_get xs i ≡ Some x) × (test x ≡ true)
any_at test [] is = absurd (cc)
any_at test (x ∷ xs) is = any_here test x xs (test x) refl is (λ later. any_at test xs later)

and_left : (a b : Bool) → (a && b) ≡ true → a ≡ true
and_left true b is = refl
and_left false b is = is

and_right : (a b : Bool) → (a && b) ≡ true → b ≡ true
and_right true b is = is
and_right false b is = cc

not_true : (b : Bool) → not b ≡ true → b ≡ false
not_true true is = cc
not_true false is = refl

-- the child that has the key, which is no history node
pub initial_member : (children : List MemberParts) (key : List ℕ) → names_initial children key ≡ true
    → (i : ℕ) × (c : MemberParts) × (slice_get children i ≡ Some c) × (c.key ≡ key) × (is_history_child c ≡ false)
initial_member children key is =
    let found = any_at (is_initial_child key) children is in
    let same = and_left (bytes_eq found.1.key key) _ found.3 in
    let other = and_right (bytes_eq found.1.key key) (not (is_history_child found.1)) found.3 in
    (found.0, found.1, found.2, (bytes_eq-Decides found.1.key key).0 same, not_true (is_history_child found.1) other)
