-- The kinds and the children that a node without faults has.
use Rattle.std.proofs.Common.{◌≡◌, ℕ, suc, Bool, true, false, List, [], ◌∷◌, ◌++◌, Option, None, Some, refl, sym, ap, ◌∙◌, subst}
use Rattle.std.specs.Prelude.{Contains, codes, is_none, option_and_then, slice_get, unwrap_or}
use Rattle.std.specs.List.{list_all}
use Rattle.std.proofs.lemmas.List.Elements.{Contains-append_left, Contains-append_right}
use Rattle.ordered_json.specs.declared.json.OrderedJson.{OrderedJson}
use Rattle.ordered_json.specs.Words.{MemberParts, as_text, get, place_of}
use Rattle.step_sets.proofs.ListLemmas.{Contains-here}
use Rattle.machine_json.specs.declared.fault.MachineFault.{MachineFault}
use Rattle.machine_json.specs.declared.fault.MachineFault.TheVariants.{BadKind, EmptyStates}
use Rattle.machine_json.specs.declared.kind_word.NodeKind.{NodeKind}
use Rattle.machine_json.specs.declared.kind_word.NodeKind.TheVariants.{Atomic, Compound, Parallel, Final, History}
use Rattle.machine_json.specs.declared.role.Role.TheVariants as role
use Rattle.machine_json.specs.Fields.{is_inner}
use Rattle.machine_json.specs.FirstPass.{atomic_faults, either, empty_faults, fault_at, initial_faults, is_history_child, kind_faults, kind_value, node_faults, root_faults, value_faults}
use Rattle.machine_json.specs.NodeKinds.{children_of, kind_by_fields, kind_of_members, kind_of_word, members_of, node_kind}
use Rattle.machine_json.specs.Nodes.{NodeParts}
use Rattle.machine_json.specs.Roles.{is_empty, member_role}
use Rattle.machine_json.specs.SecondPass.{node_role}
use Rattle.machine_json.proofs.FaultlessLemmas.{fails}
use Rattle.machine_json.proofs.NodeFaultLemmas.{HasNoFaultAs, key_faultless, own_faultless, role_below}
use Rattle.machine_json.proofs.NodeLemmas.{no_children}
use Rattle.machine_json.proofs.ReadKindLemmas.{MayHaveChildren}

-- ---- the faults of one node

-- a node without faults has none that its kind may have
no_kind_fault : (parent : Option ℕ) (json : OrderedJson) (fault : MachineFault) → HasNoFaultAs (role_below parent) json
    → Contains (kind_faults (is_none parent) (node_kind json) (members_of json) (place_of json)) fault → ⊥
no_kind_fault None json fault clean has =
    own_faultless None json fault clean (Contains-append_right (value_faults role.Root json) (node_faults true json) fault has)
no_kind_fault (Some n) json fault clean has =
    own_faultless (Some n) json fault clean (Contains-append_right (value_faults role.State json) (node_faults false json) fault has)

no_atomic_fault : (parent : Option ℕ) (json : OrderedJson) (fault : MachineFault) → HasNoFaultAs (role_below parent) json
    → Contains (atomic_faults (node_kind json) (members_of json)) fault → ⊥
no_atomic_fault parent json fault clean has =
    no_kind_fault parent json fault clean (Contains-append_left _ _ fault (Contains-append_left _ _ fault has))

no_root_fault : (json : OrderedJson) (fault : MachineFault) → HasNoFaultAs role.Root json
    → Contains (root_faults true (node_kind json) (members_of json)) fault → ⊥
no_root_fault json fault clean has =
    no_kind_fault None json fault clean
    (Contains-append_left (atomic_faults (node_kind json) (members_of json) ++ root_faults true (node_kind json) (members_of json)) _ fault
    (Contains-append_right (atomic_faults (node_kind json) (members_of json)) _ fault has))

no_empty_fault : (parent : Option ℕ) (json : OrderedJson) (fault : MachineFault) → HasNoFaultAs (role_below parent) json
    → Contains (empty_faults (node_kind json) (members_of json) (place_of json)) fault → ⊥
no_empty_fault parent json fault clean has =
    no_kind_fault parent json fault clean
    (Contains-append_right (atomic_faults (node_kind json) (members_of json) ++ root_faults (is_none parent) (node_kind json) (members_of json)) _ fault
    (Contains-append_right (initial_faults (node_kind json) (members_of json) (place_of json)) _ fault has))

-- a fault at a value that there is
there_is : (value : Option OrderedJson) (v : OrderedJson) → value ≡ Some v → Contains (fault_at BadKind value) (BadKind (place_of v))
there_is value v is =
    subst (λ (o : Option OrderedJson). Contains (fault_at BadKind o) (BadKind (place_of v))) (sym is) (Contains-here (BadKind (place_of v)) [])

-- ---- what tells the kind

-- the kind where no `type` says it
untyped : (members : List MemberParts) → get (codes "type") members ≡ None → kind_of_members members ≡ kind_by_fields (children_of members) members
untyped members is =
    ap (λ (o : Option OrderedJson). unwrap_or (option_and_then kind_of_word (option_and_then as_text o)) (kind_by_fields (children_of members) members)) is

inner_by_fields : (children members : List MemberParts) → get (codes "history") members ≡ None → is_inner (kind_by_fields children members) ≡ true
inner_by_fields [] members is = rw is refl
inner_by_fields (c ∷ children) members is = refl

-- a final or history node has `type` or `history`
told : (members : List MemberParts) (type history : Option OrderedJson) → get (codes "type") members ≡ type → get (codes "history") members ≡ history
    → is_inner (kind_of_members members) ≡ false → (v : OrderedJson) × (kind_value members ≡ Some v)
told members (Some v) history is history_is outer = (v, ap (λ (o : Option OrderedJson). either o (get (codes "history") members)) is)
told members None (Some v) is history_is outer =
    (v, ap (λ (o : Option OrderedJson). either o (get (codes "history") members)) is ∙ history_is)
told members None None is history_is outer =
    let inner : is_inner (kind_of_members members) ≡ true = ap is_inner (untyped members is) ∙ inner_by_fields (children_of members) members history_is in
    let both : true ≡ false = sym inner ∙ outer in absurd (cc)

inner_root_by : (json : OrderedJson) (kind : NodeKind) → node_kind json ≡ kind → HasNoFaultAs role.Root json → is_inner kind ≡ true
inner_root_by json Atomic is clean = refl
inner_root_by json Compound is clean = refl
inner_root_by json Parallel is clean = refl
inner_root_by json Final is clean =
    let by = told (members_of json) (get (codes "type") (members_of json)) (get (codes "history") (members_of json)) refl refl (ap is_inner is) in
    let P : NodeKind → Type 0 = λ k. Contains (root_faults true k (members_of json)) (BadKind (place_of by.0)) in
    absurd (no_root_fault json (BadKind (place_of by.0)) clean (subst P (sym is) (there_is (kind_value (members_of json)) by.0 by.1)))
inner_root_by json History is clean =
    let by = told (members_of json) (get (codes "type") (members_of json)) (get (codes "history") (members_of json)) refl refl (ap is_inner is) in
    let P : NodeKind → Type 0 = λ k. Contains (root_faults true k (members_of json)) (BadKind (place_of by.0)) in
    absurd (no_root_fault json (BadKind (place_of by.0)) clean (subst P (sym is) (there_is (kind_value (members_of json)) by.0 by.1)))

-- a root without faults is neither final nor a history node
pub inner_root : (json : OrderedJson) → HasNoFaultAs role.Root json → is_inner (node_kind json) ≡ true
inner_root json clean = inner_root_by json (node_kind json) refl clean

-- ---- nodes with children

-- a node with a child has `states`
states_there : (members : List MemberParts) (states : Option OrderedJson) (i : ℕ) (c : MemberParts) → get (codes "states") members ≡ states
    → slice_get (children_of members) i ≡ Some c → (v : OrderedJson) × (get (codes "states") members ≡ Some v)
states_there members (Some v) i c is at = (v, is)
states_there members None i c is at =
    let nothing : slice_get [] i ≡ Some c = ap (λ (l : List MemberParts). slice_get l i) (sym (no_children members is)) ∙ at in absurd (cc)

not_empty : (children : List MemberParts) (i : ℕ) (c : MemberParts) → slice_get children i ≡ Some c → is_empty children ≡ false
not_empty [] i c at = absurd (cc)
not_empty (m ∷ children) i c at = refl

-- a node with a child that is atomic has `type`
typed_atomic : (members : List MemberParts) (type : Option OrderedJson) → get (codes "type") members ≡ type → is_empty (children_of members) ≡ false
    → kind_of_members members ≡ Atomic → (v : OrderedJson) × (get (codes "type") members ≡ Some v)
typed_atomic members (Some v) is some atomic = (v, is)
typed_atomic members None is some atomic =
    absurd (never (children_of members) some (sym (untyped members is) ∙ atomic))
  where
    never : (children : List MemberParts) → is_empty children ≡ false → kind_by_fields children members ≡ Atomic → ⊥
    never [] some atomic = let both : true ≡ false = some in cc
    never (c ∷ children) some atomic = let both : Compound ≡ Atomic = atomic in cc

-- no atomic node without faults has a child
no_atomic : (parent : Option ℕ) (json : OrderedJson) → HasNoFaultAs (role_below parent) json → node_kind json ≡ Atomic → is_empty (children_of (members_of json)) ≡ false → ⊥
no_atomic parent json clean is some =
    let by = typed_atomic (members_of json) (get (codes "type") (members_of json)) refl some is in
    let fault = BadKind (place_of by.0) in
    let faults : Contains (atomic_faults Atomic (members_of json)) fault = rw some (there_is (get (codes "type") (members_of json)) by.0 by.1) in
    let P : NodeKind → Type 0 = λ k. Contains (atomic_faults k (members_of json)) fault in
    no_atomic_fault parent json fault clean (subst P (sym is) faults)

-- nor has a final or history node
no_outer : (parent : Option ℕ) (json : OrderedJson) (kind : NodeKind) (i : ℕ) (c : MemberParts) → node_kind json ≡ kind → HasNoFaultAs (role_below parent) json
    → slice_get (children_of (members_of json)) i ≡ Some c → is_inner kind ≡ false → ⊥
no_outer None json kind i c is clean at outer =
    let both : true ≡ false = sym (inner_root json clean) ∙ ap is_inner is ∙ outer in cc
no_outer (Some n) json kind i c is clean at outer =
    let states = states_there (members_of json) (get (codes "states") (members_of json)) i c refl at in
    let unknown : member_role role.State kind (codes "states") ≡ None = rw outer refl in
    key_faultless role.State json (codes "states") states.0 clean states.1 (ap (λ k. member_role role.State k (codes "states")) is ∙ unknown)

may_have : (parent : Option ℕ) (json : OrderedJson) (kind : NodeKind) (i : ℕ) (c : MemberParts) → node_kind json ≡ kind → HasNoFaultAs (role_below parent) json
    → slice_get (children_of (members_of json)) i ≡ Some c → MayHaveChildren kind
may_have parent json Compound i c is clean at = tt
may_have parent json Parallel i c is clean at = tt
may_have parent json Atomic i c is clean at = no_atomic parent json clean is (not_empty (children_of (members_of json)) i c at)
may_have parent json Final i c is clean at = no_outer parent json Final i c is clean at refl
may_have parent json History i c is clean at = no_outer parent json History i c is clean at refl

-- a node without faults that has a child is compound or parallel
pub with_child_may : (y : NodeParts) (i : ℕ) (c : MemberParts) → HasNoFaultAs (node_role y) y.json
    → slice_get (children_of (members_of y.json)) i ≡ Some c → MayHaveChildren (node_kind y.json)
with_child_may y i c clean at = may_have y.parent y.json (node_kind y.json) i c refl clean at

-- ---- children that are no history nodes

some_other : (parent : Option ℕ) (json : OrderedJson) (kind : NodeKind) → node_kind json ≡ kind → HasNoFaultAs (role_below parent) json → MayHaveChildren kind
    → list_all is_history_child (children_of (members_of json)) ≡ false
some_other parent json Compound is clean may =
    let P : MachineFault → NodeKind → Type 0 = λ f k. Contains (empty_faults k (members_of json) (place_of json)) f in
    fails (list_all is_history_child (children_of (members_of json))) (EmptyStates (place_of json))
    (λ f has. no_empty_fault parent json f clean (subst (P f) (sym is) has))
some_other parent json Parallel is clean may =
    let P : MachineFault → NodeKind → Type 0 = λ f k. Contains (empty_faults k (members_of json) (place_of json)) f in
    fails (list_all is_history_child (children_of (members_of json))) (EmptyStates (place_of json))
    (λ f has. no_empty_fault parent json f clean (subst (P f) (sym is) has))
some_other parent json Atomic is clean may = absurd may
some_other parent json Final is clean may = absurd may
some_other parent json History is clean may = absurd may

-- the first fails, or a later one
first_fails : {X : Type 0} (test : X → Bool) (x : X) (xs : List X) (b : Bool) → test x ≡ b → list_all test (x ∷ xs) ≡ false
    → (list_all test xs ≡ false → (i : ℕ) × (y : X) × (slice_get xs i ≡ Some y) × (test y ≡ false))
    → (i : ℕ) × (y : X) × (slice_get (x ∷ xs) i ≡ Some y) × (test y ≡ false)
first_fails test x xs false here is later = (0, x, refl, here)
first_fails test x xs true here is later =
    let rest : list_all test (x ∷ xs) ≡ list_all test xs = rw here refl in
    let found = later (sym rest ∙ is) in
    (suc found.0, found.1, found.2, found.3)

-- one of a list that don't all pass
one_fails : {X : Type 0} (test : X → Bool) (xs : List X) → list_all test xs ≡ false → (i : ℕ) × (x : X) × (slice_get xs i ≡ Some x) × (test x ≡ false)
one_fails test [] is = let both : true ≡ false = is in absurd (cc)
one_fails test (x ∷ xs) is = first_fails test x xs (test x) refl is (one_fails test xs)

-- a compound or parallel node without faults has a child that is no history node
pub other_child_there : (y : NodeParts) → HasNoFaultAs (node_role y) y.json → MayHaveChildren (node_kind y.json)
    → (i : ℕ) × (c : MemberParts) × (slice_get (children_of (members_of y.json)) i ≡ Some c) × (is_history_child c ≡ false)
other_child_there y clean may =
    one_fails is_history_child (children_of (members_of y.json)) (some_other y.parent y.json (node_kind y.json) refl clean may)
