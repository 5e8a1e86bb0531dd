-- What a value without faults lets its reader rely on: its parts have none, and it has the form
-- that its role takes.
use Rattle.std.proofs.Common.{◌≡◌, ◌⊎◌, ℕ, zero, suc, Bool, true, false, List, [], ◌∷◌, Some, None, Option, refl, ap, sym, ◌∙◌, subst, inl, inr}
use Rattle.std.specs.Prelude.{Contains, IfSome, is_none, not, option_and_then, option_map, slice_get, unwrap_or}
use Rattle.std.specs.List.{flat_map}
use Rattle.std.specs.Option.{option_map_or}
use Rattle.std.specs.Str.{bytes_eq}
use Rattle.std.proofs.lemmas.List.Elements.{Contains-append_left, Contains-append_right}
use Rattle.std.proofs.lemmas.Slice.Eq.{bytes_eq-Decides}
use Rattle.ordered_json.specs.declared.json.OrderedJson.{OrderedJson}
use Rattle.ordered_json.specs.Words.{MemberParts, as_list, get, place_of}
use Rattle.node_tree.specs.declared.node.Node.{Node}
use Rattle.step_sets.proofs.ListLemmas.{Contains-here}
use Rattle.machine_json.specs.declared.fault.MachineFault.{MachineFault}
use Rattle.machine_json.specs.declared.fault.MachineFault.TheVariants.{BadKind, UnknownField}
use Rattle.machine_json.specs.declared.field.Field.{Field}
use Rattle.machine_json.specs.declared.kind_word.NodeKind.{NodeKind}
use Rattle.machine_json.specs.declared.role.Role.{Role}
use Rattle.machine_json.specs.declared.role.Role.TheVariants as role
use Rattle.machine_json.specs.Faultless.{IsFaultlessAs}
use Rattle.machine_json.specs.Fields.{field_of, stands_on}
use Rattle.machine_json.specs.FirstPass.{HasMemberFault, HasOwnFault, fault_if, items_of, key_faults, value_faults}
use Rattle.machine_json.specs.FirstPass.HasFaultAs.{own, at_key, in_item, in_member}
use Rattle.machine_json.specs.Meaning.{listed}
use Rattle.machine_json.specs.NodeKinds.{members_of, node_kind}
use Rattle.machine_json.specs.Nodes.{NodeParts}
use Rattle.machine_json.specs.Roles.{field_value, item_role, member_role, node_field, standing_role, takes, takes_key}
use Rattle.machine_json.specs.Rows.{fields_in}
use Rattle.machine_json.specs.SecondPass.{HasLinkFault, HasOwnLinkFault, node_role, said_role}
use Rattle.machine_json.specs.SecondPass.HasLinkFault.{own_link, link_in_item, link_in_member}
use Rattle.machine_json.proofs.NodeLemmas.{skipped}
use Rattle.machine_json.proofs.PartLemmas.{to_part}

-- ---- the parts of a value

pub of_item : (rows : List Node) (source : ℕ) (role : Role) (json : OrderedJson) (k : ℕ) (item : OrderedJson)
    → IsFaultlessAs rows source role json → slice_get (items_of json) k ≡ Some item → IsFaultlessAs rows source (item_role role) item
of_item rows source role json k item sound at = record {
  first_pass = λ fault has. sound.first_pass fault (in_item role json fault k item at has);
  second_pass = λ fault has. sound.second_pass fault (link_in_item role json fault k item at has);
}

-- a member that has a key
abbrev pub IsUnder : List ℕ → List MemberParts → OrderedJson → Type 0
IsUnder key members value =
    (k : ℕ) × (member : MemberParts) × (slice_get members k ≡ Some member) × (member.key ≡ key) × (member.value ≡ value)

found_by_test : (key : List ℕ) (m : MemberParts) (members : List MemberParts) (value : OrderedJson) (test : Bool) → bytes_eq m.key key ≡ test
    → get key (m ∷ members) ≡ Some value → (get key members ≡ Some value → IsUnder key members value) → IsUnder key (m ∷ members) value
found_by_test key m members value true is found rest =
    let here : get key (m ∷ members) ≡ Some m.value = rw is refl in
    let same : m.value ≡ value = (let both : Some m.value ≡ Some value = sym here ∙ found in cc) in
    (0, m, refl, (bytes_eq-Decides m.key key).0 is, same)
found_by_test key m members value false is found rest =
    let later = rest (sym (skipped key m members is) ∙ found) in
    (suc later.0, later.1, later.2, later.3, later.4)

pub found_under : (key : List ℕ) (members : List MemberParts) (value : OrderedJson) → get key members ≡ Some value → IsUnder key members value
found_under key [] value is = absurd (cc)
found_under key (m ∷ members) value is = found_by_test key m members value (bytes_eq m.key key) refl is (found_under key members value)

-- what stands under a key that the role has
pub of_member_at : (rows : List Node) (source : ℕ) (role part : Role) (json : OrderedJson) (k : ℕ) (member : MemberParts)
    → IsFaultlessAs rows source role json → slice_get (members_of json) k ≡ Some member
    → member_role role (node_kind json) member.key ≡ Some part → said_role part ≡ part → IsFaultlessAs rows source part member.value
of_member_at rows source role part json k member sound at is_part said = record {
  first_pass = λ fault is. sound.first_pass fault (in_member role part json fault k member at is_part is);
  second_pass = λ fault is. sound.second_pass fault (link_in_member role part json fault k member at (ap (option_map said_role) is_part ∙ ap Some said) is);
}

pub of_member : (rows : List Node) (source : ℕ) (role part : Role) (json : OrderedJson) (key : List ℕ) (value : OrderedJson)
    → IsFaultlessAs rows source role json → get key (members_of json) ≡ Some value
    → member_role role (node_kind json) key ≡ Some part → said_role part ≡ part → IsFaultlessAs rows source part value
of_member rows source role part json key value sound at has said =
    let found = found_under key (members_of json) value at in
    let P : OrderedJson → Type 0 = λ v. IsFaultlessAs rows source part v in
    subst P found.4 (of_member_at rows source role part json found.0 found.1 sound found.2 (ap (member_role role (node_kind json)) found.3 ∙ has) said)

-- ---- the fields of a node

known_by_test : (role : Role) (kind : NodeKind) (member : MemberParts) (test : Bool) → is_none (member_role role kind member.key) ≡ test
    → ((fault : MachineFault) → ¬ Contains (key_faults role kind member) fault) → test ≡ false
known_by_test role kind member false is none = refl
known_by_test role kind member true is none =
    absurd (none (UnknownField member.key_place) (rw is (Contains-here (UnknownField member.key_place) (fault_if (not (takes_key role member.key)) (BadKind member.key_place)))))

-- a key that an object has is one that it may have
pub is_known : (rows : List Node) (source : ℕ) (role : Role) (json : OrderedJson) (key : List ℕ) (value : OrderedJson)
    → IsFaultlessAs rows source role json → get key (members_of json) ≡ Some value → is_none (member_role role (node_kind json) key) ≡ false
is_known rows source role json key value sound at =
    let found = found_under key (members_of json) value at in
    let member = found.1 in
    sym (ap (λ k. is_none (member_role role (node_kind json) k)) found.3)
    ∙ known_by_test role (node_kind json) member (is_none (member_role role (node_kind json) member.key)) refl
    (λ fault has. sound.first_pass fault (at_key role json fault found.0 member found.2 has))

role_by_test : (field : Field) (root : Bool) (kind : NodeKind) (test : Bool) → stands_on field root kind ≡ test
    → is_none (standing_role root kind field) ≡ false → standing_role root kind field ≡ Some (field_value field)
role_by_test field root kind true is known = rw is refl
role_by_test field root kind false is known =
    let none : is_none (standing_role root kind field) ≡ true = rw is refl in
    let both : true ≡ false = sym none ∙ known in absurd (cc)

pub by_parent : (parent : Option ℕ) (kind : NodeKind) (key : List ℕ)
    → member_role (option_map_or (λ (p : ℕ). role.State) parent role.Root) kind key ≡ node_field (is_none parent) kind key
by_parent None kind key = refl
by_parent (Some p) kind key = refl

-- the role of a field that a node has
field_role : (rows : List Node) (source : ℕ) (node : NodeParts) (key : List ℕ) (field : Field) (value : OrderedJson)
    → field_of key ≡ Some field → IsFaultlessAs rows source (node_role node) node.json → get key (fields_in node) ≡ Some value
    → member_role (node_role node) (node_kind node.json) key ≡ Some (field_value field)
field_role rows source node key field value is_field sound at =
    let kind = node_kind node.json in
    let root = is_none node.parent in
    let is : member_role (node_role node) kind key ≡ standing_role root kind field = by_parent node.parent kind key ∙ ap (option_and_then (standing_role root kind)) is_field in
    let known : is_none (standing_role root kind field) ≡ false = sym (ap is_none is) ∙ is_known rows source (node_role node) node.json key value sound at in
    is ∙ role_by_test field root kind (stands_on field root kind) refl known

if_some : {X : Type 0} (P : X → Type 0) (o : Option X) → ((x : X) → o ≡ Some x → P x) → IfSome o P
if_some P None each = tt
if_some P (Some x) each = each x refl

-- what stands under the key of a field of a node
pub of_field : (rows : List Node) (source : ℕ) (node : NodeParts) (key : List ℕ) (field : Field)
    → field_of key ≡ Some field → said_role (field_value field) ≡ field_value field
    → IsFaultlessAs rows source (node_role node) node.json → IfSome (get key (fields_in node)) (IsFaultlessAs rows source (field_value field))
of_field rows source node key field is_field said sound =
    if_some (IsFaultlessAs rows source (field_value field)) (get key (fields_in node))
    (λ value at. of_member rows source (node_role node) (field_value field) node.json key value sound at (field_role rows source node key field value is_field sound at) said)

-- what stands under a key that every object of the role may have
pub of_key : (rows : List Node) (source : ℕ) (role part : Role) (json : OrderedJson) (key : List ℕ)
    → member_role role (node_kind json) key ≡ Some part → said_role part ≡ part
    → IsFaultlessAs rows source role json → IfSome (get key (members_of json)) (IsFaultlessAs rows source part)
of_key rows source role part json key has said sound =
    if_some (IsFaultlessAs rows source part) (get key (members_of json))
    (λ value at. of_member rows source role part json key value sound at has said)

-- ---- the parts of a fault of the second pass

-- its own, or of its items, or of its members
abbrev IsLinkOfPart : List Node → ℕ → Role → OrderedJson → MachineFault → Type 0
IsLinkOfPart rows source role json fault =
    HasOwnLinkFault rows source role json fault
    ⊎ (((k : ℕ) × (item : OrderedJson) × (slice_get (items_of json) k ≡ Some item) × HasLinkFault rows source (item_role role) item fault)
    ⊎ ((k : ℕ) × (member : MemberParts) × (part : Role) × (slice_get (members_of json) k ≡ Some member)
    × (option_map said_role (member_role role (node_kind json) member.key) ≡ Some part) × HasLinkFault rows source part member.value fault))

to_link : (rows : List Node) (source : ℕ) (role : Role) (json : OrderedJson) (fault : MachineFault) → HasLinkFault rows source role json fault → IsLinkOfPart rows source role json fault
to_link rows source _ _ _ (own_link role json fault is) = inl is
to_link rows source _ _ _ (link_in_item role json fault k item at is) = inr (inl (k, item, at, is))
to_link rows source _ _ _ (link_in_member role part json fault k member at has is) = inr (inr (k, member, part, at, has, is))

-- ---- one value, or the items of a list

-- the one value is in the role of the items too, where its members are there for the same
pub as_one : (rows : List Node) (source : ℕ) (many one : Role) (json : OrderedJson) → items_of json ≡ []
    → ((fault : MachineFault) → HasOwnFault one json fault → HasOwnFault many json fault)
    → ((m : MemberParts) (fault : MachineFault) → HasMemberFault one (node_kind json) m fault → HasMemberFault many (node_kind json) m fault)
    → ((fault : MachineFault) → HasOwnLinkFault rows source one json fault → HasOwnLinkFault rows source many json fault)
    → ((key : List ℕ) → member_role one (node_kind json) key ≡ member_role many (node_kind json) key)
    → IsFaultlessAs rows source many json → IsFaultlessAs rows source one json
as_one rows source many one json no_item owns members links same sound = record {
  first_pass = λ fault has. elim (to_part one json fault has) [
    | inl itself ↦ sound.first_pass fault (own many json fault (owns fault itself))
    | inr part ↦ elim part [
      | inl item ↦ (let at : slice_get [] item.0 ≡ Some item.1 = ap (λ l. slice_get l item.0) (sym no_item) ∙ item.2 in absurd (cc))
      | inr member ↦ elim (members member.1 fault member.3) [
        | inl key ↦ sound.first_pass fault (at_key many json fault member.0 member.1 member.2 key)
        | inr within ↦ sound.first_pass fault (in_member many within.0 json fault member.0 member.1 member.2 within.1 within.2)
      ]
    ]
  ];
  second_pass = λ fault has. elim (to_link rows source one json fault has) [
    | inl itself ↦ sound.second_pass fault (own_link many json fault (links fault itself))
    | inr part ↦ elim part [
      | inl item ↦ (let at : slice_get [] item.0 ≡ Some item.1 = ap (λ l. slice_get l item.0) (sym no_item) ∙ item.2 in absurd (cc))
      | inr member ↦ sound.second_pass fault (link_in_member many member.2 json fault member.0 member.1 member.3 (sym (ap (option_map said_role) (same member.1.key)) ∙ member.4) member.5)
    ]
  ];
}

pub one_only : (json item : OrderedJson) (k : ℕ) → slice_get (json ∷ []) k ≡ Some item → json ≡ item
one_only json item zero at = cc
one_only json item (suc k) at = absurd (cc)

by_list : (rows : List Node) (source : ℕ) (many : Role) (json item : OrderedJson) (k : ℕ) (list : Option (List OrderedJson)) → as_list json ≡ list
    → (items_of json ≡ [] → as_list json ≡ None → IsFaultlessAs rows source (item_role many) json)
    → IsFaultlessAs rows source many json → slice_get (unwrap_or list (json ∷ [])) k ≡ Some item → IsFaultlessAs rows source (item_role many) item
by_list rows source many json item k (Some items) is alone sound at =
    let listed_items : items_of json ≡ items = ap (λ o. unwrap_or o []) is in
    of_item rows source many json k item sound (ap (λ l. slice_get l k) listed_items ∙ at)
by_list rows source many json item k None is alone sound at =
    let P : OrderedJson → Type 0 = λ j. IsFaultlessAs rows source (item_role many) j in
    subst P (one_only json item k at) (alone (ap (λ o. unwrap_or o []) is) is)

transition_alone : (rows : List Node) (source : ℕ) (json : OrderedJson) → IsFaultlessAs rows source role.Transitions json → items_of json ≡ [] → as_list json ≡ None
    → IsFaultlessAs rows source role.Transition json
transition_alone rows source json sound no_item no_list =
    let same : value_faults role.Transition json ≡ value_faults role.Transitions json = rw no_list refl in
    as_one rows source role.Transitions role.Transition json no_item
    (λ fault has. let P : List MachineFault → Type 0 = λ l. Contains l fault in subst P same has)
    (λ m fault has. has) (λ fault has. has) (λ key. refl) sound

-- each of the transitions of a value
pub of_transitions : (rows : List Node) (source : ℕ) (json item : OrderedJson) (k : ℕ) → IsFaultlessAs rows source role.Transitions json
    → slice_get (listed json) k ≡ Some item → IsFaultlessAs rows source role.Transition item
of_transitions rows source json item k sound at =
    by_list rows source role.Transitions json item k (as_list json) refl (transition_alone rows source json sound) sound at

invocation_alone : (rows : List Node) (source : ℕ) (json : OrderedJson) → IsFaultlessAs rows source role.Invocations json → items_of json ≡ [] → as_list json ≡ None
    → IsFaultlessAs rows source role.Invocation json
invocation_alone rows source json sound no_item no_list =
    let same : value_faults role.Invocation json ≡ value_faults role.Invocations json = rw no_list refl in
    as_one rows source role.Invocations role.Invocation json no_item
    (λ fault has. let P : List MachineFault → Type 0 = λ l. Contains l fault in subst P same has)
    (λ m fault has. has) (λ fault has. has) (λ key. refl) sound

-- each of the invocations of a value
pub of_invocations : (rows : List Node) (source : ℕ) (json item : OrderedJson) (k : ℕ) → IsFaultlessAs rows source role.Invocations json
    → slice_get (listed json) k ≡ Some item → IsFaultlessAs rows source role.Invocation item
of_invocations rows source json item k sound at =
    by_list rows source role.Invocations json item k (as_list json) refl (invocation_alone rows source json sound) sound at

-- ---- the form of a value

passes : (test : Bool) (fault : MachineFault) → ((f : MachineFault) → ¬ Contains (fault_if (not test) fault) f) → test ≡ true
passes true fault none = refl
passes false fault none = absurd (none fault (Contains-here fault []))

-- a value is one that its role takes
pub is_taken : (rows : List Node) (source : ℕ) (role : Role) (json : OrderedJson)
    → ((fault : MachineFault) → Contains (value_faults role json) fault → HasOwnFault role json fault)
    → IsFaultlessAs rows source role json → takes role json ≡ true
is_taken rows source role json itself sound =
    passes (takes role json) (BadKind (place_of json)) (λ fault has. sound.first_pass fault (own role json fault (itself fault has)))

pub fails : (test : Bool) (fault : MachineFault) → ((f : MachineFault) → ¬ Contains (fault_if test fault) f) → test ≡ false
fails true fault none = absurd (none fault (Contains-here fault []))
fails false fault none = refl

-- an item of a part is one of the whole
pub Contains-in_flat_map : {X Y : Type 0} (f : X → List Y) (xs : List X) (k : ℕ) (x : X) (y : Y)
    → slice_get xs k ≡ Some x → Contains (f x) y → Contains (flat_map f xs) y
Contains-in_flat_map f [] k x y at has = absurd (cc)
Contains-in_flat_map {X} {Y} f (z ∷ xs) zero x y at has =
    let same : x ≡ z = cc in
    let P : X → Type 0 = λ w. Contains (f w) y in
    Contains-append_left (f z) (flat_map f xs) y (subst P same has)
Contains-in_flat_map f (z ∷ xs) (suc k) x y at has = Contains-append_right (f z) (flat_map f xs) y (Contains-in_flat_map f xs k x y at has)
