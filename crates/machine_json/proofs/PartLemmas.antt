-- The faults of a value are its own and those of its parts.
use Rattle.std.proofs.Common.{◌≡◌, ◌⊎◌, ℕ, ◌<◌, List, [], map, Some, None, Option, ap, sym, ◌∙◌, subst, inl, inr, length, arith, rules}
use Rattle.std.specs.Prelude.{Contains, Bool, ℤ}
use Rattle.std.proofs.lemmas.Option.{slice_get_within}
use Rattle.ordered_json.specs.declared.json.Member.{Member}
use Rattle.ordered_json.specs.declared.json.OrderedJson.{the_lemmas as json_lemmas}
use Rattle.ordered_json.specs.declared.json.OrderedJson.TheVariants as json
use Rattle.ordered_json.specs.declared.json.OrderedJson.{OrderedJson}
use Rattle.ordered_json.specs.Words.{MemberParts, member_parts}
use Rattle.machine_json.specs.declared.fault.MachineFault.{MachineFault}
use Rattle.machine_json.specs.declared.kind_word.NodeKind.{NodeKind}
use Rattle.machine_json.specs.declared.role.Role.{Role}
use Rattle.machine_json.specs.FirstPass.{HasFaultAs, HasMemberFault, HasOwnFault, IsAmongItems, IsAmongMembers, TellsFirst, earlier, earliest, items_of, key_faults}
use Rattle.machine_json.specs.FirstPass.HasFaultAs.{own, at_key, in_item, in_member}
use Rattle.machine_json.specs.NodeKinds.{members_of, node_kind}
use Rattle.machine_json.specs.Roles.{item_role, member_role}
use Rattle.machine_json.proofs.FirstLemmas.{as_set, both, of_list as of_faults}

-- its own, or of its items, or of its members
abbrev pub IsOfPart : Role → OrderedJson → MachineFault → Type 0
IsOfPart role json fault =
    HasOwnFault role json fault ⊎ (IsAmongItems (item_role role) (items_of json) fault ⊎ IsAmongMembers role (node_kind json) (members_of json) fault)

pub to_part : (role : Role) (json : OrderedJson) (fault : MachineFault) → HasFaultAs role json fault → IsOfPart role json fault
to_part _ _ _ (own role json fault is) = inl is
to_part _ _ _ (at_key role json fault k member at is) = inr (inr (k, member, at, inl is))
to_part _ _ _ (in_item role json fault k item at is) = inr (inl (k, item, at, is))
to_part _ _ _ (in_member role part json fault k member at has is) = inr (inr (k, member, at, inr (part, has, is)))

pub from_part : (role : Role) (json : OrderedJson) (fault : MachineFault) → IsOfPart role json fault → HasFaultAs role json fault
from_part role json fault (inl is) = own role json fault is
from_part role json fault (inr (inl is)) = in_item role json fault is.0 is.1 is.2 is.3
from_part role json fault (inr (inr is)) = elim is.3 [
  | inl key ↦ at_key role json fault is.0 is.1 is.2 key
  | inr within ↦ in_member role within.0 json fault is.0 is.1 is.2 within.1 within.2
]

-- ---- the parts of each kind of JSON

pub items-List : (place : ℕ) (items : List OrderedJson) → items_of (json.List place items) ≡ items
items-List place items = search (rules, json_lemmas)

pub members-List : (place : ℕ) (items : List OrderedJson) → members_of (json.List place items) ≡ []
members-List place items = search (rules, json_lemmas)

pub items-Object : (place : ℕ) (members : List Member) → items_of (json.Object place members) ≡ []
items-Object place members = search (rules, json_lemmas)

pub members-Object : (place : ℕ) (members : List Member) → members_of (json.Object place members) ≡ map member_parts members
members-Object place members = search (rules, json_lemmas)

items-Null : (place : ℕ) → items_of (json.Null place) ≡ []
items-Null place = search (rules, json_lemmas)

members-Null : (place : ℕ) → members_of (json.Null place) ≡ []
members-Null place = search (rules, json_lemmas)

items-Bool : (place : ℕ) (truth : Bool) → items_of (json.Bool place truth) ≡ []
items-Bool place truth = search (rules, json_lemmas)

members-Bool : (place : ℕ) (truth : Bool) → members_of (json.Bool place truth) ≡ []
members-Bool place truth = search (rules, json_lemmas)

items-Int : (place : ℕ) (n : ℤ) → items_of (json.Int place n) ≡ []
items-Int place n = search (rules, json_lemmas)

members-Int : (place : ℕ) (n : ℤ) → members_of (json.Int place n) ≡ []
members-Int place n = search (rules, json_lemmas)

items-Text : (place : ℕ) (text : List ℕ) → items_of (json.Text place text) ≡ []
items-Text place text = search (rules, json_lemmas)

members-Text : (place : ℕ) (text : List ℕ) → members_of (json.Text place text) ≡ []
members-Text place text = search (rules, json_lemmas)

-- no list and no object
abbrev pub IsScalar : OrderedJson → Type 0
IsScalar whole =
    ((place : ℕ) × (whole ≡ json.Null place))
    ⊎ (((place : ℕ) × (truth : Bool) × (whole ≡ json.Bool place truth))
    ⊎ (((place : ℕ) × (n : ℤ) × (whole ≡ json.Int place n)) ⊎ ((place : ℕ) × (text : List ℕ) × (whole ≡ json.Text place text))))

pub scalar_items : (whole : OrderedJson) → IsScalar whole → items_of whole ≡ []
scalar_items whole (inl is) = ap items_of is.1 ∙ items-Null is.0
scalar_items whole (inr (inl is)) = ap items_of is.2 ∙ items-Bool is.0 is.1
scalar_items whole (inr (inr (inl is))) = ap items_of is.2 ∙ items-Int is.0 is.1
scalar_items whole (inr (inr (inr is))) = ap items_of is.2 ∙ items-Text is.0 is.1

pub scalar_members : (whole : OrderedJson) → IsScalar whole → members_of whole ≡ []
scalar_members whole (inl is) = ap members_of is.1 ∙ members-Null is.0
scalar_members whole (inr (inl is)) = ap members_of is.2 ∙ members-Bool is.0 is.1
scalar_members whole (inr (inr (inl is))) = ap members_of is.2 ∙ members-Int is.0 is.1
scalar_members whole (inr (inr (inr is))) = ap members_of is.2 ∙ members-Text is.0 is.1

-- no object
abbrev pub IsNoObject : OrderedJson → Type 0
IsNoObject whole =
    ((place : ℕ) × (whole ≡ json.Null place))
    ⊎ (((place : ℕ) × (truth : Bool) × (whole ≡ json.Bool place truth))
    ⊎ (((place : ℕ) × (n : ℤ) × (whole ≡ json.Int place n))
    ⊎ (((place : ℕ) × (text : List ℕ) × (whole ≡ json.Text place text)) ⊎ ((place : ℕ) × (items : List OrderedJson) × (whole ≡ json.List place items)))))

pub no_members : (whole : OrderedJson) → IsNoObject whole → members_of whole ≡ []
no_members whole (inl is) = ap members_of is.1 ∙ members-Null is.0
no_members whole (inr (inl is)) = ap members_of is.2 ∙ members-Bool is.0 is.1
no_members whole (inr (inr (inl is))) = ap members_of is.2 ∙ members-Int is.0 is.1
no_members whole (inr (inr (inr (inl is)))) = ap members_of is.2 ∙ members-Text is.0 is.1
no_members whole (inr (inr (inr (inr is)))) = ap members_of is.2 ∙ members-List is.0 is.1

-- ---- the first fault, from those of the parts

no_item : (role : Role) (items : List OrderedJson) (fault : MachineFault) → items ≡ [] → IsAmongItems role items fault → ⊥
no_item role items fault none is =
    let within : is.0 < length items = slice_get_within items is.0 is.1 is.2 in
    let empty : length items ≡ 0 = ap length none in omega arith

no_member : (role : Role) (kind : NodeKind) (members : List MemberParts) (fault : MachineFault) → members ≡ [] → IsAmongMembers role kind members fault → ⊥
no_member role kind members fault none is =
    let within : is.0 < length members = slice_get_within members is.0 is.1 is.2 in
    let empty : length members ≡ 0 = ap length none in omega arith

moved_items : (role other : Role) (items xs : List OrderedJson) (fault : MachineFault) → role ≡ other → items ≡ xs → IsAmongItems role items fault → IsAmongItems other xs fault
moved_items role other items xs fault same_role same_items is =
    let P : Role → Type 0 = λ r. IsAmongItems r items fault in
    let Q : List OrderedJson → Type 0 = λ l. IsAmongItems other l fault in
    subst Q same_items (subst P same_role is)

moved_members : (role : Role) (kind other : NodeKind) (members xs : List MemberParts) (fault : MachineFault) → kind ≡ other → members ≡ xs → IsAmongMembers role kind members fault → IsAmongMembers role other xs fault
moved_members role kind other members xs fault same_kind same_members is =
    let P : NodeKind → Type 0 = λ k. IsAmongMembers role k members fault in
    let Q : List MemberParts → Type 0 = λ l. IsAmongMembers role other l fault in
    subst Q same_members (subst P same_kind is)

pub of_scalar : (role : Role) (json : OrderedJson) (found : Option MachineFault) → IsScalar json
    → TellsFirst found (HasOwnFault role json) → TellsFirst found (HasFaultAs role json)
of_scalar role json found scalar first =
    as_set found (HasOwnFault role json) (HasFaultAs role json)
    (λ f is. from_part role json f (inl is))
    (λ f is. elim (to_part role json f is) [
      | inl itself ↦ itself
      | inr part ↦ elim part [
        | inl item ↦ absurd (no_item (item_role role) (items_of json) f (scalar_items json scalar) item)
        | inr member ↦ absurd (no_member role (node_kind json) (members_of json) f (scalar_members json scalar) member)
      ]
    ])
    first

pub of_list : (role part : Role) (whole : OrderedJson) (place : ℕ) (items xs : List OrderedJson) (found inner : Option MachineFault)
    → whole ≡ json.List place items → part ≡ item_role role → xs ≡ items
    → TellsFirst found (HasOwnFault role whole) → TellsFirst inner (IsAmongItems part xs)
    → TellsFirst (earlier found inner) (HasFaultAs role whole)
of_list role part whole place items xs found inner is is_part is_items first among =
    let same : items_of whole ≡ xs = ap items_of is ∙ items-List place items ∙ sym is_items in
    let none : members_of whole ≡ [] = ap members_of is ∙ members-List place items in
    as_set (earlier found inner) (λ f. HasOwnFault role whole f ⊎ IsAmongItems part xs f) (HasFaultAs role whole)
    (λ f either. elim either [
      | inl itself ↦ from_part role whole f (inl itself)
      | inr item ↦ from_part role whole f (inr (inl (moved_items part (item_role role) xs (items_of whole) f is_part (sym same) item)))
    ])
    (λ f there. elim (to_part role whole f there) [
      | inl itself ↦ inl itself
      | inr of_part ↦ elim of_part [
        | inl item ↦ inr (moved_items (item_role role) part (items_of whole) xs f (sym is_part) same item)
        | inr member ↦ absurd (no_member role (node_kind whole) (members_of whole) f none member)
      ]
    ])
    (both found inner (HasOwnFault role whole) (IsAmongItems part xs) first among)

pub of_object : (role : Role) (kind : NodeKind) (whole : OrderedJson) (place : ℕ) (members xs : List Member) (found inner : Option MachineFault)
    → whole ≡ json.Object place members → kind ≡ node_kind whole → xs ≡ members
    → TellsFirst found (HasOwnFault role whole) → TellsFirst inner (IsAmongMembers role kind (map member_parts xs))
    → TellsFirst (earlier found inner) (HasFaultAs role whole)
of_object role kind whole place members xs found inner is is_kind is_members first among =
    let parts = map member_parts xs in
    let same : members_of whole ≡ parts = ap members_of is ∙ members-Object place members ∙ ap (map member_parts) (sym is_members) in
    let none : items_of whole ≡ [] = ap items_of is ∙ items-Object place members in
    as_set (earlier found inner) (λ f. HasOwnFault role whole f ⊎ IsAmongMembers role kind parts f) (HasFaultAs role whole)
    (λ f either. elim either [
      | inl itself ↦ from_part role whole f (inl itself)
      | inr member ↦ from_part role whole f (inr (inr (moved_members role kind (node_kind whole) parts (members_of whole) f is_kind (sym same) member)))
    ])
    (λ f there. elim (to_part role whole f there) [
      | inl itself ↦ inl itself
      | inr of_part ↦ elim of_part [
        | inl item ↦ absurd (no_item (item_role role) (items_of whole) f none item)
        | inr member ↦ inr (moved_members role (node_kind whole) kind (members_of whole) parts f (sym is_kind) same member)
      ]
    ])
    (both found inner (HasOwnFault role whole) (IsAmongMembers role kind parts) first among)

pub of_member : (role : Role) (kind : NodeKind) (member : MemberParts) (part : Role) (key_first inner : Option MachineFault)
    → member_role role kind member.key ≡ Some part → key_first ≡ earliest (key_faults role kind member)
    → TellsFirst inner (HasFaultAs part member.value) → TellsFirst (earlier key_first inner) (HasMemberFault role kind member)
of_member role kind member part key_first inner has is first =
    let P : Option MachineFault → Type 0 = λ a. TellsFirst a (Contains (key_faults role kind member)) in
    as_set (earlier key_first inner) (λ f. Contains (key_faults role kind member) f ⊎ HasFaultAs part member.value f) (HasMemberFault role kind member)
    (λ f either. elim either [ inl key ↦ inl key | inr within ↦ inr (part, has, within) ])
    (λ f there. elim there [
      | inl key ↦ inl key
      | inr within ↦
          let found : Some within.0 ≡ Some part = sym within.1 ∙ has in
          let same : within.0 ≡ part = cc in
          let Q : Role → Type 0 = λ r. HasFaultAs r member.value f in inr (subst Q same within.2)
    ])
    (both key_first inner (Contains (key_faults role kind member)) (HasFaultAs part member.value) (subst P (sym is) (of_faults (key_faults role kind member))) first)

pub of_key : (role : Role) (kind : NodeKind) (member : MemberParts) (key_first : Option MachineFault)
    → member_role role kind member.key ≡ None → key_first ≡ earliest (key_faults role kind member)
    → TellsFirst key_first (HasMemberFault role kind member)
of_key role kind member key_first none is =
    let P : Option MachineFault → Type 0 = λ a. TellsFirst a (Contains (key_faults role kind member)) in
    as_set key_first (Contains (key_faults role kind member)) (HasMemberFault role kind member)
    (λ f key. inl key)
    (λ f there. elim there [ inl key ↦ key | inr within ↦ let found : None ≡ Some within.0 = sym none ∙ within.1 in absurd (cc) ])
    (subst P (sym is) (of_faults (key_faults role kind member)))
