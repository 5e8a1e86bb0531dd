-- The faults of texts that lead to nodes are a value's own and those of its parts.
use Rattle.std.proofs.Common.{◌≡◌, ◌⊎◌, ℕ, ◌<◌, ◌+◌, List, [], ◌∷◌, ◌++◌, map, Some, None, Option, ap, sym, ◌∙◌, subst, inl, inr, length, arith, take, get_or, append-nil}
use Rattle.std.specs.Prelude.{Contains, option_map, unwrap_or}
use Rattle.std.specs.List.{flat_map}
use Rattle.std.proofs.lemmas.List.{flat_map_more, take_more}
use Rattle.std.proofs.lemmas.Option.{slice_get_within}
use Rattle.ordered_json.specs.declared.json.Member.{Member}
use Rattle.ordered_json.specs.declared.json.OrderedJson.{OrderedJson}
use Rattle.ordered_json.specs.declared.json.OrderedJson.TheVariants as json
use Rattle.ordered_json.specs.Words.{MemberParts, as_list, member_parts}
use Rattle.node_tree.specs.declared.node.Node.{Node}
use Rattle.machine_json.specs.declared.fault.MachineFault.{MachineFault}
use Rattle.machine_json.specs.declared.kind_word.NodeKind.{NodeKind}
use Rattle.machine_json.specs.declared.role.Role.{Role}
use Rattle.machine_json.specs.declared.role.Role.TheVariants as roles
use Rattle.machine_json.specs.FirstPass.{TellsFirst, earlier, earliest, items_of}
use Rattle.machine_json.specs.Links.{IsAmongLinkItems, IsAmongLinkMembers}
use Rattle.machine_json.specs.Meaning.{listed}
use Rattle.machine_json.specs.NodeKinds.{members_of, node_kind}
use Rattle.machine_json.specs.Roles.{item_role, member_role}
use Rattle.machine_json.specs.SecondPass.{HasLinkFault, HasOwnLinkFault, IsClash, said_role, text_faults}
use Rattle.machine_json.specs.SecondPass.HasLinkFault.{own_link, link_in_item, link_in_member}
use Rattle.machine_json.proofs.FirstLemmas.{as_set, both, earliest-append, of_list as of_faults}
use Rattle.machine_json.proofs.PartLemmas.{IsScalar, items-List, items-Object, members-List, members-Object, scalar_items, scalar_members}

-- ---- nothing in what isn't read

unread_by : (rows : List Node) (source : ℕ) (role : Role) (whole : OrderedJson) (fault : MachineFault) → role ≡ roles.Unread → HasLinkFault rows source role whole fault → ⊥
unread_by rows source _ _ _ same (own_link role whole fault is) =
    let P : Role → Type 0 = λ r. HasOwnLinkFault rows source r whole fault in subst P same is
unread_by rows source _ _ _ same (link_in_item role whole fault k item at is) =
    unread_by rows source (item_role role) item fault (ap item_role same) is
unread_by rows source _ _ _ same (link_in_member role part whole fault k member at has is) =
    let found : Some roles.Unread ≡ Some part = ap (λ r. option_map said_role (member_role r (node_kind whole) member.key)) (sym same) ∙ has in
    let unread : part ≡ roles.Unread = cc in
    unread_by rows source part member.value fault unread is

pub unread_has_none : (rows : List Node) (source : ℕ) (role : Role) (whole : OrderedJson) → role ≡ roles.Unread → TellsFirst None (HasLinkFault rows source role whole)
unread_has_none rows source role whole same = λ fault is. unread_by rows source role whole fault same is

-- ---- a value and its parts

module _ (rows : List Node) (source : ℕ) where
  -- its own, or of its items, or of its members
  abbrev pub IsOfLinkPart : Role → OrderedJson → MachineFault → Type 0
  IsOfLinkPart role whole fault =
      HasOwnLinkFault rows source role whole fault
      ⊎ (IsAmongLinkItems rows source (item_role role) (items_of whole) fault ⊎ IsAmongLinkMembers rows source role (node_kind whole) (members_of whole) fault)

  to_link_part : (role : Role) (whole : OrderedJson) (fault : MachineFault) → HasLinkFault rows source role whole fault → IsOfLinkPart role whole fault
  to_link_part _ _ _ (own_link role whole fault is) = inl is
  to_link_part _ _ _ (link_in_item role whole fault k item at is) = inr (inl (k, item, at, is))
  to_link_part _ _ _ (link_in_member role part whole fault k member at has is) = inr (inr (k, member, at, (part, has, is)))

  from_link_part : (role : Role) (whole : OrderedJson) (fault : MachineFault) → IsOfLinkPart role whole fault → HasLinkFault rows source role whole fault
  from_link_part role whole fault (inl is) = own_link role whole fault is
  from_link_part role whole fault (inr (inl is)) = link_in_item role whole fault is.0 is.1 is.2 is.3
  from_link_part role whole fault (inr (inr is)) = link_in_member role is.3.0 whole fault is.0 is.1 is.2 is.3.1 is.3.2

  no_link_item : (role : Role) (items : List OrderedJson) (fault : MachineFault) → items ≡ [] → IsAmongLinkItems rows source role items fault → ⊥
  no_link_item role items fault none is =
      let within : is.0 < length items = slice_get_within items is.0 is.1 is.2 in
      let empty : length items ≡ 0 = ap length none in omega arith

  no_link_member : (role : Role) (kind : NodeKind) (members : List MemberParts) (fault : MachineFault) → members ≡ [] → IsAmongLinkMembers rows source role kind members fault → ⊥
  no_link_member role kind members fault none is =
      let within : is.0 < length members = slice_get_within members is.0 is.1 is.2 in
      let empty : length members ≡ 0 = ap length none in omega arith

  moved_items : (role other : Role) (items xs : List OrderedJson) (fault : MachineFault) → role ≡ other → items ≡ xs → IsAmongLinkItems rows source role items fault → IsAmongLinkItems rows source other xs fault
  moved_items role other items xs fault same_role same_items is =
      let P : Role → Type 0 = λ r. IsAmongLinkItems rows source r items fault in
      let Q : List OrderedJson → Type 0 = λ l. IsAmongLinkItems rows source other l fault in
      subst Q same_items (subst P same_role is)

  moved_members : (role : Role) (kind other : NodeKind) (members xs : List MemberParts) (fault : MachineFault) → kind ≡ other → members ≡ xs → IsAmongLinkMembers rows source role kind members fault → IsAmongLinkMembers rows source role other xs fault
  moved_members role kind other members xs fault same_kind same_members is =
      let P : NodeKind → Type 0 = λ k. IsAmongLinkMembers rows source role k members fault in
      let Q : List MemberParts → Type 0 = λ l. IsAmongLinkMembers rows source role other l fault in
      subst Q same_members (subst P same_kind is)

  pub of_link_scalar : (role : Role) (whole : OrderedJson) (found : Option MachineFault) → IsScalar whole
      → TellsFirst found (HasOwnLinkFault rows source role whole) → TellsFirst found (HasLinkFault rows source role whole)
  of_link_scalar role whole found scalar first =
      as_set found (HasOwnLinkFault rows source role whole) (HasLinkFault rows source role whole)
      (λ f is. from_link_part role whole f (inl is))
      (λ f is. elim (to_link_part role whole f is) [
        | inl itself ↦ itself
        | inr part ↦ elim part [
          | inl item ↦ absurd (no_link_item (item_role role) (items_of whole) f (scalar_items whole scalar) item)
          | inr member ↦ absurd (no_link_member role (node_kind whole) (members_of whole) f (scalar_members whole scalar) member)
        ]
      ])
      first

  pub of_link_list : (role part : Role) (whole : OrderedJson) (place : ℕ) (items xs : List OrderedJson) (found inner : Option MachineFault)
      → whole ≡ json.List place items → part ≡ item_role role → xs ≡ items
      → TellsFirst found (HasOwnLinkFault rows source role whole) → TellsFirst inner (IsAmongLinkItems rows source part xs)
      → TellsFirst (earlier found inner) (HasLinkFault rows source role whole)
  of_link_list role part whole place items xs found inner is is_part is_items first among =
      let same : items_of whole ≡ xs = ap items_of is ∙ items-List place items ∙ sym is_items in
      let none : members_of whole ≡ [] = ap members_of is ∙ members-List place items in
      as_set (earlier found inner) (λ f. HasOwnLinkFault rows source role whole f ⊎ IsAmongLinkItems rows source part xs f) (HasLinkFault rows source role whole)
      (λ f either. elim either [
        | inl itself ↦ from_link_part role whole f (inl itself)
        | inr item ↦ from_link_part role whole f (inr (inl (moved_items part (item_role role) xs (items_of whole) f is_part (sym same) item)))
      ])
      (λ f there. elim (to_link_part role whole f there) [
        | inl itself ↦ inl itself
        | inr of_part ↦ elim of_part [
          | inl item ↦ inr (moved_items (item_role role) part (items_of whole) xs f (sym is_part) same item)
          | inr member ↦ absurd (no_link_member role (node_kind whole) (members_of whole) f none member)
        ]
      ])
      (both found inner (HasOwnLinkFault rows source role whole) (IsAmongLinkItems rows source part xs) first among)

  pub of_link_object : (role : Role) (kind : NodeKind) (whole : OrderedJson) (place : ℕ) (members xs : List Member) (found inner : Option MachineFault)
      → whole ≡ json.Object place members → kind ≡ node_kind whole → xs ≡ members
      → TellsFirst found (HasOwnLinkFault rows source role whole) → TellsFirst inner (IsAmongLinkMembers rows source role kind (map member_parts xs))
      → TellsFirst (earlier found inner) (HasLinkFault rows source role whole)
  of_link_object role kind whole place members xs found inner is is_kind is_members first among =
      let parts = map member_parts xs in
      let same : members_of whole ≡ parts = ap members_of is ∙ members-Object place members ∙ ap (map member_parts) (sym is_members) in
      let none : items_of whole ≡ [] = ap items_of is ∙ items-Object place members in
      as_set (earlier found inner) (λ f. HasOwnLinkFault rows source role whole f ⊎ IsAmongLinkMembers rows source role kind parts f) (HasLinkFault rows source role whole)
      (λ f either. elim either [
        | inl itself ↦ from_link_part role whole f (inl itself)
        | inr member ↦ from_link_part role whole f (inr (inr (moved_members role kind (node_kind whole) parts (members_of whole) f is_kind (sym same) member)))
      ])
      (λ f there. elim (to_link_part role whole f there) [
        | inl itself ↦ inl itself
        | inr of_part ↦ elim of_part [
          | inl item ↦ absurd (no_link_item (item_role role) (items_of whole) f none item)
          | inr member ↦ inr (moved_members role (node_kind whole) kind (members_of whole) parts f (sym is_kind) same member)
        ]
      ])
      (both found inner (HasOwnLinkFault rows source role whole) (IsAmongLinkMembers rows source role kind parts) first among)

  -- ---- a value itself

  pub first_of_text : (role : Role) (whole : OrderedJson) (found : Option MachineFault)
      → (role ≡ roles.Transitions) ⊎ ((role ≡ roles.Transition) ⊎ (role ≡ roles.Reference))
      → found ≡ earliest (text_faults rows source whole) → TellsFirst found (HasOwnLinkFault rows source role whole)
  first_of_text role whole found set is =
      let faults = text_faults rows source whole in
      let P : Option MachineFault → Type 0 = λ o. TellsFirst o (Contains faults) in
      let R : Role → Type 0 = λ r. TellsFirst found (HasOwnLinkFault rows source r whole) in
      let first : TellsFirst found (Contains faults) = subst P (sym is) (of_faults faults) in
      elim set [
        | inl same ↦ subst R (sym same) first
        | inr other ↦ elim other [ inl same ↦ subst R (sym same) first | inr same ↦ subst R (sym same) first ]
      ]

  -- a list of targets
  pub targets_of_list : (whole : OrderedJson) (targets : List OrderedJson) (astray clash : Option MachineFault) → as_list whole ≡ Some targets
      → astray ≡ earliest (flat_map (text_faults rows source) targets) → TellsFirst clash (IsClash rows source targets)
      → TellsFirst (earlier astray clash) (HasOwnLinkFault rows source roles.Targets whole)
  targets_of_list whole targets astray clash is is_astray first =
      let all = flat_map (text_faults rows source) targets in
      let P : Option MachineFault → Type 0 = λ o. TellsFirst o (Contains all) in
      let items : items_of whole ≡ targets = ap (λ (o : Option (List OrderedJson)). unwrap_or o []) is in
      let list : listed whole ≡ targets = ap (λ (o : Option (List OrderedJson)). unwrap_or o (whole ∷ [])) is in
      as_set (earlier astray clash) (λ f. Contains all f ⊎ IsClash rows source targets f) (HasOwnLinkFault rows source roles.Targets whole)
      (λ f either. elim either [
        | inl has ↦ inl (let Q : List OrderedJson → Type 0 = λ l. Contains (flat_map (text_faults rows source) l) f in subst Q (sym list) has)
        | inr clashes ↦ inr (let Q : List OrderedJson → Type 0 = λ l. IsClash rows source l f in subst Q (sym items) clashes)
      ])
      (λ f either. elim either [
        | inl has ↦ inl (let Q : List OrderedJson → Type 0 = λ l. Contains (flat_map (text_faults rows source) l) f in subst Q list has)
        | inr clashes ↦ inr (let Q : List OrderedJson → Type 0 = λ l. IsClash rows source l f in subst Q items clashes)
      ])
      (both astray clash (Contains all) (IsClash rows source targets) (subst P (sym is_astray) (of_faults all)) first)

  -- a target alone
  pub target_alone : (whole : OrderedJson) (astray : Option MachineFault) → as_list whole ≡ None → astray ≡ earliest (text_faults rows source whole)
      → TellsFirst astray (HasOwnLinkFault rows source roles.Targets whole)
  target_alone whole astray none is =
      let one = text_faults rows source whole in
      let P : Option MachineFault → Type 0 = λ o. TellsFirst o (Contains one) in
      let items : items_of whole ≡ [] = ap (λ (o : Option (List OrderedJson)). unwrap_or o []) none in
      let list : listed whole ≡ whole ∷ [] = ap (λ (o : Option (List OrderedJson)). unwrap_or o (whole ∷ [])) none in
      let same : flat_map (text_faults rows source) (listed whole) ≡ one = ap (flat_map (text_faults rows source)) list ∙ append-nil one in
      as_set astray (Contains one) (HasOwnLinkFault rows source roles.Targets whole)
      (λ f has. inl (let Q : List MachineFault → Type 0 = λ l. Contains l f in subst Q (sym same) has))
      (λ f either. elim either [
        | inl has ↦ (let Q : List MachineFault → Type 0 = λ l. Contains l f in subst Q same has)
        | inr clash ↦
            let within : clash.0 < length (items_of whole) = slice_get_within (items_of whole) clash.0 clash.2 clash.7 in
            let empty : length (items_of whole) ≡ 0 = ap length items in absurd (omega arith)
      ])
      (subst P (sym is) (of_faults one))

-- one text more
pub astray_next : (faults : OrderedJson → List MachineFault) (texts : List OrderedJson) (i : ℕ) (text : OrderedJson) (found next : Option MachineFault) → i < length texts
    → text ≡ get_or texts i text → found ≡ earliest (flat_map faults (take i texts)) → next ≡ earliest (faults text)
    → earlier found next ≡ earliest (flat_map faults (take (i + 1) texts))
astray_next faults texts i text found next inside is was now =
    let more : take (i + 1) texts ≡ take i texts ++ text ∷ [] = take_more texts i text inside ∙ ap (λ t. take i texts ++ t ∷ []) (sym is) in
    let joined : flat_map faults (take i texts) ++ faults text ≡ flat_map faults (take (i + 1) texts) = flat_map_more faults [] (take i texts) text ∙ ap (flat_map faults) (sym more) in
    rw (was, now) (sym (earliest-append (flat_map faults (take i texts)) (faults text)) ∙ ap earliest joined)
