-- A node of a text that has a parent is a member of the parent's `states`, and the key tells which.
use Rattle.std.proofs.Common.{◌≡◌, ◌<◌, ◌≤◌, ◌+◌, ◌⊎◌, ℕ, zero, suc, List, [], ◌∷◌, ◌++◌, Option, None, Some, length, refl, sym, ap, ◌∙◌, subst, arith, inl, inr, length-append}
use Rattle.std.specs.Prelude.{IfSome, slice_get}
use Rattle.std.proofs.lemmas.Option.{slice_get_within}
use Rattle.ordered_json.specs.declared.json.OrderedJson.{OrderedJson}
use Rattle.ordered_json.specs.Words.{MemberParts}
use Rattle.machine_json.specs.NodeKinds.{children_of, members_of}
use Rattle.machine_json.specs.Nodes.{AreNodes, AreNodesBelow, NodeParts, more, node, none}
use Rattle.machine_json.proofs.DocumentLemmas.{slice_get-either}

-- ---- the parents of a node's list

-- the node of a list with this parent
abbrev IsChildAt : List NodeParts → ℕ → NodeParts → ℕ → Type 0
IsChildAt nodes k x parent = (slice_get nodes k ≡ Some x) × (x.parent ≡ Some parent)

-- a node's parent is one of so many from a number on
abbrev IsChildAmong : NodeParts → ℕ → ℕ → Type 0
IsChildAmong x from count = (p : ℕ) × (x.parent ≡ Some p) × (from ≤ p) × (p < from + count)

more_among : (x : NodeParts) (from count next total : ℕ) → IsChildAmong x from count → next ≤ from → from + count ≤ next + total → IsChildAmong x next total
more_among x from count next total among low high = (among.0, among.1, let at_least = among.2 in omega arith, let below = among.3 in omega arith)

mutual
  -- the parent of each node of a list but the first is one of the list
  parents_among : (number : ℕ) (parent : Option ℕ) (key : List ℕ) (json : OrderedJson) (nodes : List NodeParts) → AreNodes number parent key json nodes
      → (k : ℕ) (x : NodeParts) → slice_get nodes k ≡ Some x → ((k ≡ 0) × (x.parent ≡ parent)) ⊎ IsChildAmong x number (length nodes)
  parents_among _ _ _ _ _ (node number parent key json below is) zero x at =
      let head : NodeParts = record { parent = parent; key = key; json = json } in
      let same : head ≡ x = cc in inl (refl, ap (λ (y : NodeParts). y.parent) (sym same))
  parents_among _ _ _ _ _ (node number parent key json below is) (suc k) x at =
      elim (parents_among_below (number + 1) number (children_of (members_of json)) below is k x at) [
        | inl own ↦ inr (number, own, omega arith, omega arith)
        | inr among ↦ inr (more_among x (number + 1) (length below) number (suc (length below)) among (omega arith) (omega arith))
      ]

  parents_among_below : (next parent : ℕ) (children : List MemberParts) (nodes : List NodeParts) → AreNodesBelow next parent children nodes
      → (k : ℕ) (x : NodeParts) → slice_get nodes k ≡ Some x → (x.parent ≡ Some parent) ⊎ IsChildAmong x next (length nodes)
  parents_among_below _ _ _ _ (none next parent) k x at = absurd (cc)
  parents_among_below _ _ _ _ (more next parent child children nodes later is rest) k x at =
      let total : length (nodes ++ later) ≡ length nodes + length later = length-append nodes later in
      elim (slice_get-either nodes later k x at) [
        | inl left ↦ elim (parents_among next (Some parent) child.key child.value nodes is k x left) [
          | inl own ↦ inl own.1
          | inr among ↦ inr (more_among x next (length nodes) next (length (nodes ++ later)) among (omega arith) (omega arith))
        ]
        | inr right ↦ elim (parents_among_below (next + length nodes) parent children later rest right.0 x right.2) [
          | inl own ↦ inl own
          | inr among ↦ inr (more_among x (next + length nodes) (length later) next (length (nodes ++ later)) among (omega arith) (omega arith))
        ]
      ]

-- ---- the nodes below one

-- a parent is one number
other_parent : (x : NodeParts) (p q : ℕ) → x.parent ≡ Some p → x.parent ≡ Some q → p ≡ q
other_parent x p q is other = let both : Some p ≡ Some q = sym is ∙ other in cc

-- those below a node, where all that have it as their parent stand
abbrev HasBelow : List NodeParts → ℕ → ℕ → NodeParts → Type 0
HasBelow nodes number k y =
    (below : List NodeParts) × AreNodesBelow ((number + k) + 1) (number + k) (children_of (members_of y.json)) below
    × ((a : ℕ) (x : NodeParts) → IsChildAt nodes a x (number + k) → (b : ℕ) × (a ≡ k + 1 + b) × (slice_get below b ≡ Some x))

-- a node of a first part, of which none of a later part is a child
first_part : (nodes later : List NodeParts) (number k : ℕ) (y : NodeParts)
    → ((a : ℕ) (x : NodeParts) → IsChildAt later a x (number + k) → ⊥) → HasBelow nodes number k y → HasBelow (nodes ++ later) number k y
first_part nodes later number k y no_later has = (
  has.0,
  has.1,
  λ a x up. elim (slice_get-either nodes later a x up.0) [
    | inl left ↦ has.2 a x (left, up.1)
    | inr right ↦ absurd (no_later right.0 x (right.2, up.1))
  ],
)

-- a node of a later part, of which none of the first part is a child
later_part : (nodes later : List NodeParts) (number k m : ℕ) (y : NodeParts) → k ≡ length nodes + m
    → ((a : ℕ) (x : NodeParts) → IsChildAt nodes a x (number + k) → ⊥) → HasBelow later (number + length nodes) m y → HasBelow (nodes ++ later) number k y
later_part nodes later number k m y is no_first has =
    let same : (number + length nodes) + m ≡ number + k = omega arith in
    let P : ℕ → Type 0 = λ n. AreNodesBelow (n + 1) n (children_of (members_of y.json)) has.0 in (
      has.0,
      subst P same has.1,
      λ a x up. elim (slice_get-either nodes later a x up.0) [
        | inl left ↦ absurd (no_first a x (left, up.1))
        | inr right ↦
            let found = has.2 right.0 x (right.2, up.1 ∙ ap Some (sym same)) in
            let there : a ≡ length nodes + right.0 = right.1 in
            let behind : right.0 ≡ m + 1 + found.0 = found.1 in
            (found.0, omega arith, found.2)
      ],
    )

mutual
  below_node : (number : ℕ) (parent : Option ℕ) (key : List ℕ) (json : OrderedJson) (nodes : List NodeParts) → AreNodes number parent key json nodes
      → IfSome parent (λ p. p < number) → (k : ℕ) (y : NodeParts) → slice_get nodes k ≡ Some y → HasBelow nodes number k y
  below_node _ _ _ _ _ (node number parent key json below is) up zero y at =
      let head : NodeParts = record { parent = parent; key = key; json = json } in
      let same : head ≡ y = cc in
      let here : number ≡ number + 0 = omega arith in
      let P : NodeParts → Type 0 = λ z. HasBelow (head ∷ below) number 0 z in
      let Q : ℕ → Type 0 = λ m. AreNodesBelow (m + 1) m (children_of (members_of json)) below in
      let no_head : (x : NodeParts) → head ≡ x → x.parent ≡ Some (number + 0) → ⊥ = λ x is_head own.
      let own_parent : parent ≡ Some (number + 0) = ap (λ (z : NodeParts). z.parent) is_head ∙ own in
      let less : number + 0 < number = subst (λ (o : Option ℕ). IfSome o (λ p. p < number)) own_parent up in omega arith in
      let found : (a : ℕ) (x : NodeParts) → IsChildAt (head ∷ below) a x (number + 0) → (b : ℕ) × (a ≡ 0 + 1 + b) × (slice_get below b ≡ Some x) =
      λ a x own. in_tail a x own.0 (λ is_head. no_head x is_head own.1) in
      subst P same (below, subst Q here is, found)
    where
      in_tail : (a : ℕ) (x : NodeParts) → slice_get ((record { parent = parent; key = key; json = json }) ∷ below) a ≡ Some x
          → ((record { parent = parent; key = key; json = json }) ≡ x → ⊥) → (b : ℕ) × (a ≡ 0 + 1 + b) × (slice_get below b ≡ Some x)
      in_tail zero x at not_head =
          let head : NodeParts = record { parent = parent; key = key; json = json } in
          let is_head : head ≡ x = cc in absurd (not_head is_head)
      in_tail (suc b) x at not_head = (b, omega arith, at)
  below_node _ _ _ _ _ (node number parent key json below is) up (suc k) y at =
      let head : NodeParts = record { parent = parent; key = key; json = json } in
      let has = below_nodes (number + 1) number (children_of (members_of json)) below is (omega arith) k y at in
      let one : length (head ∷ []) ≡ 1 = refl in
      later_part (head ∷ []) below number (suc k) k y (omega arith)
      (λ a x own. no_head a x own.0 own.1) has
    where
      no_head : (a : ℕ) (x : NodeParts) → slice_get ((record { parent = parent; key = key; json = json }) ∷ []) a ≡ Some x → x.parent ≡ Some (number + suc k) → ⊥
      no_head zero x at own =
          let head : NodeParts = record { parent = parent; key = key; json = json } in
          let is_head : head ≡ x = cc in
          let own_parent : parent ≡ Some (number + suc k) = ap (λ (z : NodeParts). z.parent) is_head ∙ own in
          let less : number + suc k < number = subst (λ (o : Option ℕ). IfSome o (λ p. p < number)) own_parent up in omega arith
      no_head (suc a) x at own = absurd (cc)

  below_nodes : (next parent : ℕ) (children : List MemberParts) (nodes : List NodeParts) → AreNodesBelow next parent children nodes
      → parent < next → (k : ℕ) (y : NodeParts) → slice_get nodes k ≡ Some y → HasBelow nodes next k y
  below_nodes _ _ _ _ (none next parent) up k y at = absurd (cc)
  below_nodes _ _ _ _ (more next parent child children nodes later is rest) up k y at =
      elim (slice_get-either nodes later k y at) [
        | inl left ↦
            let inside : k < length nodes = slice_get_within nodes k y left in
            first_part nodes later next k y
            (λ a x own. elim (parents_among_below (next + length nodes) parent children later rest a x own.0) [
              | inl other ↦ let same = other_parent x (next + k) parent own.1 other in omega arith
              | inr among ↦ let same = other_parent x (next + k) among.0 own.1 among.1 in let low = among.2 in omega arith
            ])
            (below_node next (Some parent) child.key child.value nodes is up k y left)
        | inr right ↦
            let place : k ≡ length nodes + right.0 = right.1 in
            later_part nodes later next k right.0 y place
            (λ a x own. elim (parents_among next (Some parent) child.key child.value nodes is a x own.0) [
              | inl other ↦ let same = other_parent x (next + k) parent own.1 other.1 in omega arith
              | inr among ↦ let same = other_parent x (next + k) among.0 own.1 among.1 in let high = among.3 in omega arith
            ])
            (below_nodes (next + length nodes) parent children later rest (omega arith) right.0 y right.2)
      ]

-- ---- the children of one node

-- a member of `states` that a node is
abbrev pub IsMemberOf : List MemberParts → NodeParts → Type 0
IsMemberOf children x = (i : ℕ) × (c : MemberParts) × (slice_get children i ≡ Some c) × (c.key ≡ x.key) × (c.value ≡ x.json)

-- a child in the first list is its first node
first_only : (next parent : ℕ) (child : MemberParts) (nodes : List NodeParts) → AreNodes next (Some parent) child.key child.value nodes → parent < next
    → (k : ℕ) (x : NodeParts) → IsChildAt nodes k x parent → (k ≡ 0) × (child.key ≡ x.key) × (child.value ≡ x.json)
first_only next parent child nodes is up k x own =
    elim (parents_among next (Some parent) child.key child.value nodes is k x own.0) [
      | inl first ↦
          let at : slice_get nodes 0 ≡ Some x = ap (slice_get nodes) (sym first.0) ∙ own.0 in
          let head = head_is next (Some parent) child.key child.value nodes is x at in
          (first.0, ap (λ (z : NodeParts). z.key) head, ap (λ (z : NodeParts). z.json) head)
      | inr among ↦ let same = other_parent x parent among.0 own.1 among.1 in let low = among.2 in absurd (omega arith)
    ]
  where
    head_is : (number : ℕ) (up : Option ℕ) (key : List ℕ) (json : OrderedJson) (nodes : List NodeParts) → AreNodes number up key json nodes
        → (x : NodeParts) → slice_get nodes 0 ≡ Some x → (record { parent = up; key = key; json = json }) ≡ x
    head_is _ _ _ _ _ (node number up key json below is) x at = cc

-- each child is a member
is_member : (next parent : ℕ) (children : List MemberParts) (nodes : List NodeParts) → AreNodesBelow next parent children nodes → parent < next
    → (k : ℕ) (x : NodeParts) → IsChildAt nodes k x parent → IsMemberOf children x
is_member _ _ _ _ (none next parent) up k x own = let at : slice_get [] k ≡ Some x = own.0 in absurd (cc)
is_member _ _ _ _ (more next parent child children nodes later is rest) up k x own =
    elim (slice_get-either nodes later k x own.0) [
      | inl left ↦ (let first = first_only next parent child nodes is up k x (left, own.1) in (0, child, refl, first.1, first.2))
      | inr right ↦
          let found = is_member (next + length nodes) parent children later rest (omega arith) right.0 x (right.2, own.1) in
          (suc found.0, found.1, found.2, found.3, found.4)
    ]

-- no two members have the same key
abbrev pub HaveDistinctKeys : List MemberParts → Type 0
HaveDistinctKeys members =
    (i j : ℕ) (one other : MemberParts) → slice_get members i ≡ Some one → slice_get members j ≡ Some other → one.key ≡ other.key → i ≡ j

-- a child of the first member and one of a later member have different keys
first_apart : (child : MemberParts) (children : List MemberParts) (x y : NodeParts) → HaveDistinctKeys (child ∷ children) → child.key ≡ x.key → IsMemberOf children y
    → x.key ≡ y.key → ⊥
first_apart child children x y apart is member same =
    let both : 0 ≡ suc member.0 = apart 0 (suc member.0) child member.1 refl member.2 (is ∙ same ∙ sym member.3) in omega arith

-- children with one key are one child, where the members have keys of their own
one_child : (next parent : ℕ) (children : List MemberParts) (nodes : List NodeParts) → AreNodesBelow next parent children nodes → parent < next → HaveDistinctKeys children
    → (a b : ℕ) (x y : NodeParts) → IsChildAt nodes a x parent → IsChildAt nodes b y parent → x.key ≡ y.key → a ≡ b
one_child _ _ _ _ (none next parent) up apart a b x y own other same = let at : slice_get [] a ≡ Some x = own.0 in absurd (cc)
one_child _ _ _ _ (more next parent child children nodes later is rest) up apart a b x y own other same =
    elim (slice_get-either nodes later a x own.0) [
      | inl left ↦
          let first = first_only next parent child nodes is up a x (left, own.1) in
          elim (slice_get-either nodes later b y other.0) [
            | inl left_too ↦ (let second = first_only next parent child nodes is up b y (left_too, other.1) in first.0 ∙ sym second.0)
            | inr right_too ↦
                let member = is_member (next + length nodes) parent children later rest (omega arith) right_too.0 y (right_too.2, other.1) in
                absurd (first_apart child children x y apart first.1 member same)
          ]
      | inr right ↦
          elim (slice_get-either nodes later b y other.0) [
            | inl left_too ↦
                let second = first_only next parent child nodes is up b y (left_too, other.1) in
                let member = is_member (next + length nodes) parent children later rest (omega arith) right.0 x (right.2, own.1) in
                absurd (first_apart child children y x apart second.1 member (sym same))
            | inr right_too ↦
                let shifted : HaveDistinctKeys children = λ i j one another at at_too key.
                let both : suc i ≡ suc j = apart (suc i) (suc j) one another at at_too key in omega arith in
                let equal : right.0 ≡ right_too.0 =
                one_child (next + length nodes) parent children later rest (omega arith) shifted right.0 right_too.0 x y (right.2, own.1) (right_too.2, other.1) same in
                let place : a ≡ length nodes + right.0 = right.1 in
                let place_too : b ≡ length nodes + right_too.0 = right_too.1 in omega arith
          ]
    ]

-- ---- the nodes of a text

module _ (text : OrderedJson) (nodes : List NodeParts) (are : AreNodes 0 None [] text nodes) (p : ℕ) (y : NodeParts) (at : slice_get nodes p ≡ Some y) where
  has_below : HasBelow nodes 0 p y
  has_below = below_node 0 None [] text nodes are tt p y at

  -- a node with a parent is a member of the parent's `states`
  pub is_member_of_parent : (n : ℕ) (x : NodeParts) → slice_get nodes n ≡ Some x → x.parent ≡ Some p → IsMemberOf (children_of (members_of y.json)) x
  is_member_of_parent n x x_at own =
      let number : p ≡ 0 + p = omega arith in
      let found = has_below.2 n x (x_at, own ∙ ap Some number) in
      is_member ((0 + p) + 1) (0 + p) (children_of (members_of y.json)) has_below.0 has_below.1 (omega arith) found.0 x (found.2, own ∙ ap Some number)

  -- nodes with one parent and one key are one node, where the members have keys of their own
  pub one_of_key : HaveDistinctKeys (children_of (members_of y.json)) → (a b : ℕ) (x z : NodeParts) → slice_get nodes a ≡ Some x → slice_get nodes b ≡ Some z
      → x.parent ≡ Some p → z.parent ≡ Some p → x.key ≡ z.key → a ≡ b
  one_of_key apart a b x z x_at z_at x_up z_up same =
      let number : p ≡ 0 + p = omega arith in
      let first = has_below.2 a x (x_at, x_up ∙ ap Some number) in
      let second = has_below.2 b z (z_at, z_up ∙ ap Some number) in
      let equal : first.0 ≡ second.0 =
      one_child ((0 + p) + 1) (0 + p) (children_of (members_of y.json)) has_below.0 has_below.1 (omega arith) apart first.0 second.0 x z
      (first.2, x_up ∙ ap Some number) (second.2, z_up ∙ ap Some number) same in
      let place : a ≡ p + 1 + first.0 = first.1 in
      let place_too : b ≡ p + 1 + second.0 = second.1 in omega arith
