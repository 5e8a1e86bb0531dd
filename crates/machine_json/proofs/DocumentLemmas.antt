-- The nodes of a text stand in document order.
use Rattle.std.proofs.Common.{◌≡◌, ◌+◌, ◌<◌, ◌≤◌, ◌⊎◌, ℕ, zero, suc, List, [], ◌∷◌, ◌++◌, Option, None, Some, length, refl, sym, ap, ◌∙◌, subst, arith, inl, inr, length-append}
use Rattle.std.specs.Prelude.{slice_get}
use Rattle.std.proofs.lemmas.Bool.{cases_lt}
use Rattle.std.proofs.lemmas.Option.{slice_get_within}
use Rattle.ordered_json.specs.declared.json.OrderedJson.{OrderedJson}
use Rattle.ordered_json.specs.Words.{MemberParts}
use Rattle.node_tree.specs.declared.node.Node.{Node}
use Rattle.node_tree.specs.Nodes.{IsBelow, IsChild, IsPlaced, IsWithin, child, parent_of}
use Rattle.node_tree.proofs.TreeLemmas.{below-trans}
use Rattle.machine_json.specs.NodeKinds.{children_of, members_of}
use Rattle.machine_json.specs.Nodes.{AreNodes, AreNodesBelow, NodeParts, more, node, none}

-- ---- items of two lists

pub slice_get-left : {X : Type 0} (xs ys : List X) (k : ℕ) (x : X) → slice_get xs k ≡ Some x → slice_get (xs ++ ys) k ≡ Some x
slice_get-left [] ys k x at = absurd (cc)
slice_get-left (z ∷ xs) ys zero x at = at
slice_get-left (z ∷ xs) ys (suc k) x at = slice_get-left xs ys k x at

pub slice_get-right : {X : Type 0} (xs ys : List X) (k : ℕ) → slice_get (xs ++ ys) (length xs + k) ≡ slice_get ys k
slice_get-right [] ys k = ap (slice_get ys) (omega arith)
slice_get-right (x ∷ xs) ys k =
    let next : suc (length xs) + k ≡ suc (length xs + k) = omega arith in
    ap (slice_get (x ∷ (xs ++ ys))) next ∙ slice_get-right xs ys k

-- an item of two lists is of the one or the other
pub slice_get-either : {X : Type 0} (xs ys : List X) (k : ℕ) (x : X) → slice_get (xs ++ ys) k ≡ Some x
    → (slice_get xs k ≡ Some x) ⊎ ((j : ℕ) × (k ≡ length xs + j) × (slice_get ys j ≡ Some x))
slice_get-either [] ys k x at = inr (k, omega arith, at)
slice_get-either (z ∷ xs) ys zero x at = inl at
slice_get-either (z ∷ xs) ys (suc k) x at = elim (slice_get-either xs ys k x at) [
  | inl left ↦ inl left
  | inr right ↦ inr (right.0, (let is : k ≡ length xs + right.0 = right.1 in omega arith), right.2)
]

-- ---- what is below what

-- each node of a list has in the rows the parent that it names, the first at a number
abbrev Stand : List Node → ℕ → List NodeParts → Type 0
Stand rows number nodes = (k : ℕ) (x : NodeParts) → slice_get nodes k ≡ Some x → parent_of rows (number + k) ≡ x.parent

-- so many rows from a number on are a node and those below it
record IsSubtree (rows : List Node) (number count : ℕ) : Type 0 where
  within : (k : ℕ) → number ≤ k → k < number + count → IsWithin rows k number
  placed : (before : ℕ) → number ≤ before → suc before < number + count → IsPlaced rows (suc before)

-- so many rows from a number on are below a node
record AreBelow (rows : List Node) (next parent count : ℕ) : Type 0 where
  below : (k : ℕ) → next ≤ k → k < next + count → IsBelow rows k parent
  placed : (before : ℕ) → next ≤ suc before → suc before < next + count → IsPlaced rows (suc before)

-- a node and the rows below it
with_root : (rows : List Node) (number count : ℕ) → AreBelow rows (number + 1) number count → IsSubtree rows number (suc count)
with_root rows number count rest = record {
  within = λ k from upto. elim (cases_lt number k) [
    | inl past ↦ inr (rest.below k (omega arith) (omega arith))
    | inr here ↦ inl (omega arith)
  ];
  placed = λ before from upto. rest.placed before (omega arith) (omega arith);
}

-- what is within a child of a node is below the node
below_parent : (rows : List Node) (k next parent : ℕ) → IsWithin rows k next → IsChild rows next parent → IsBelow rows k parent
below_parent rows k next parent (inl same) is = subst (λ m. IsBelow rows m parent) (sym same) (child next parent is)
below_parent rows k next parent (inr below) is = below-trans rows k next parent below (child next parent is)

-- a child with those below it, and the children after it
with_first : (rows : List Node) (before next parent count later : ℕ) → next ≡ suc before → IsWithin rows before parent → IsChild rows next parent
    → IsSubtree rows next count → AreBelow rows (next + count) parent later → 0 < count → AreBelow rows next parent (count + later)
with_first rows before next parent count later is_next up is first rest some = record {
  below = λ k from upto. elim (cases_lt k (next + count)) [
    | inl inside ↦ below_parent rows k next parent (first.within k from inside) is
    | inr past ↦ rest.below k past (omega arith)
  ];
  placed = λ prior from upto. elim (cases_lt (suc prior) (next + count)) [
    | inl inside ↦ elim (cases_lt prior next) [
      | inl at_first ↦
          let same : before ≡ prior = omega arith in
          let here : next ≡ suc prior = omega arith in
          let P : ℕ → Type 0 = λ m. IsWithin rows m parent in
          let Q : ℕ → Type 0 = λ m. IsChild rows m parent in
          (parent, subst Q here is, subst P same up)
      | inr within ↦ first.placed prior within inside
    ]
    | inr past ↦ rest.placed prior past (omega arith)
  ];
}

-- the number before one that isn't 0
one_less : (n : ℕ) → 0 < n → (m : ℕ) × (n ≡ suc m)
one_less zero some = absurd (omega arith)
one_less (suc m) some = (m, refl)

-- a node's list isn't empty, and begins with the node
head_of : (number : ℕ) (parent : Option ℕ) (key : List ℕ) (json : OrderedJson) (nodes : List NodeParts) → AreNodes number parent key json nodes
    → slice_get nodes 0 ≡ Some (record { parent = parent; key = key; json = json })
head_of _ _ _ _ _ (node number parent key json below is) = refl

mutual
  -- the rows of a node's list are the node and those below it
  subtree : (rows : List Node) (number : ℕ) (parent : Option ℕ) (key : List ℕ) (json : OrderedJson) (nodes : List NodeParts)
      → AreNodes number parent key json nodes → Stand rows number nodes → IsSubtree rows number (length nodes)
  subtree rows _ _ _ _ _ (node number parent key json below is) stand =
      let later : Stand rows (number + 1) below = λ k x at.
      let next : (number + 1) + k ≡ number + suc k = omega arith in ap (parent_of rows) next ∙ stand (suc k) x at in
      with_root rows number (length below)
      (subtrees rows (number + 1) number (children_of (members_of json)) below is later number (omega arith) (inl refl))

  -- the rows of several children's lists are below the node
  subtrees : (rows : List Node) (next parent : ℕ) (children : List MemberParts) (nodes : List NodeParts)
      → AreNodesBelow next parent children nodes → Stand rows next nodes → (before : ℕ) → next ≡ suc before → IsWithin rows before parent
      → AreBelow rows next parent (length nodes)
  subtrees rows _ _ _ _ (none next parent) stand before is_next up = record {
    below = λ k from upto. absurd (omega arith);
    placed = λ prior from upto. absurd (omega arith);
  }
  subtrees rows _ _ _ _ (more next parent entry children nodes later is rest) stand before is_next up =
      let head = head_of next (Some parent) entry.key entry.value nodes is in
      let some : 0 < length nodes = slice_get_within nodes 0 _ head in
      let here : next + 0 ≡ next = omega arith in
      let is_child : IsChild rows next parent =
      ap (parent_of rows) (sym here) ∙ stand 0 _ (slice_get-left nodes later 0 _ head) in
      let first = subtree rows next (Some parent) entry.key entry.value nodes is (λ k x at. stand k x (slice_get-left nodes later k x at)) in
      let last = one_less (next + length nodes) (omega arith) in
      let last_is : next + length nodes ≡ suc last.0 = last.1 in
      let up_last : IsWithin rows last.0 parent = inr (below_parent rows last.0 next parent (first.within last.0 (omega arith) (omega arith)) is_child) in
      let behind = subtrees rows (next + length nodes) parent children later rest
      (λ k x at.
      let place : (next + length nodes) + k ≡ next + (length nodes + k) = omega arith in
      ap (parent_of rows) place ∙ stand (length nodes + k) x (slice_get-right nodes later k ∙ at))
      last.0 last_is up_last in
      subst (λ m. AreBelow rows next parent m) (sym (length-append nodes later))
      (with_first rows before next parent (length nodes) (length later) is_next up is_child first behind some)

-- each row of a text's nodes is in its place
pub all_placed : (rows : List Node) (json : OrderedJson) (nodes : List NodeParts) → AreNodes 0 None [] json nodes
    → ((n : ℕ) (x : NodeParts) → slice_get nodes n ≡ Some x → parent_of rows n ≡ x.parent) → (n : ℕ) → n < length nodes → IsPlaced rows n
all_placed rows json nodes are stand zero inside = stand 0 _ (head_of 0 None [] json nodes are)
all_placed rows json nodes are stand (suc before) inside =
    let tree = subtree rows 0 None [] json nodes are (λ k x at. let same : 0 + k ≡ k = omega arith in ap (parent_of rows) same ∙ stand k x at) in
    tree.placed before (omega arith) (omega arith)

pub some_node : (json : OrderedJson) (nodes : List NodeParts) → AreNodes 0 None [] json nodes → 0 < length nodes
some_node json nodes are = slice_get_within nodes 0 _ (head_of 0 None [] json nodes are)

-- ---- the children of a node are nodes

-- a member of `states` as the node that it is
abbrev child_node : ℕ → MemberParts → NodeParts
child_node parent member = record { parent = Some parent; key = member.key; json = member.value }

-- a node is among the nodes of a list
abbrev IsThere : List NodeParts → NodeParts → Type 0
IsThere nodes x = (j : ℕ) × (slice_get nodes j ≡ Some x)

there_left : (xs ys : List NodeParts) (x : NodeParts) → IsThere xs x → IsThere (xs ++ ys) x
there_left xs ys x is = (is.0, slice_get-left xs ys is.0 x is.1)

there_right : (xs ys : List NodeParts) (x : NodeParts) → IsThere ys x → IsThere (xs ++ ys) x
there_right xs ys x is = (length xs + is.0, slice_get-right xs ys is.0 ∙ is.1)

own_child : (next parent : ℕ) (children : List MemberParts) (nodes : List NodeParts) → AreNodesBelow next parent children nodes
    → (i : ℕ) (c : MemberParts) → slice_get children i ≡ Some c → IsThere nodes (child_node parent c)
own_child _ _ _ _ (none next parent) i c at = absurd (cc)
own_child _ _ _ _ (more next parent entry children nodes later is rest) zero c at =
    let same : entry ≡ c = cc in
    let there : IsThere nodes (child_node parent entry) = (0, head_of next (Some parent) entry.key entry.value nodes is) in
    there_left nodes later (child_node parent c) (subst (λ (m : MemberParts). IsThere nodes (child_node parent m)) same there)
own_child _ _ _ _ (more next parent entry children nodes later is rest) (suc i) c at =
    there_right nodes later (child_node parent c) (own_child (next + length nodes) parent children later rest i c at)

mutual
  child_there : (number : ℕ) (parent : Option ℕ) (key : List ℕ) (json : OrderedJson) (nodes : List NodeParts) → AreNodes number parent key json nodes
      → (k : ℕ) (x : NodeParts) → slice_get nodes k ≡ Some x → (i : ℕ) (c : MemberParts) → slice_get (children_of (members_of x.json)) i ≡ Some c
      → IsThere nodes (child_node (number + k) c)
  child_there _ _ _ _ _ (node number parent key json below is) zero x at i c c_at =
      let head : NodeParts = record { parent = parent; key = key; json = json } in
      let same : head ≡ x = cc in
      let here : number ≡ number + 0 = omega arith in
      let members : children_of (members_of x.json) ≡ children_of (members_of json) = ap (λ (y : NodeParts). children_of (members_of y.json)) (sym same) in
      let there = own_child (number + 1) number (children_of (members_of json)) below is i c (ap (λ (l : List MemberParts). slice_get l i) (sym members) ∙ c_at) in
      subst (λ m. IsThere (head ∷ below) (child_node m c)) here (suc there.0, there.1)
  child_there _ _ _ _ _ (node number parent key json below is) (suc k) x at i c c_at =
      let next : (number + 1) + k ≡ number + suc k = omega arith in
      let there = child_there_below (number + 1) number (children_of (members_of json)) below is k x at i c c_at in
      subst (λ m. IsThere ((record { parent = parent; key = key; json = json }) ∷ below) (child_node m c)) next (suc there.0, there.1)

  child_there_below : (next parent : ℕ) (children : List MemberParts) (nodes : List NodeParts) → AreNodesBelow next parent children nodes
      → (k : ℕ) (x : NodeParts) → slice_get nodes k ≡ Some x → (i : ℕ) (c : MemberParts) → slice_get (children_of (members_of x.json)) i ≡ Some c
      → IsThere nodes (child_node (next + k) c)
  child_there_below _ _ _ _ (none next parent) k x at i c c_at = absurd (cc)
  child_there_below _ _ _ _ (more next parent entry children nodes later is rest) k x at i c c_at =
      elim (slice_get-either nodes later k x at) [
        | inl left ↦ there_left nodes later (child_node (next + k) c) (child_there next (Some parent) entry.key entry.value nodes is k x left i c c_at)
        | inr right ↦
            let k_is : k ≡ length nodes + right.0 = right.1 in
            let place : (next + length nodes) + right.0 ≡ next + k = omega arith in
            there_right nodes later (child_node (next + k) c)
            (subst (λ m. IsThere later (child_node m c)) place
            (child_there_below (next + length nodes) parent children later rest right.0 x right.2 i c c_at))
      ]

-- a child of a node of a text is among the nodes
pub child_is_node : (json : OrderedJson) (nodes : List NodeParts) → AreNodes 0 None [] json nodes → (n : ℕ) (x : NodeParts) → slice_get nodes n ≡ Some x
    → (i : ℕ) (c : MemberParts) → slice_get (children_of (members_of x.json)) i ≡ Some c
    → (j : ℕ) × (slice_get nodes j ≡ Some (record { parent = Some n; key = c.key; json = c.value }))
child_is_node json nodes are n x at i c c_at =
    let same : 0 + n ≡ n = omega arith in
    subst (λ m. IsThere nodes (child_node m c)) same (child_there 0 None [] json nodes are n x at i c c_at)
