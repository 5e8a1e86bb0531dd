-- Nodes in document order: what is below what, and where a subtree ends.
use Rattle.std.proofs.Common.{get_or, ◌≡◌, ◌↔◌, ◌<◌, ◌≤◌, ◌+◌, ℕ, zero, suc, List, length, arith, refl, sym, subst, inl, inr, ap, ◌∙◌}
use Rattle.std.specs.Prelude.{Option, Some, None, IfSome, IsSomeAnd, slice_get}
use Rattle.std.proofs.Math.Nat.{eq-or-lt_of_le}
use Rattle.std.proofs.lemmas.Bool.{cases_lt}
use Rattle.std.proofs.lemmas.Option.{slice_get_cases, slice_get-get_or}
use Rattle.node_tree.specs.Tables.{IsEnd}
use Rattle.node_tree.specs.declared.node.Node.{Node}
use Rattle.node_tree.specs.Nodes.{ArePlaced, IsBelow, child, further, IsChild, IsWithin, IsPlaced, IsOutline, parent_of}

module _ (nodes : List Node) where
  -- a node has one parent
  pub one_parent : (low a b : ℕ) → IsChild nodes low a → IsChild nodes low b → a ≡ b
  one_parent low a b is_a is_b = cc

  no_parent : (low a : ℕ) → parent_of nodes low ≡ None → IsChild nodes low a → ⊥
  no_parent low a none is_a = cc

  -- what a node is below, its parent is or is below
  pub within-parent : (low up high : ℕ) → IsChild nodes low up → IsBelow nodes low high → IsWithin nodes up high
  within-parent low up high is_up (child _ _ is) = inl (one_parent low up high is_up is)
  within-parent low up high is_up (further _ parent _ is rest) = inr (subst (λ p. IsBelow nodes p high) (one_parent low parent up is is_up) rest)

  -- a child is below what its parent is or is below
  pub below-child : (low up high : ℕ) → IsChild nodes low up → IsWithin nodes up high → IsBelow nodes low high
  below-child low up high is (inl same) = child low high (subst (λ p. IsChild nodes low p) same is)
  below-child low up high is (inr below) = further low up high is below

  pub below-trans : (low middle high : ℕ) → IsBelow nodes low middle → IsBelow nodes middle high → IsBelow nodes low high
  below-trans low middle high (child _ _ is) above = further low middle high is above
  below-trans low middle high (further _ parent _ is rest) above = further low parent high is (below-trans parent middle high rest above)

  pub within-trans : (low middle high : ℕ) → IsWithin nodes low middle → IsWithin nodes middle high → IsWithin nodes low high
  within-trans low middle high (inl same) above = subst (λ n. IsWithin nodes n high) (sym same) above
  within-trans low middle high (inr below) (inl same) = inr (subst (λ n. IsBelow nodes low n) same below)
  within-trans low middle high (inr below) (inr above) = inr (below-trans low middle high below above)

  -- a node that has a parent is one of the nodes
  pub child_inside : (low high : ℕ) → IsChild nodes low high → low < length nodes
  child_inside low high is = elim (slice_get_cases nodes low).1 [ inl found ↦ found.1 | inr past ↦ absurd (no_parent low high (rw past.1 refl) is) ]

  -- the parent of a row, where the rows before it are in their places, stands before it
  upto_before : (before parent : ℕ) → ((high : ℕ) → IsBelow nodes before high → high < before) → IsWithin nodes before parent → parent ≤ before
  upto_before before parent first (inl same) = omega arith
  upto_before before parent first (inr below) = let less = first parent below in omega arith

  row_parent_first : (n : ℕ) → IsPlaced nodes n → ((low high : ℕ) → low < n → IsBelow nodes low high → high < low) → (parent : ℕ) → IsChild nodes n parent → parent < n
  row_parent_first zero placed first parent is = absurd (no_parent 0 parent placed is)
  row_parent_first (suc before) (own, is_own, within) first parent is =
      let same : parent ≡ own = one_parent (suc before) parent own is is_own in
      let upto = upto_before before own (λ high. first before high (omega arith)) within in
      omega arith

  row_above_first : (n : ℕ) → IsPlaced nodes n → ((low high : ℕ) → low < n → IsBelow nodes low high → high < low) → (high : ℕ) → IsBelow nodes n high → high < n
  row_above_first n placed first high (child _ _ is) = row_parent_first n placed first high is
  row_above_first n placed first high (further _ parent _ is rest) =
      let parent_first = row_parent_first n placed first parent is in
      let high_first = first parent high parent_first rest in
      omega arith

  -- whatever a row is below stands before it
  pub above_first : (end : ℕ) → ArePlaced nodes end → (low high : ℕ) → low < end → IsBelow nodes low high → high < low
  above_first zero placed low high inside below = absurd (omega arith)
  above_first (suc end) placed low high inside below =
      let earlier = above_first end (λ k less. placed k (omega arith)) in
      elim (cases_lt low end) [
        | inl less ↦ earlier low high less below
        | inr last ↦ let same : low ≡ end = omega arith in
            let here : IsBelow nodes end high = subst (λ n. IsBelow nodes n high) same below in
            let less = row_above_first end (placed end (omega arith)) earlier high here in omega arith
      ]

  -- a row after the root that is below a node follows a row that is that node or below it
  row_before_within : (before high : ℕ) → IsPlaced nodes (suc before) → IsBelow nodes (suc before) high → IsWithin nodes before high
  row_before_within before high (own, is_own, within) below =
      within-trans before own high within (within-parent (suc before) own high is_own below)

  -- the rows between a node and one below it are below it
  pub below_between : (low : ℕ) → ArePlaced nodes (low + 1) → (high : ℕ) → IsBelow nodes low high → (k : ℕ) → high < k → k ≤ low → IsBelow nodes k high
  below_between zero placed high below k after upto = absurd (omega arith)
  below_between (suc before) placed high below k after upto =
      elim (eq-or-lt_of_le upto) [
        | inl same ↦ subst (λ n. IsBelow nodes n high) (sym same) below
        | inr less ↦ elim (row_before_within before high (placed (suc before) (omega arith)) below) [
          | inl same ↦ absurd (omega arith)
          | inr rest ↦ below_between before (λ j within. placed j (omega arith)) high rest k after (omega arith)
        ]
      ]

  -- where the rows after a node are below it up to one that is not, these are all that are
  pub subtree_ends : ArePlaced nodes (length nodes) → (high end : ℕ) → high < end → ((k : ℕ) → high < k → k < end → IsBelow nodes k high) → (IsBelow nodes end high → ⊥)
      → (low : ℕ) → low < length nodes → IsBelow nodes low high ↔ ((high < low) × (low < end))
  subtree_ends placed high end after all none low inside = (
    (λ below. (
      above_first (length nodes) placed low high inside below,
      elim (cases_lt low end) [
        | inl less ↦ less
        | inr past ↦ absurd (none (below_between low (λ k within. placed k (omega arith)) high below end after past))
      ],
    )),
    (λ (first, last). all low first last),
  )

-- the parent of a node of an outline stands before it
pub parent_first : (nodes : List Node) → IsOutline nodes → (low high : ℕ) → IsChild nodes low high → high < low
parent_first nodes outline low high is =
    above_first nodes (length nodes) (λ k inside. (outline.rows k inside).placed) low high (child_inside nodes low high is) (child low high is)

if_some : {X : Type 0} (o : Option X) (P : X → Type 0) → ((x : X) → o ≡ Some x → P x) → IfSome o P
if_some None P h = tt
if_some (Some x) P h = h x refl

-- the parent that a read node names stands before it
pub read_parent_first : (nodes : List Node) → IsOutline nodes → (n : ℕ) (node : Node) → slice_get nodes n ≡ Some node → IfSome node.parent (λ parent. parent < n)
read_parent_first nodes outline n node is =
    if_some node.parent (λ parent. parent < n) (λ parent named. parent_first nodes outline n parent (rw is named))

-- what a read of a row says of its parent
pub read_parent : (nodes : List Node) (n : ℕ) (d : Node) → n < length nodes → parent_of nodes n ≡ (get_or nodes n d).parent
read_parent nodes n d inside = rw (slice_get-get_or nodes n d inside) refl

-- what has no parent is below nothing
pub root_is_below_none : (nodes : List Node) (n high : ℕ) → parent_of nodes n ≡ None → IsBelow nodes n high → ⊥
root_is_below_none nodes n high none (child _ _ is) = no_parent nodes n high none is
root_is_below_none nodes n high none (further _ parent _ is rest) = no_parent nodes n parent none is

-- what is past the rows is below nothing
pub past_is_below_none : (nodes : List Node) (n high : ℕ) → length nodes ≤ n → IsBelow nodes n high → ⊥
past_is_below_none nodes n high past (child _ _ is) = let inside = child_inside nodes n high is in absurd (omega arith)
past_is_below_none nodes n high past (further _ parent _ is rest) = let inside = child_inside nodes n parent is in absurd (omega arith)

-- a row whose parent stands before a node is not below that node
pub not_below-parent_before : (nodes : List Node) (end n parent high : ℕ) → ArePlaced nodes end → n < end → IsChild nodes n parent → parent < high → IsBelow nodes n high → ⊥
not_below-parent_before nodes end n parent high placed inside is before below =
    let first = above_first nodes end placed n parent inside (child n parent is) in
    elim (within-parent nodes n parent high is below) [
      | inl same ↦ absurd (omega arith)
      | inr above ↦ let less = above_first nodes end placed parent high (omega arith) above in absurd (omega arith)
    ]

-- a row whose parent is a node or among the rows below it is below that node, and so is its subtree
pub below_more_rows : (nodes : List Node) (n at end parent : ℕ) → n < at → ((k : ℕ) → n < k → k < at → IsBelow nodes k n) → IsChild nodes at parent → parent < at → n ≤ parent → IsEnd nodes at end
    → (k : ℕ) → n < k → k < end → IsBelow nodes k n
below_more_rows nodes n at end parent after below is first from ends k past upto =
    let here : IsBelow nodes at n = below-child nodes at parent n is (elim (eq-or-lt_of_le from) [
      | inl same ↦ inl (sym same)
      | inr less ↦ inr (below parent less first)
    ]) in
    elim (cases_lt k at) [
      | inl earlier ↦ below k past earlier
      | inr later ↦ elim (eq-or-lt_of_le later) [
        | inl same ↦ subst (λ j. IsBelow nodes j n) same here
        | inr within ↦ below-trans nodes k at n (ends.below k within upto) here
      ]
    ]

some_and : {X : Type 0} (o : Option X) (P : X → Type 0) → IsSomeAnd o P → (x : X) × (o ≡ Some x) × P x
some_and None P none = absurd none
some_and (Some x) P holds = (x, refl, holds)

-- a row whose parent, if any, stands before a node is not below that node
stops_by : (nodes : List Node) (n at : ℕ) (o : Option ℕ) → ArePlaced nodes (length nodes) → at < length nodes → parent_of nodes at ≡ o → (IsSomeAnd o (λ parent. n ≤ parent) → ⊥) → IsBelow nodes at n → ⊥
stops_by nodes n at None placed inside is not_from below = root_is_below_none nodes at n is below
stops_by nodes n at (Some parent) placed inside is not_from below =
    elim (cases_lt parent n) [
      | inl before ↦ not_below-parent_before nodes (length nodes) at parent n placed inside is before below
      | inr from ↦ absurd (not_from from)
    ]

pub stops_here : (nodes : List Node) (n at : ℕ) (node : Node) → ArePlaced nodes (length nodes) → at < length nodes → node ≡ get_or nodes at node → (IsSomeAnd node.parent (λ parent. n ≤ parent) → ⊥) → IsBelow nodes at n → ⊥
stops_here nodes n at node placed inside is not_from =
    stops_by nodes n at node.parent placed inside (read_parent nodes at node inside ∙ ap (λ (x : Node). x.parent) (sym is)) not_from

-- what passing over one more subtree keeps
pub goes_on : (nodes : List Node) (n at end : ℕ) (node : Node) → ArePlaced nodes (length nodes) → n < at → at < length nodes → ((k : ℕ) → n < k → k < at → IsBelow nodes k n) → node ≡ get_or nodes at node → IsSomeAnd node.parent (λ parent. n ≤ parent) → IsEnd nodes at end
    → (k : ℕ) → n < k → k < end → IsBelow nodes k n
goes_on nodes n at end node placed after inside below is from ends =
    let (parent, named, upto) = some_and node.parent (λ parent. n ≤ parent) from in
    let is_child : IsChild nodes at parent = read_parent nodes at node inside ∙ ap (λ (x : Node). x.parent) (sym is) ∙ named in
    below_more_rows nodes n at end parent after below is_child (above_first nodes (length nodes) placed at parent inside (child at parent is_child)) upto ends

-- what is below something is one of the nodes
pub below_inside : (nodes : List Node) (low high : ℕ) → IsBelow nodes low high → low < length nodes
below_inside nodes low high (child _ _ is) = child_inside nodes low high is
below_inside nodes low high (further _ parent _ is rest) = child_inside nodes low parent is

outline_placed : (nodes : List Node) → IsOutline nodes → ArePlaced nodes (length nodes)
outline_placed nodes outline n inside = (outline.rows n inside).placed

pub ancestors_first : (nodes : List Node) → IsOutline nodes → (low high : ℕ) → IsBelow nodes low high → high < low
ancestors_first nodes outline low high below = above_first nodes (length nodes) (outline_placed nodes outline) low high (below_inside nodes low high below) below

pub subtrees_are_runs : (nodes : List Node) → IsOutline nodes → (low high between : ℕ) → IsBelow nodes low high → high < between → between < low → IsBelow nodes between high
subtrees_are_runs nodes outline low high between below after before =
    let inside = below_inside nodes low high below in
    below_between nodes low (λ k upto. outline_placed nodes outline k (omega arith)) high below between after (omega arith)
