-- Where subtrees end, and how a walk over the ends finds the children of a node.
use Rattle.std.proofs.Common.{◌≡◌, ◌↔◌, ◌<◌, ◌≤◌, ◌+◌, ◌⊎◌, ℕ, zero, suc, List, [], ◌∷◌, ◌++◌, length, arith, inl, inr, sym, subst}
use Rattle.std.proofs.lemmas.Bool.{cases_lt}
use Rattle.std.proofs.Math.Nat.{eq-or-lt_of_le}
use Rattle.node_tree.specs.declared.node.Node.{Node}
use Rattle.node_tree.specs.Nodes.{IsBelow, IsChild, IsTree, IsWithin, child}
use Rattle.node_tree.specs.Tables.{IsEnd}
use Rattle.node_tree.proofs.TreeLemmas.{subtrees_are_runs}
use Rattle.step_sets.specs.Sets.{IsSetOf}
use Rattle.step_sets.proofs.SetLemmas.{IsSetOf-push, IsSetOf-same}
use Rattle.step_sets.proofs.TreeLemmas.{above_parent, below_inside, below_less, below_trans, child_inside, comparable, parent_less}

module _ (nodes : List Node) (tree : IsTree nodes) where
  -- where the last node below a node stands right before a place, and none from there on is below it
  pub end_is : (n last end : ℕ) → last + 1 ≡ end → end ≤ length nodes → n ≤ last → IsWithin nodes last n → (end < length nodes → IsBelow nodes end n → ⊥) → IsEnd nodes n end
  end_is n last end next inside from within stop = record {
    after = omega arith;
    inside = inside;
    below = λ k after before. elim within [
      | inl same ↦ absurd (omega arith)
      | inr below ↦ (let upto : k ≤ last = omega arith in elim (eq-or-lt_of_le upto) [
        | inl same ↦ (let P : ℕ → Type 0 = λ x. IsBelow nodes x n in subst P (sym same) below)
        | inr less ↦ subtrees_are_runs nodes tree.outline last n k below after less
      ])
    ];
    last = λ below. stop (below_inside nodes end n below) below;
  }

  -- a node below another one has its parent at that one or below it; the row before it is at its parent or
  -- below that
  placed_after : (at high : ℕ) → 0 < at → IsBelow nodes at high → (parent before : ℕ) × (before + 1 ≡ at) × IsChild nodes at parent × IsWithin nodes before parent × IsWithin nodes parent high
  placed_after zero high some below = absurd (omega arith)
  placed_after (suc before) high some below =
      let placed = (tree.outline.rows (suc before) (below_inside nodes (suc before) high below)).placed in
      (placed.0, before, omega arith, placed.1, placed.2, above_parent nodes (suc before) placed.0 high placed.1 below)

  -- two nodes of which each is at or below the other are one
  both_ways : (a b : ℕ) → IsWithin nodes a b → IsWithin nodes b a → a ≡ b
  both_ways a b (inl same) other = same
  both_ways a b (inr below) (inl same) = sym same
  both_ways a b (inr below) (inr above) = let less = below_less nodes tree a b below in let more = below_less nodes tree b a above in absurd (omega arith)

  -- the node right after a node, where it is below that, is a child of it
  pub first_child : (parent : ℕ) → IsBelow nodes (parent + 1) parent → IsChild nodes (parent + 1) parent
  first_child parent below =
      let (own, before, next, is, row, within) = placed_after (parent + 1) parent (omega arith) below in
      let here : before ≡ parent = omega arith in
      let P : ℕ → Type 0 = λ x. IsWithin nodes x own in
      let Q : ℕ → Type 0 = λ x. IsChild nodes (parent + 1) x in
      subst Q (both_ways own parent within (subst P here row)) is

  -- the node where the subtree of a child ends, where it is below the parent, is a child too
  pub next_child : (parent c end : ℕ) → IsChild nodes c parent → IsEnd nodes c end → IsBelow nodes end parent → IsChild nodes end parent
  next_child parent c end is-child is-end below =
      let after = is-end.after in
      let (own, before, next, is, row, within) = placed_after end parent (omega arith) below in
      let inside : IsWithin nodes before c = elim (cases_lt c before) [
        | inl later ↦ inr (is-end.below before later (omega arith))
        | inr upto ↦ inl (omega arith)
      ] in
      let Q : ℕ → Type 0 = λ x. IsChild nodes end x in
      let ends : IsWithin nodes own c → ⊥ = λ w. is-end.last (elim w [
        | inl same ↦ child end c (subst Q same is)
        | inr under ↦ below_trans nodes end own c (child end own is) under
      ]) in
      elim (comparable nodes before own c row inside) [
        | inl w ↦ absurd (ends w)
        | inr under ↦ subst Q (both_ways own parent within (above_parent nodes c parent own is-child under)) is
      ]

  -- between a child and the end of its subtree there is no other child
  pub children_upto : (parent c end n : ℕ) → IsChild nodes c parent → IsEnd nodes c end → ((n < end) × IsChild nodes n parent) ↔ (((n < c) × IsChild nodes n parent) ⊎ (n ≡ c))
  children_upto parent c end n is-child is-end = (
    (λ (before, is). elim (cases_lt n c) [
      | inl less ↦ inl (less, is)
      | inr from ↦ elim (eq-or-lt_of_le from) [
        | inl same ↦ inr (sym same)
        | inr later ↦ absurd (
            let under = above_parent nodes n parent c is (is-end.below n later before) in
            let first = parent_less nodes tree c parent is-child in
            elim under [
              | inl same ↦ omega arith
              | inr below ↦ (let less = below_less nodes tree parent c below in omega arith)
            ])
      ]
    ]),
    (λ h. elim h [
      | inl (less, is) ↦ (let after = is-end.after in omega arith, is)
      | inr same ↦ (let after = is-end.after in omega arith, rw same is-child)
    ]),
  )

  pub children_more : (parent c end : ℕ) (ys : List ℕ) → IsChild nodes c parent → IsEnd nodes c end → IsSetOf (λ n. (n < c) × IsChild nodes n parent) ys → IsSetOf (λ n. (n < end) × IsChild nodes n parent) (ys ++ c ∷ [])
  children_more parent c end ys is-child is-end set = IsSetOf-push ys c set (λ n f. f.0) (λ n. children_upto parent c end n is-child is-end)

  -- where the walk ends there are no further children
  pub children_all : (parent at : ℕ) (ys : List ℕ) → parent < at → (at < length nodes → IsBelow nodes at parent → ⊥) → IsSetOf (λ n. (n < at) × IsChild nodes n parent) ys → IsSetOf (λ n. IsChild nodes n parent) ys
  children_all parent at ys after stop set =
      IsSetOf-same ys set (λ n. (
        (λ f. f.1),
        (λ is. (
          (elim (cases_lt n at) [
            | inl less ↦ less
            | inr from ↦ absurd (
                let inside = child_inside nodes n parent is in
                elim (eq-or-lt_of_le from) [
                  | inl same ↦ stop (omega arith) (let P : ℕ → Type 0 = λ x. IsBelow nodes x parent in subst P (sym same) (child n parent is))
                  | inr later ↦ stop (omega arith) (subtrees_are_runs nodes tree.outline n parent at (child n parent is) after later)
                ])
          ]),
          is,
        )),
      ))

  -- before the first child there is none
  pub children_none : (parent : ℕ) → IsSetOf (λ n. (n < parent + 1) × IsChild nodes n parent) []
  children_none parent = record {
    in_order = λ k h. absurd (omega arith);
    exact = λ n. (
      (λ (k, h, e). absurd (omega arith)),
      (λ (before, is). absurd (let first = parent_less nodes tree n parent is in omega arith)),
    );
  }
