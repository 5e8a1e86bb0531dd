-- How a walk over the ends of subtrees finds the regions of a node.
use Rattle.std.proofs.Common.{◌<◌, ◌+◌, ℕ, List, [], ◌∷◌, ◌++◌, length, arith, inl, inr, sym, subst}
use Rattle.std.proofs.lemmas.Bool.{cases_lt}
use Rattle.std.proofs.Math.Nat.{eq-or-lt_of_le}
use Rattle.node_tree.specs.declared.node.Node.{Node}
use Rattle.node_tree.specs.Kinds.{IsHistory}
use Rattle.node_tree.specs.Nodes.{IsBelow, IsChild, IsTree, child}
use Rattle.node_tree.specs.Tables.{IsEnd}
use Rattle.node_tree.proofs.TreeLemmas.{subtrees_are_runs}
use Rattle.step_sets.specs.Sets.{IsSetOf}
use Rattle.step_sets.proofs.ChildLemmas.{children_upto}
use Rattle.step_sets.proofs.SetLemmas.{IsSetOf-push, IsSetOf-same}
use Rattle.step_sets.proofs.TreeLemmas.{child_inside, parent_less}
use Rattle.snapshot_text.specs.Histories.{IsRegion}

module _ (nodes : List Node) (tree : IsTree nodes) (parent : ℕ) where
  -- the regions that stand before a place
  abbrev pub AreRegionsBefore : ℕ → List ℕ → Type 0
  AreRegionsBefore at ys = IsSetOf (λ n. (n < at) × IsRegion nodes parent n) ys

  pub regions_push : (c end : ℕ) (ys : List ℕ) → IsChild nodes c parent → IsEnd nodes c end → ¬ IsHistory nodes c → AreRegionsBefore c ys → AreRegionsBefore end (ys ++ c ∷ [])
  regions_push c end ys is-child is-end plain set =
      IsSetOf-push ys c set (λ n f. f.0)
      (λ n. (
        (λ (before, is). elim ((children_upto nodes tree parent c end n is-child is-end).0 (before, is.0)) [ inl h ↦ inl (h.0, is) | inr same ↦ inr same ]),
        (λ h. elim h [
          | inl (less, is) ↦ (((children_upto nodes tree parent c end n is-child is-end).1 (inl (less, is.0))).0, is)
          | inr same ↦ (((children_upto nodes tree parent c end n is-child is-end).1 (inr same)).0, rw same (is-child, plain))
        ]),
      ))

  pub regions_skip : (c end : ℕ) (ys : List ℕ) → IsChild nodes c parent → IsEnd nodes c end → IsHistory nodes c → AreRegionsBefore c ys → AreRegionsBefore end ys
  regions_skip c end ys is-child is-end history set =
      IsSetOf-same ys set
      (λ n. (
        (λ (less, is). (((children_upto nodes tree parent c end n is-child is-end).1 (inl (less, is.0))).0, is)),
        (λ (before, is). elim ((children_upto nodes tree parent c end n is-child is-end).0 (before, is.0)) [
          | inl h ↦ (h.0, is)
          | inr same ↦ absurd (is.1 (let P : ℕ → Type 0 = λ x. IsHistory nodes x in subst P (sym same) history))
        ]),
      ))

  child_before : (at n : ℕ) → parent < at → (at < length nodes → IsBelow nodes at parent → ⊥) → IsChild nodes n parent → n < at
  child_before at n after stop is = elim (cases_lt n at) [
    | inl less ↦ less
    | inr from ↦ absurd (
        let inside = child_inside nodes n parent is in
        elim (eq-or-lt_of_le from) [
          | inl same ↦ stop (omega arith) (let P : ℕ → Type 0 = λ x. IsBelow nodes x parent in subst P (sym same) (child n parent is))
          | inr later ↦ stop (omega arith) (subtrees_are_runs nodes tree.outline n parent at (child n parent is) after later)
        ])
  ]

  pub regions_all : (at : ℕ) (ys : List ℕ) → parent < at → (at < length nodes → IsBelow nodes at parent → ⊥) → AreRegionsBefore at ys → IsSetOf (IsRegion nodes parent) ys
  regions_all at ys after stop set = IsSetOf-same ys set (λ n. ((λ f. f.1), (λ is. (child_before at n after stop is.0, is))))

  pub regions_none : AreRegionsBefore (parent + 1) []
  regions_none = record {
    in_order = λ k h. absurd (omega arith);
    exact = λ n. (
      (λ (k, h, e). absurd (omega arith)),
      (λ (before, is). absurd (let first = parent_less nodes tree n parent is.0 in omega arith)),
    );
  }
