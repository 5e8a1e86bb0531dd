-- The members of a rising list that are below a node stand side by side.
use Rattle.std.proofs.Common.{◌≡◌, ◌<◌, ◌≤◌, ◌+◌, ◌-◌, ℕ, List, length, get_or, take, drop, arith, inl, inr, sym, ◌∙◌, subst, ap}
use Rattle.std.specs.List.{Contains}
use Rattle.std.specs.List.Sorted.{IsStrictlyIncreasing}
use Rattle.std.proofs.lemmas.Bool.{cases_lt}
use Rattle.std.proofs.lemmas.List.{get_or-drop, get_or-take, get_or_default, length-drop, length-take}
use Rattle.std.proofs.lemmas.List.Kept.{AllPairs-from_increasing}
use Rattle.std.proofs.Math.Nat.{eq-or-lt_of_le}
use Rattle.node_tree.specs.declared.node.Node.{Node}
use Rattle.node_tree.specs.Nodes.{IsBelow, IsTree}
use Rattle.node_tree.proofs.TreeLemmas.{ancestors_first, subtrees_are_runs}
use Rattle.step_sets.specs.Sets.{IsSetOf}

pub rises : (xs : List ℕ) → IsStrictlyIncreasing xs → (i j : ℕ) → i < j → j < length xs → get_or xs i 0 < get_or xs j 0
rises xs up i j less inside = grind (arith, AllPairs-from_increasing xs up i j 0)

pub rises_upto : (xs : List ℕ) → IsStrictlyIncreasing xs → (i j : ℕ) → i ≤ j → j < length xs → get_or xs i 0 ≤ get_or xs j 0
rises_upto xs up i j le inside = grind (arith, AllPairs-from_increasing xs up i j 0)

module _ (xs : List ℕ) (start end : ℕ) (ordered : start ≤ end) (inside : end ≤ length xs) where
  -- the items from the one place to before the other
  abbrev pub run : List ℕ
  run = take (end - start) (drop start xs)

  run_len : length run ≡ end - start
  run_len = omega (arith, length-take (end - start) (drop start xs), length-drop start xs)

  run_at : (k d : ℕ) → k < end - start → get_or run k d ≡ get_or xs (start + k) d
  run_at k d less = get_or-take (end - start) (drop start xs) k d less ∙ get_or-drop start xs k d

  run_rises : IsStrictlyIncreasing xs → IsStrictlyIncreasing run
  run_rises up k h =
      let len = run_len in
      let first = run_at k 0 (omega arith) in
      let second = run_at (k + 1) 0 (omega arith) in
      let less = rises xs up (start + k) (start + (k + 1)) (omega arith) (omega arith) in
      omega arith

  run_has : (n : ℕ) → Contains run n → (j : ℕ) × (start ≤ j) × (j < end) × (get_or xs j n ≡ n)
  run_has n (k, less, is) =
      let len = run_len in
      (start + k, omega arith, omega arith, sym (run_at k n (omega arith)) ∙ is)

  run_of : (n j : ℕ) → start ≤ j → j < end → get_or xs j n ≡ n → Contains run n
  run_of n j from upto is =
      let len = run_len in
      let same : start + (j - start) ≡ j = omega arith in
      (j - start, omega arith, run_at (j - start) n (omega arith) ∙ ap (λ i. get_or xs i n) same ∙ is)

module _ (nodes : List Node) (tree : IsTree nodes) (xs : List ℕ) (up : IsStrictlyIncreasing xs) (high start end : ℕ) (ordered : start ≤ end) (inside : end ≤ length xs)
    (before : (k : ℕ) → k < start → get_or xs k 0 ≤ high) (after : (k : ℕ) → start ≤ k → k < length xs → high < get_or xs k 0)
    (all : (k : ℕ) → start ≤ k → k < end → IsBelow nodes (get_or xs k 0) high) (stop : end < length xs → IsBelow nodes (get_or xs end 0) high → ⊥) where
  -- what stands behind the first that is not below the node is not below it
  past_run : (k : ℕ) → end ≤ k → k < length xs → IsBelow nodes (get_or xs k 0) high → ⊥
  past_run k past within below =
      elim (eq-or-lt_of_le past) [
        | inl same ↦ let P : ℕ → Type 0 = λ i. IsBelow nodes (get_or xs i 0) high in stop (omega arith) (subst P (sym same) below)
        | inr less ↦ stop (omega arith) (subtrees_are_runs nodes tree.outline (get_or xs k 0) high (get_or xs end 0) below (after end ordered (omega arith)) (rises xs up end k less within))
      ]

  from_run : (k n : ℕ) → k < length xs → get_or xs k n ≡ n → IsBelow nodes n high → Contains (run xs start end ordered inside) n
  from_run k n within is below =
      let here : get_or xs k 0 ≡ n = sym (get_or_default xs k n 0 within) ∙ is in
      let above : high < n = ancestors_first nodes tree.outline n high below in
      let P : ℕ → Type 0 = λ m. IsBelow nodes m high in
      let from : start ≤ k = elim (cases_lt k start) [ inl less ↦ absurd (let low = before k less in omega arith) | inr ge ↦ ge ] in
      let upto : k < end = elim (cases_lt k end) [ inl less ↦ less | inr past ↦ absurd (past_run k past within (subst P (sym here) below)) ] in
      run_of xs start end ordered inside n k from upto is

  in_run : (n : ℕ) → Contains (run xs start end ordered inside) n → Contains xs n × IsBelow nodes n high
  in_run n has =
      let (j, from, upto, is) = run_has xs start end ordered inside n has in
      let within : j < length xs = omega arith in
      let here : get_or xs j 0 ≡ n = sym (get_or_default xs j n 0 within) ∙ is in
      let P : ℕ → Type 0 = λ m. IsBelow nodes m high in
      ((j, within, is), subst P here (all j from upto))

  pub run_is_set : IsSetOf (λ n. Contains xs n × IsBelow nodes n high) (run xs start end ordered inside)
  run_is_set = record {
    in_order = run_rises xs start end ordered inside up;
    exact = λ n. (in_run n, (λ (has, below). from_run has.0 n has.1 has.2 below));
  }
