-- Neighbours in a sorted list, and whether two items of it are equal.
use Rattle.std.proofs.Common.{◌≡◌, ◌≢◌, ℕ, ◌<◌, ◌≤◌, ◌+◌, true, false, List, length, get_or, inl, inr, refl, sym, ap, ◌∙◌, arith}
use Rattle.std.specs.Prelude.{AllPairs}
use Rattle.std.specs.declared.cmp.Ordering.{Ordering}
use Rattle.std.specs.declared.cmp.Ordering.TheVariants.{Less, Equal, Greater}
use Rattle.std.specs.Cmp.{IsTotalOrder}
use Rattle.std.specs.List.{IsDistinct}
use Rattle.std.specs.Ordering.{eq_by_cmp, is_eq, is_lt, ordering_reverse}
use Rattle.std.specs.List.Sorted.{IsPermutation, IsSorted}
use Rattle.std.proofs.lemmas.Bool.{cases_lt}
use Rattle.std.proofs.lemmas.Cmp.{eq_by_cmp_equiv}
use Rattle.std.proofs.lemmas.List.{get_or_default}
use Rattle.std.proofs.lemmas.List.Sorted.{IsPermutation-sym}
use Rattle.std.proofs.lemmas.Map.Keys.{IsDistinct-from_apart, IsDistinct-from_sorted, IsDistinct-IsPermutation, apart_from_distinct, sorted_from_all_adjacent}

not_equal : (o : Ordering) → o ≢ Equal → is_eq o ≡ false
not_equal Less other = refl
not_equal Equal other = absurd (other refl)
not_equal Greater other = refl

is_not_equal : (o : Ordering) → is_eq o ≡ false → o ≢ Equal
is_not_equal o is same = absurd (let e : is_eq o ≡ true = ap is_eq same in cc)

module _ {K : Type 0} {R : K → K → Ordering} (o : IsTotalOrder R) where
  less_between : (x y : K) → is_lt (R y x) ≡ false → R x y ≢ Equal → R x y ≡ Less
  less_between x y not-less other = by_case (R x y) refl where
    by_case : (r : Ordering) → R x y ≡ r → R x y ≡ Less
    by_case Less is = is
    by_case Equal is = absurd (other is)
    by_case Greater is = absurd (let back : R y x ≡ Less = o.antisymm y x ∙ ap ordering_reverse is in let e : is_lt (R y x) ≡ true = ap is_lt back in cc)

  pub distinct_by_neighbours : (xs ys : List K) (place : ℕ) → IsPermutation xs ys → IsSorted R ys → length ys ≤ place
      → ((k : ℕ) (d : K) → k + 1 < place → R (get_or ys k d) (get_or ys (k + 1) d) ≢ Equal) → AllPairs (λ a b. R a b ≢ Equal) xs
  distinct_by_neighbours xs ys place moved sorted past apart = λ i j d before inside.
      let adjacent : (k : ℕ) → k + 1 < length ys → R (get_or ys k d) (get_or ys (k + 1) d) ≡ Less = λ k within.
      less_between (get_or ys k d) (get_or ys (k + 1) d) (sorted k d (omega arith) within) (apart k d (omega arith)) in
      let flips : (x y : K) → eq_by_cmp R x y ≡ eq_by_cmp R y x = (eq_by_cmp_equiv o).symm in
      let distinct : IsDistinct (eq_by_cmp R) xs = IsDistinct-IsPermutation (eq_by_cmp R) flips ys xs (IsPermutation-sym xs ys moved) (IsDistinct-from_sorted R ys (sorted_from_all_adjacent o ys d adjacent)) in
      is_not_equal (R (get_or xs i d) (get_or xs j d)) (apart_from_distinct (eq_by_cmp R) xs i j d distinct before inside)

  -- what two items are at their places
  at_places : (ys : List K) (i j : ℕ) (x y d : K) → i < length ys → j < length ys → x ≡ get_or ys i x → y ≡ get_or ys j y → R x y ≡ R (get_or ys i d) (get_or ys j d)
  at_places ys i j x y d one other here there =
      ap (λ (z : K). R z y) (here ∙ get_or_default ys i x d one) ∙ ap (λ (z : K). R (get_or ys i d) z) (there ∙ get_or_default ys j y d other)

  pub neighbours_distinct : (xs ys : List K) (i j : ℕ) (x y : K) → IsPermutation xs ys → i + 1 ≡ j → j < length ys → x ≡ get_or ys i x → y ≡ get_or ys j y → is_eq (R x y) ≡ true
      → AllPairs (λ a b. R a b ≢ Equal) xs → ⊥
  neighbours_distinct xs ys i j x y moved next inside here there same pairs =
      let flips : (x y : K) → eq_by_cmp R x y ≡ eq_by_cmp R y x = (eq_by_cmp_equiv o).symm in
      let distinct : IsDistinct (eq_by_cmp R) xs = IsDistinct-from_apart (eq_by_cmp R) xs (λ i j d before within. not_equal (R (get_or xs i d) (get_or xs j d)) (pairs i j d before within)) in
      let apart : is_eq (R (get_or ys i x) (get_or ys j x)) ≡ false = apart_from_distinct (eq_by_cmp R) ys i j x (IsDistinct-IsPermutation (eq_by_cmp R) flips xs ys moved distinct) (omega arith) inside in
      let e : is_eq (R x y) ≡ false = ap is_eq (at_places ys i j x y x (omega arith) inside here there) ∙ apart in
      absurd cc

  pub neighbours_more : (ys : List K) (i place : ℕ) (x y : K) → i + 1 ≡ place → place < length ys → x ≡ get_or ys i x → y ≡ get_or ys place y → is_eq (R x y) ≡ false
      → ((k : ℕ) (d : K) → k + 1 < place → R (get_or ys k d) (get_or ys (k + 1) d) ≢ Equal)
      → (k : ℕ) (d : K) → k + 1 < place + 1 → R (get_or ys k d) (get_or ys (k + 1) d) ≢ Equal
  neighbours_more ys i place x y next inside here there other apart k d within =
      elim (cases_lt (k + 1) place) [
        | inl before ↦ apart k d before
        | inr from ↦ (
            let this : k ≡ i = omega arith in
            let e : is_eq (R (get_or ys i d) (get_or ys place d)) ≡ false = ap is_eq (sym (at_places ys i place x y d (omega arith) inside here there)) ∙ other in
            let f : is_eq (R (get_or ys k d) (get_or ys (k + 1) d)) ≡ false =
            ap (λ (z : ℕ). is_eq (R (get_or ys z d) (get_or ys (z + 1) d))) this ∙ ap (λ (z : ℕ). is_eq (R (get_or ys i d) (get_or ys z d))) next ∙ e in
            is_not_equal (R (get_or ys k d) (get_or ys (k + 1) d)) f)
      ]
