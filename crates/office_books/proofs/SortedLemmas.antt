-- What a search by halves finds in a sorted list, and what an edit at that place does.
use Rattle.std.proofs.Common.{add-one, ◌≡◌, ℕ, zero, suc, ◌<◌, ◌≤◌, Bool, true, false, List, [], ◌∷◌, ◌++◌, length, get_or, map, filter, not, cond, Some, None, Result, Ok, Err, IfOk, IfErr, refl, sym, ap, ◌∙◌, arith}
use Rattle.std.specs.declared.cmp.Ordering.{Ordering}
use Rattle.std.specs.declared.cmp.Ordering.TheVariants.{Less, Equal, Greater}
use Rattle.std.specs.Cmp.{IsTotalOrder}
use Rattle.std.specs.Ordering.{ordering_reverse, is_lt, is_eq}
use Rattle.std.specs.List.{AllByRecursion, insert, remove, find}
use Rattle.std.specs.List.Sorted.{IsStrictlySortedBy, IsSortedBy, IsSearchInRange, IsBinarySearchResult}
use Rattle.std.proofs.lemmas.Cmp.{alike_right}
use Rattle.std.proofs.lemmas.List.Sorted.{searchable_from_sorted}
use Rattle.office_books.specs.Sorted.{RisesBy, IsAt, IsAbsentAt}

module _ {X K : Type 0} {R : K → K → Ordering} (o : IsTotalOrder R) (key : X → K) where
  turned : (a b : K) (r : Ordering) → R b a ≡ r → R a b ≡ ordering_reverse r
  turned a b r e = o.antisymm a b ∙ ap ordering_reverse e

  below_through : (a b : K) (xs : List X) → R a b ≡ Less → AllByRecursion (λ l. R b l ≡ Less) (map key xs) → AllByRecursion (λ l. R a l ≡ Less) (map key xs)
  below_through a b [] less all = tt
  below_through a b (x ∷ xs) less all = (o.trans a b (key x) less all.0, below_through a b xs less all.1)

  below_as : (a b : K) (xs : List X) → R a b ≡ Equal → AllByRecursion (λ l. R b l ≡ Less) (map key xs) → AllByRecursion (λ l. R a l ≡ Less) (map key xs)
  below_as a b [] equal all = tt
  below_as a b (x ∷ xs) equal all = (o.congr a b (key x) equal ∙ all.0, below_as a b xs equal all.1)

  below_at : (a : K) (xs : List X) (i : ℕ) (d : X) → AllByRecursion (λ l. R a l ≡ Less) (map key xs) → i < length xs → R a (key (get_or xs i d)) ≡ Less
  below_at a [] i d all within = absurd (omega arith)
  below_at a (x ∷ xs) zero d all within = all.0
  below_at a (x ∷ xs) (suc i) d all within = below_at a xs i d all.1 (omega arith)

  -- ---- the search

  found_at : (xs : List X) (k : K) (i : ℕ) → RisesBy R key xs → i < length xs → ((d : X) → R (key (get_or xs i d)) k ≡ Equal) → IsAt R k i (map key xs)
  unfolding IsStrictlySortedBy
  found_at [] k i rises within equal = absurd (omega arith)
  found_at (x ∷ xs) k zero rises within equal =
      let same : R k (key x) ≡ Equal = turned k (key x) Equal (equal x) in
      (same, below_as k (key x) xs same rises.0)
  found_at (x ∷ xs) k (suc i) rises within equal =
      let less : R (key x) (key (get_or xs i x)) ≡ Less = below_at (key x) xs i x rises.0 (omega arith) in
      let alike : R (key x) (key (get_or xs i x)) ≡ R (key x) k = alike_right o (key (get_or xs i x)) k (key x) (equal x) in
      (turned k (key x) Less (sym alike ∙ less), found_at xs k i rises.1 (omega arith) equal)

  gap_at : (xs : List X) (k : K) (i : ℕ) → i ≤ length xs → ((j : ℕ) (d : X) → j < i → R (key (get_or xs j d)) k ≡ Less)
      → ((j : ℕ) (d : X) → i ≤ j → j < length xs → R (key (get_or xs j d)) k ≡ Greater) → IsAbsentAt R k i (map key xs)
  gap_at [] k zero within less greater = tt
  gap_at [] k (suc i) within less greater = absurd (omega arith)
  gap_at (x ∷ xs) k zero within less greater = (
    turned k (key x) Greater (greater 0 x (omega arith) (omega arith)),
    gap_at xs k zero (omega arith) (λ j d before. absurd (omega arith)) (λ j d after inside. greater (suc j) d (omega arith) (omega arith)),
  )
  gap_at (x ∷ xs) k (suc i) within less greater = (
    turned k (key x) Less (less 0 x (omega arith)),
    gap_at xs k i (omega arith) (λ j d before. less (suc j) d (omega arith)) (λ j d after inside. greater (suc j) d (omega arith) (omega arith)),
  )

  pub adjacent : (xs : List X) → RisesBy R key xs → (k : ℕ) (d : X) → suc k < length xs → is_lt (R (key (get_or xs (suc k) d)) (key (get_or xs k d))) ≡ false
  unfolding IsStrictlySortedBy
  adjacent [] rises k d within = absurd (omega arith)
  adjacent (x ∷ []) rises k d within = absurd (omega arith)
  adjacent (x ∷ y ∷ xs) rises zero d within = rw (turned (key y) (key x) Less rises.0.0) refl
  adjacent (x ∷ y ∷ xs) rises (suc k) d within = adjacent (y ∷ xs) rises.1 k d (omega arith)

  pub searched : (xs : List X) (k : K) (r : Result ℕ ℕ) → RisesBy R key xs → IsSearchInRange r (length xs) → IsBinarySearchResult (λ x. R (key x) k) xs r
      → IfOk r (λ i. i < length xs) × IfOk r (λ i. IsAt R k i (map key xs)) × IfErr r (λ i. IsAbsentAt R k i (map key xs))
  searched xs k (Ok i) rises within equal = (within, found_at xs k i rises within equal, tt)
  searched xs k (Err i) rises within parted =
      let sorted : IsSortedBy (λ a b. is_lt (R (key a) (key b))) xs = λ j d low high. rw add-one (adjacent xs rises j d (omega (arith, high))) in
      let parts = parted (searchable_from_sorted o key xs k sorted) in
      (tt, tt, gap_at xs k i within (λ j d before. parts.0 j d (omega arith) before) (λ j d after inside. parts.1 j d after inside))

  pub within_at : (xs : List X) (k : K) (i : ℕ) → IsAt R k i (map key xs) → i < length xs
  within_at [] k i at = absurd at
  within_at (x ∷ xs) k zero at = omega arith
  within_at (x ∷ xs) k (suc i) at = omega (arith, within_at xs k i at.1)

  pub within_gap : (xs : List X) (k : K) (i : ℕ) → IsAbsentAt R k i (map key xs) → i ≤ length xs
  within_gap xs k zero gap = omega arith
  within_gap [] k (suc i) gap = absurd gap
  within_gap (x ∷ xs) k (suc i) gap = omega (arith, within_gap xs k i gap.1)

  -- ---- orders after edits

  all_filter : (P : K → Type 0) (p : X → Bool) (xs : List X) → AllByRecursion P (map key xs) → AllByRecursion P (map key (filter p xs))
  all_filter P p [] all = tt
  all_filter P p (x ∷ xs) all =
      elim (p x) as (λ b. AllByRecursion P (map key (cond b (x ∷ filter p xs) (filter p xs)))) [ true ↦ (all.0, all_filter P p xs all.1) | false ↦ all_filter P p xs all.1 ]

  pub rises_filter : (p : X → Bool) (xs : List X) → RisesBy R key xs → RisesBy R key (filter p xs)
  unfolding IsStrictlySortedBy
  rises_filter p [] rises = tt
  rises_filter p (x ∷ xs) rises =
      elim (p x) as (λ b. RisesBy R key (cond b (x ∷ filter p xs) (filter p xs))) [
        | true ↦ (all_filter (λ l. R (key x) l ≡ Less) p xs rises.0, rises_filter p xs rises.1)
        | false ↦ rises_filter p xs rises.1
      ]

  all_push : (P : K → Type 0) (xs : List X) (x : X) → AllByRecursion P (map key xs) → P (key x) → AllByRecursion P (map key (xs ++ x ∷ []))
  all_push P [] x all holds = (holds, tt)
  all_push P (y ∷ xs) x all holds = (all.0, all_push P xs x all.1 holds)

  -- a new item whose key is above all others
  pub rises_push : (xs : List X) (x : X) → RisesBy R key xs → AllByRecursion (λ l. R l (key x) ≡ Less) (map key xs) → RisesBy R key (xs ++ x ∷ [])
  unfolding IsStrictlySortedBy
  rises_push [] x rises above = (tt, tt)
  rises_push (y ∷ xs) x rises above = (all_push (λ l. R (key y) l ≡ Less) xs x rises.0 above.0, rises_push xs x rises.1 above.1)

  all_insert : (P : K → Type 0) (xs : List X) (i : ℕ) (x : X) → AllByRecursion P (map key xs) → P (key x) → i ≤ length xs → AllByRecursion P (map key (insert xs i x))
  all_insert P xs zero x all holds within = (holds, all)
  all_insert P [] (suc i) x all holds within = absurd (omega arith)
  all_insert P (y ∷ xs) (suc i) x all holds within = (all.0, all_insert P xs i x all.1 holds (omega arith))

  -- a new item in the gap for its key
  pub rises_insert : (xs : List X) (i : ℕ) (x : X) → RisesBy R key xs → IsAbsentAt R (key x) i (map key xs) → RisesBy R key (insert xs i x)
  unfolding IsStrictlySortedBy
  rises_insert xs zero x rises gap = (gap, rises)
  rises_insert [] (suc i) x rises gap = absurd gap
  rises_insert (y ∷ xs) (suc i) x rises gap =
      (all_insert (λ l. R (key y) l ≡ Less) xs i x rises.0 (turned (key y) (key x) Greater gap.0) (within_gap xs (key x) i gap.1), rises_insert xs i x rises.1 gap.1)

  -- ---- what a test by the key finds and keeps

  module _ (k : K) (same : X → Bool) (same_is : (x : X) → same x ≡ is_eq (R k (key x))) where
    kept_below : (xs : List X) → AllByRecursion (λ l. R k l ≡ Less) (map key xs) → filter (λ x. not (same x)) xs ≡ xs
    kept_below [] all = refl
    kept_below (x ∷ xs) all = let other : same x ≡ false = same_is x ∙ ap is_eq all.0 in rw other (ap (λ l. x ∷ l) (kept_below xs all.1))

    absent_below : (xs : List X) → AllByRecursion (λ l. R k l ≡ Less) (map key xs) → find same xs ≡ None
    absent_below [] all = refl
    absent_below (x ∷ xs) all = let other : same x ≡ false = same_is x ∙ ap is_eq all.0 in rw other (absent_below xs all.1)

    pub removed_at : (xs : List X) (i : ℕ) → IsAt R k i (map key xs) → remove xs i ≡ filter (λ x. not (same x)) xs
    removed_at [] i at = absurd at
    removed_at (x ∷ xs) zero at = let this : same x ≡ true = same_is x ∙ ap is_eq at.0 in rw this (sym (kept_below xs at.1))
    removed_at (x ∷ xs) (suc i) at = let other : same x ≡ false = same_is x ∙ ap is_eq at.0 in rw other (ap (λ l. x ∷ l) (removed_at xs i at.1))

    pub kept_gap : (xs : List X) (i : ℕ) → IsAbsentAt R k i (map key xs) → filter (λ x. not (same x)) xs ≡ xs
    kept_gap xs zero gap = kept_below xs gap
    kept_gap [] (suc i) gap = refl
    kept_gap (x ∷ xs) (suc i) gap = let other : same x ≡ false = same_is x ∙ ap is_eq gap.0 in rw other (ap (λ l. x ∷ l) (kept_gap xs i gap.1))

    pub found : (xs : List X) (i : ℕ) (d : X) → IsAt R k i (map key xs) → find same xs ≡ Some (get_or xs i d)
    found [] i d at = absurd at
    found (x ∷ xs) zero d at = let this : same x ≡ true = same_is x ∙ ap is_eq at.0 in rw this refl
    found (x ∷ xs) (suc i) d at = let other : same x ≡ false = same_is x ∙ ap is_eq at.0 in rw other (found xs i d at.1)

    pub absent : (xs : List X) (i : ℕ) → IsAbsentAt R k i (map key xs) → find same xs ≡ None
    absent xs zero gap = absent_below xs gap
    absent [] (suc i) gap = refl
    absent (x ∷ xs) (suc i) gap = let other : same x ≡ false = same_is x ∙ ap is_eq gap.0 in rw other (absent xs i gap.1)
