-- Lists of which each item's number is above that of the one before.
use Rattle.std.proofs.Common.{◌≡◌, ℕ, ◌<◌, ◌≤◌, ◌+◌, List, [], ◌∷◌, length, map, get_or, arith, ap}
use Rattle.std.specs.List.Sorted.{IsStrictlyIncreasing}
use Rattle.std.proofs.lemmas.List.{get_or-map, get_or_default, length-map}
use Rattle.std.proofs.lemmas.List.Kept.{AllPairs-from_increasing}

module _ {X : Type 0} (f : X → ℕ) where
  at_place : (xs : List X) (k : ℕ) (d : X) → k < length xs → get_or (map f xs) k 0 ≡ f (get_or xs k d)
  at_place xs k d inside = get_or-map f xs k d 0 inside

  -- the numbers rise where those at neighbouring places do
  pub rise_by_neighbours : (xs : List X) (place : ℕ) → length xs ≤ place → ((k : ℕ) (d : X) → k + 1 < place → f (get_or xs k d) < f (get_or xs (k + 1) d)) → IsStrictlyIncreasing (map f xs)
  rise_by_neighbours [] place past less k within = absurd (omega arith)
  rise_by_neighbours (x ∷ xs) place past less k within =
      let len = length-map (x ∷ xs) f in
      let here = at_place (x ∷ xs) k x (omega arith) in
      let there = at_place (x ∷ xs) (k + 1) x (omega arith) in
      let rises = less k x (omega arith) in
      omega arith

  pub rises_far : (xs : List X) (i j : ℕ) (d : X) → IsStrictlyIncreasing (map f xs) → i < j → j < length xs → f (get_or xs i d) < f (get_or xs j d)
  rises_far xs i j d rising before inside =
      let len = length-map xs f in
      let here = at_place xs i d (omega arith) in
      let there = at_place xs j d inside in
      let less = AllPairs-from_increasing (map f xs) rising i j 0 before (omega arith) in
      omega arith

  -- they don't where an item's number is at most that of the one before
  pub falls : (xs : List X) (i j : ℕ) (x y : X) → i + 1 ≡ j → j < length xs → f (get_or xs j y) ≤ f (get_or xs i x) → IsStrictlyIncreasing (map f xs) → ⊥
  falls xs i j x y next inside le rising =
      let less = rises_far xs i j x rising (omega arith) inside in
      let same = ap f (get_or_default xs j x y inside) in
      omega arith
