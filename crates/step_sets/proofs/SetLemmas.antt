-- Sets of nodes as rising lists, and how a loop makes one.
use Rattle.std.proofs.Common.{◌≡◌, ◌↔◌, ◌<◌, ◌≤◌, ◌+◌, ◌⊎◌, ℕ, List, [], ◌∷◌, ◌++◌, length, get_or, take, arith, inl, inr, sym}
use Rattle.std.specs.List.{All, Contains}
use Rattle.std.specs.List.Sorted.{IsStrictlyIncreasing}
use Rattle.std.proofs.lemmas.Bool.{cases_lt}
use Rattle.std.proofs.lemmas.List.{length_push, get_or_append_left, get_or_push, take_more, take_all, get_or_default, get_or-take, length-take}
use Rattle.std.proofs.lemmas.List.Elements.{Contains-push, Contains-push_cases, Contains-append_left, Contains-get_or}
use Rattle.std.proofs.lemmas.List.Kept.{AllPairs-from_increasing}
use Rattle.step_sets.specs.Sets.{IsSetOf}

-- a rising list stays so when a greater number is added
pub IsStrictlyIncreasing-push : (xs : List ℕ) (y : ℕ) → IsStrictlyIncreasing xs → ((n : ℕ) → Contains xs n → n < y) → IsStrictlyIncreasing (xs ++ y ∷ [])
IsStrictlyIncreasing-push xs y rising below k h =
    rw (get_or_append_left xs (y ∷ []) 0 k inside)
    elim (cases_lt (k + 1) (length xs)) [
      | inl lt ↦ rw (get_or_append_left xs (y ∷ []) 0 (k + 1) lt) (rising k lt)
      | inr le ↦ rw (get_or_push xs y 0 (k + 1) (omega (arith, length_push xs y, h))) (below (get_or xs k 0) (Contains-get_or xs k 0 inside))
    ]
  where
    inside : k < length xs
    inside = omega (arith, length_push xs y, h)

-- a set with one more node, which stands after all others
pub IsSetOf-push : {F G : ℕ → Type 0} (ys : List ℕ) (x : ℕ) → IsSetOf F ys → ((n : ℕ) → F n → n < x) → ((n : ℕ) → G n ↔ (F n ⊎ (n ≡ x))) → IsSetOf G (ys ++ x ∷ [])
IsSetOf-push {F} {G} ys x set below same = record {
  in_order = IsStrictlyIncreasing-push ys x set.in_order (λ n h. below n ((set.exact n).0 h));
  exact = λ n. (
    (λ h. (same n).1 (elim (Contains-push_cases ys x n h) [ inl k ↦ inl ((set.exact n).0 k) | inr e ↦ inr (sym e) ])),
    (λ g. elim ((same n).0 g) [
      | inl f ↦ Contains-append_left ys (x ∷ []) n ((set.exact n).1 f)
      | inr e ↦ rw e (Contains-push ys x)
    ]),
  );
}

-- the same set under another name
pub IsSetOf-same : {F G : ℕ → Type 0} (ys : List ℕ) → IsSetOf F ys → ((n : ℕ) → F n ↔ G n) → IsSetOf G ys
IsSetOf-same {F} {G} ys set same = record {
  in_order = set.in_order;
  exact = λ n. ((λ h. (same n).0 ((set.exact n).0 h)), (λ g. (set.exact n).1 ((same n).1 g)));
}

-- those of the first i of xs that are picked
abbrev pub IsPicked : (ℕ → Type 0) → List ℕ → ℕ → List ℕ → Type 0
IsPicked P xs i ys = IsSetOf (λ n. Contains (take i xs) n × P n) ys

-- what is among the first of a rising list stands before the next
front_below : (xs : List ℕ) (i n : ℕ) → IsStrictlyIncreasing xs → i < length xs → Contains (take i xs) n → n < get_or xs i 0
front_below xs i n rising inside (k, h, e) =
    let before : k < i = omega (arith, length-take i xs, h) in
    grind (arith, AllPairs-from_increasing xs rising k i n, get_or-take i xs k n before, get_or_default xs i n 0 inside)

pub front_more : (xs : List ℕ) (i n : ℕ) → i < length xs → Contains (take (i + 1) xs) n ↔ (Contains (take i xs) n ⊎ (n ≡ get_or xs i 0))
front_more xs i n inside =
    rw (take_more xs i 0 inside) (
      (λ h. elim (Contains-push_cases (take i xs) (get_or xs i 0) n h) [ inl k ↦ inl k | inr same ↦ inr (sym same) ]),
      (λ h. elim h [
        | inl k ↦ Contains-append_left (take i xs) (get_or xs i 0 ∷ []) n k
        | inr same ↦ rw same (Contains-push (take i xs) (get_or xs i 0))
      ]),
    )

-- the next is picked
pub IsPicked-push : {P : ℕ → Type 0} (xs ys : List ℕ) (i : ℕ) → IsStrictlyIncreasing xs → i < length xs → P (get_or xs i 0) → IsPicked P xs i ys → IsPicked P xs (i + 1) (ys ++ get_or xs i 0 ∷ [])
IsPicked-push {P} xs ys i rising inside p set =
    IsSetOf-push ys (get_or xs i 0) set (λ n f. front_below xs i n rising inside f.0)
    (λ n. (
      (λ g. elim ((front_more xs i n inside).0 g.0) [ inl k ↦ inl (k, g.1) | inr e ↦ inr e ]),
      (λ f. elim f [
        | inl k ↦ ((front_more xs i n inside).1 (inl k.0), k.1)
        | inr e ↦ ((front_more xs i n inside).1 (inr e), rw e p)
      ]),
    ))

-- the next is not picked
pub IsPicked-skip : {P : ℕ → Type 0} (xs ys : List ℕ) (i : ℕ) → i < length xs → ¬ P (get_or xs i 0) → IsPicked P xs i ys → IsPicked P xs (i + 1) ys
IsPicked-skip {P} xs ys i inside out set =
    IsSetOf-same ys set
    (λ n. (
      (λ f. ((front_more xs i n inside).1 (inl f.0), f.1)),
      (λ g. elim ((front_more xs i n inside).0 g.0) [ inl k ↦ (k, g.1) | inr e ↦ absurd (out (rw (← e) g.1)) ]),
    ))

pub IsPicked-all : {P : ℕ → Type 0} (xs ys : List ℕ) (i : ℕ) → length xs ≤ i → IsPicked P xs i ys → IsSetOf (λ n. Contains xs n × P n) ys
IsPicked-all {P} xs ys i all set = rw (take_all i xs all) at set

-- what holds of each member holds of the list
pub All-from_set : {F : ℕ → Type 0} (P : ℕ → Type 0) (ys : List ℕ) → IsSetOf F ys → ((n : ℕ) → F n → P n) → All P ys
All-from_set {F} P ys set of = λ k d inside. of (get_or ys k d) ((set.exact (get_or ys k d)).0 (Contains-get_or ys k d inside))
