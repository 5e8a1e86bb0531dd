-- Records of a history, one by one and looked up; and a list that was sorted, each number once.
use Rattle.std.proofs.Common.{◌≡◌, ◌≢◌, ◌↔◌, ℕ, zero, suc, ◌<◌, ◌==◌, cond, Bool, true, false, List, [], ◌∷◌, Some, length, get_or, arith, refl, sym, ◌∙◌, subst}
use Rattle.std.specs.List.{AllByRecursion, Contains, dedup}
use Rattle.std.specs.List.Sorted.{IsPermutation, IsSorted, IsStrictlyIncreasing}
use Rattle.std.specs.Ordering.{nat_cmp}
use Rattle.std.proofs.lemmas.Bool.{eqb-true}
use Rattle.std.proofs.lemmas.Bool.Decides.{nat_tests}
use Rattle.std.proofs.lemmas.List.Kept.{Contains-dedup_nat, Contains-from_dedup}
use Rattle.std.proofs.lemmas.List.Sorted.{Contains-permutation, IsPermutation-sym}
use Rattle.std.proofs.lemmas.Map.Keys.{IsStrictlyIncreasing-dedup}
use Rattle.step_sets.specs.Goals.{History, record_of}
use Rattle.step_sets.specs.History.{history_nodes}
use Rattle.snapshot_text.proofs.OrderLemmas.{rises_far}

abbrev pub Entry : Type 0
Entry = ℕ × List ℕ

here : (r : Entry) (rest : History) (h : ℕ) → r.0 ≡ h → record_of (r ∷ rest) h ≡ Some r.1
here r rest h same = grind (arith, nat_tests)

past : (r : Entry) (rest : History) (h : ℕ) → r.0 ≢ h → record_of (r ∷ rest) h ≡ record_of rest h
past r rest h apart = grind (arith, nat_tests)

-- what holds of each entry holds of what is looked up
pub looked_up : (P : ℕ → List ℕ → Type 0) (history : History) → AllByRecursion (λ (r : Entry). P r.0 r.1) history → (h : ℕ) (list : List ℕ) → record_of history h ≡ Some list → P h list
looked_up P [] all h list found = absurd cc
looked_up P (r ∷ history) all h list found = by_test (looked_up P history all.1 h list) (r.0 == h) refl found where
  by_test : (record_of history h ≡ Some list → P h list) → (b : Bool) → (r.0 == h) ≡ b → cond b (Some r.1) (record_of history h) ≡ Some list → P h list
  by_test rest true is found =
      let same : r.0 ≡ h = eqb-true r.0 h is in
      let e : r.1 ≡ list = cc in
      let A : ℕ → Type 0 = λ n. P n list in
      let B : List ℕ → Type 0 = λ l. P r.0 l in
      subst A same (subst B e all.0)
  by_test rest false is found = rest found

-- an entry is found by its node, where no earlier one has that node
pub entry_found : (history : History) (i : ℕ) (d : Entry) → i < length history → ((k : ℕ) → k < i → (get_or history k d).0 ≢ (get_or history i d).0) → record_of history (get_or history i d).0 ≡ Some (get_or history i d).1
entry_found [] i d inside apart = absurd (omega arith)
entry_found (r ∷ history) zero d inside apart = here r history r.0 refl
entry_found (r ∷ history) (suc i) d inside apart =
    past r history (get_or history i d).0 (apart 0 (omega arith))
    ∙ entry_found history i d (omega arith) (λ k less. apart (suc k) (omega arith))

pub rising_found : (history : History) → IsStrictlyIncreasing (history_nodes history) → (i : ℕ) (d : Entry) → i < length history → record_of history (get_or history i d).0 ≡ Some (get_or history i d).1
rising_found history rising i d inside =
    entry_found history i d inside (λ k less same. absurd (let lt = rises_far (λ (r : Entry). r.0) history k i d rising less inside in omega arith))

-- ---- sorted, each number once

pub sorted_once : (xs ys zs : List ℕ) → IsPermutation xs ys → IsSorted nat_cmp ys → zs ≡ dedup (λ a b. a == b) ys → IsStrictlyIncreasing zs × ((n : ℕ) → Contains zs n ↔ Contains xs n)
sorted_once xs ys zs moved sorted is =
    let P : List ℕ → Type 0 = λ l. IsStrictlyIncreasing l in (
      subst P (sym is) (IsStrictlyIncreasing-dedup ys sorted),
      (λ n. let Q : List ℕ → Type 0 = λ l. Contains l n in (
        (λ has. Contains-permutation ys xs n (IsPermutation-sym xs ys moved) (Contains-from_dedup (λ a b. a == b) ys n (subst Q is has))),
        (λ has. subst Q (sym is) (Contains-dedup_nat ys n (Contains-permutation xs ys n moved has))),
      )),
    )
