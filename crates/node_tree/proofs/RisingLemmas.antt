-- Rising lists of numbers.
use Rattle.std.proofs.Common.{◌≡◌, ◌↔◌, ◌<◌, ◌≤◌, ℕ, List, length, get_or, arith, IsTrue, inl, inr, refl, sym, ◌∙◌}
use Rattle.std.specs.List.{Contains}
use Rattle.std.specs.List.Sorted.{IsBinarySearchResult, IsStrictlyIncreasing}
use Rattle.std.specs.Ordering.{nat_cmp}
use Rattle.std.specs.Result.{is_ok}
use Rattle.std.specs.Prelude.{Result, Ok, Err}
use Rattle.std.proofs.lemmas.List.{get_or_default}
use Rattle.std.proofs.lemmas.List.Kept.{AllPairs-from_increasing}
use Rattle.std.proofs.lemmas.List.Sorted.{searched}
use Rattle.std.proofs.lemmas.Bool.{cases_lt}

-- no number comes before a smaller one
pub rises : (xs : List ℕ) → IsStrictlyIncreasing xs → (i j : ℕ) → i ≤ j → j < length xs → get_or xs i 0 ≤ get_or xs j 0
rises xs up i j le inside = grind (arith, AllPairs-from_increasing xs up i j 0)

-- a binary search finds what a rising list has
pub found : (xs : List ℕ) (x : ℕ) (r : Result ℕ ℕ) → IsStrictlyIncreasing xs → IsBinarySearchResult (λ y. nat_cmp y x) xs r → IsTrue (is_ok r) ↔ Contains xs x
found xs x (Ok i) up searching =
    let at = searched xs x (Ok i) searching (rises xs up) in
    ((λ _. (i, at.0, get_or_default xs i x 0 at.0 ∙ at.1)), (λ _. refl))
found xs x (Err i) up searching =
    let at = searched xs x (Err i) searching (rises xs up) in (
      (λ yes. cc),
      (λ (k, inside, is). let here : get_or xs k 0 ≡ x = sym (get_or_default xs k x 0 inside) ∙ is in
          absurd (elim (cases_lt k i) [
            | inl before ↦ let below = at.1 k before in omega arith
            | inr after ↦ let above = at.2 k after inside in omega arith
          ])),
    )
