-- Which items a list has.
use Rattle.std.proofs.Common.{◌≡◌, ◌<◌, ◌⊎◌, ℕ, zero, suc, List, [], ◌∷◌, length, get_or, arith, inl, inr, sym, refl, subst, ◌∙◌}
use Rattle.std.specs.List.{AllPairs, Contains, flat_map}
use Rattle.std.proofs.lemmas.Bool.{cases_lt}
use Rattle.std.proofs.lemmas.List.{get_or_default}
use Rattle.std.proofs.lemmas.List.Elements.{Contains-append_cases}

pub Contains-here : {X : Type 0} (x : X) (xs : List X) → Contains (x ∷ xs) x
Contains-here x xs = (0, omega arith, refl)

pub Contains-there : {X : Type 0} (x y : X) (xs : List X) → Contains xs x → Contains (y ∷ xs) x
Contains-there x y xs (k, h, e) = (suc k, omega arith, e)

pub Contains-cons_cases : {X : Type 0} (x y : X) (xs : List X) → Contains (y ∷ xs) x → (y ≡ x) ⊎ Contains xs x
Contains-cons_cases x y xs (zero, h, e) = inl e
Contains-cons_cases x y xs (suc k, h, e) = inr (k, omega arith, e)

-- whether some item of a list has a property that can be decided
pub decide_any : {X : Type 0} (P : X → Type 0) → ((x : X) → P x ⊎ ¬ P x) → (xs : List X) → ((x : X) × Contains xs x × P x) ⊎ ((x : X) → Contains xs x → ¬ P x)
decide_any P decide [] = inr (λ x (k, h, e). absurd (omega arith))
decide_any {X} P decide (y ∷ xs) =
    elim (decide y) [
      | inl here ↦ inl (y, Contains-here y xs, here)
      | inr not-here ↦ elim (decide_any P decide xs) [
        | inl there ↦ inl (there.0, Contains-there there.0 y xs there.1, there.2)
        | inr none ↦ inr (λ x has p. elim (Contains-cons_cases x y xs has) [
          | inl e ↦ not-here (let Q : X → Type 0 = λ z. P z in rw e p)
          | inr later ↦ none x later p
        ])
      ]
    ]

-- an item of a flattened list comes from an item of the list
pub Contains-flat_map : {X Y : Type 0} (f : X → List Y) (xs : List X) (y : Y) → Contains (flat_map f xs) y → (k : ℕ) × (k < length xs) × ((d : X) → Contains (f (get_or xs k d)) y)
Contains-flat_map f [] y (k, h, e) = absurd (omega arith)
Contains-flat_map f (x ∷ xs) y has =
    elim (Contains-append_cases (f x) (flat_map f xs) y has) [
      | inl first ↦ (0, omega arith, λ d. first)
      | inr rest ↦ (let (k, h, later) = Contains-flat_map f xs y rest in (suc k, omega arith, later))
    ]

-- two items of a list of pairwise related items are the same or related
pub same_or_related : {X : Type 0} (R : X → X → Type 0) (xs : List X) (x y : X) → AllPairs R xs → Contains xs x → Contains xs y → (x ≡ y) ⊎ (R x y ⊎ R y x)
same_or_related {X} R xs x y pairs (i, hi, ei) (j, hj, ej) =
    let at-j : get_or xs j x ≡ y = get_or_default xs j x y hj ∙ ej in
    elim (cases_lt i j) [
      | inl before ↦ inr (inl (let r = pairs i j x before hj in
          let P : X → Type 0 = λ z. R z y in
          let Q : X → Type 0 = λ z. R (get_or xs i x) z in
          subst P ei (subst Q at-j r)))
      | inr ge ↦ elim (cases_lt j i) [
        | inl after ↦ inr (inr (let r = pairs j i x after hi in
            let P : X → Type 0 = λ z. R z x in
            let Q : X → Type 0 = λ z. R (get_or xs j x) z in
            subst P at-j (subst Q ei r)))
        | inr le ↦ inl (let same : i ≡ j = omega arith in sym ei ∙ (rw same at-j))
      ]
    ]
