-- Which item of a number is found, after one is put in its place, taken out or added.
use Rattle.std.proofs.Common.{◌≡◌, ◌≢◌, ℕ, ◌<◌, Bool, true, false, cond, not, List, [], ◌∷◌, ◌++◌, map, nat_eq, Some, None, refl, sym, ap, ◌∙◌, subst, arith}
use Rattle.std.specs.declared.cmp.Ordering.TheVariants.{Less}
use Rattle.std.specs.Ordering.{nat_cmp}
use Rattle.std.specs.List.{All, AllByRecursion}
use Rattle.std.specs.List.Sorted.{IsStrictlySortedBy}
use Rattle.std.specs.Option.{option_map}
use Rattle.std.proofs.lemmas.Bool.{eq-eqb, eqb-true}
use Rattle.std.proofs.lemmas.Cmp.{nat_cmp_total, ranked}
use Rattle.std.proofs.lemmas.List.Elements.{All-cons, All-head, All-tail}
use Rattle.office_books.specs.NumberedItems.{NumbersRise, numbered_item, with_numbered_item, without_numbered_item}
use Rattle.office_books.proofs.ItemLemmas.{less}
use Rattle.office_books.proofs.KeyIndexLemmas.{other_number}
use Rattle.office_books.proofs.SortedLemmas.{rises_filter, rises_push}

abbrev pub Above : ℕ → ℕ → Type 0
Above number other = nat_cmp number other ≡ Less

module _ {X : Type 0} where
  abbrev number_of : ℕ × X → ℕ
  number_of pair = pair.0

  module _ (number other : ℕ) (apart : other ≢ number) where
    skipped : (first : ℕ × X) → nat_eq first.0 number ≡ true → nat_eq first.0 other ≡ false
    skipped first here = other_number first.0 other (λ same. apart (sym same ∙ eqb-true first.0 number here))

    pub with_other : (item : X) (items : List (ℕ × X)) → numbered_item other (with_numbered_item number item items) ≡ numbered_item other items
    with_other item [] = refl
    with_other item (first ∷ items) = cases (with_other item items) (nat_eq first.0 number) refl
      where
        cases : numbered_item other (with_numbered_item number item items) ≡ numbered_item other items → (b : Bool) → nat_eq first.0 number ≡ b
            → numbered_item other (cond b (first.0, item) first ∷ with_numbered_item number item items) ≡ cond (nat_eq first.0 other) (Some first.1) (numbered_item other items)
        cases rest true here = rw (skipped first here) rest
        cases rest false here = ap (cond (nat_eq first.0 other) (Some first.1)) rest

    pub without_other : (items : List (ℕ × X)) → numbered_item other (without_numbered_item number items) ≡ numbered_item other items
    without_other [] = refl
    without_other (first ∷ items) = cases (without_other items) (nat_eq first.0 number) refl
      where
        cases : numbered_item other (without_numbered_item number items) ≡ numbered_item other items → (b : Bool) → nat_eq first.0 number ≡ b
            → numbered_item other (cond (not b) (first ∷ without_numbered_item number items) (without_numbered_item number items)) ≡ cond (nat_eq first.0 other) (Some first.1) (numbered_item other items)
        cases rest true here = rw (skipped first here) rest
        cases rest false here = ap (cond (nat_eq first.0 other) (Some first.1)) rest

    pub push_other : (item : X) (items : List (ℕ × X)) → numbered_item other (items ++ (number, item) ∷ []) ≡ numbered_item other items
    push_other item [] = rw (other_number number other (λ same. apart (sym same))) refl
    push_other item (first ∷ items) = ap (cond (nat_eq first.0 other) (Some first.1)) (push_other item items)

  pub with_same : (number : ℕ) (item old : X) (items : List (ℕ × X)) → numbered_item number items ≡ Some old → numbered_item number (with_numbered_item number item items) ≡ Some item
  with_same number item old [] = λ there. absurd (cc)
  with_same number item old (first ∷ items) = cases (with_same number item old items) (nat_eq first.0 number) refl
    where
      cases : (numbered_item number items ≡ Some old → numbered_item number (with_numbered_item number item items) ≡ Some item) → (b : Bool) → nat_eq first.0 number ≡ b
          → cond b (Some first.1) (numbered_item number items) ≡ Some old → numbered_item number (cond b (first.0, item) first ∷ with_numbered_item number item items) ≡ Some item
      cases rest true here there = rw here refl
      cases rest false here there = rw here (rest there)

  pub without_same : (number : ℕ) (items : List (ℕ × X)) → numbered_item number (without_numbered_item number items) ≡ None
  without_same number [] = refl
  without_same number (first ∷ items) = cases (without_same number items) (nat_eq first.0 number) refl
    where
      cases : numbered_item number (without_numbered_item number items) ≡ None → (b : Bool) → nat_eq first.0 number ≡ b
          → numbered_item number (cond (not b) (first ∷ without_numbered_item number items) (without_numbered_item number items)) ≡ None
      cases rest true here = rest
      cases rest false here = rw here rest

  pub push_same : (number : ℕ) (item : X) (items : List (ℕ × X)) → numbered_item number items ≡ None → numbered_item number (items ++ (number, item) ∷ []) ≡ Some item
  push_same number item [] = λ none. rw (eq-eqb number number refl) refl
  push_same number item (first ∷ items) = cases (push_same number item items) (nat_eq first.0 number)
    where
      cases : (numbered_item number items ≡ None → numbered_item number (items ++ (number, item) ∷ []) ≡ Some item) → (b : Bool)
          → cond b (Some first.1) (numbered_item number items) ≡ None → cond b (Some first.1) (numbered_item number (items ++ (number, item) ∷ [])) ≡ Some item
      cases rest true none = absurd (cc)
      cases rest false none = rest none

  abbrev pub Lower : ℕ → ℕ × X → Type 0
  Lower number pair = pair.0 < number

  -- a number above all others is new
  pub newer_none : (number : ℕ) (items : List (ℕ × X)) → All (Lower number) items → numbered_item number items ≡ None
  newer_none number [] newer = refl
  newer_none number (first ∷ items) newer =
      let lower : first.0 < number = All-head (Lower number) first items newer in
      rw (other_number first.0 number (λ same. omega arith)) (newer_none number items (All-tail (Lower number) first items newer))

  -- ---- numbers that rise

  pub above_all : (number other : ℕ) (item : X) (items : List (ℕ × X)) → AllByRecursion (Above number) (map number_of items) → numbered_item other items ≡ Some item → number < other
  above_all number other item [] above = λ there. absurd (cc)
  above_all number other item (first ∷ items) above = cases (above_all number other item items above.1) (nat_eq first.0 other) refl
    where
      cases : (numbered_item other items ≡ Some item → number < other) → (b : Bool) → nat_eq first.0 other ≡ b → cond b (Some first.1) (numbered_item other items) ≡ Some item → number < other
      cases rest true here there =
          let low : number < first.0 = ranked number first.0 Less (sym above.0) in
          let same : first.0 ≡ other = eqb-true first.0 other here in omega arith
      cases rest false here there = rest there

  same_numbers : (number : ℕ) (item : X) (items : List (ℕ × X)) → map number_of (with_numbered_item number item items) ≡ map number_of items
  same_numbers number item [] = refl
  same_numbers number item (first ∷ items) = cases (same_numbers number item items) (nat_eq first.0 number)
    where
      cases : map number_of (with_numbered_item number item items) ≡ map number_of items → (b : Bool) → number_of (cond b (first.0, item) first) ∷ map number_of (with_numbered_item number item items) ≡ first.0 ∷ map number_of items
      cases rest true = ap (λ l. first.0 ∷ l) rest
      cases rest false = ap (λ l. first.0 ∷ l) rest

  pub rises_with : (number : ℕ) (item : X) (items : List (ℕ × X)) → NumbersRise items → NumbersRise (with_numbered_item number item items)
  rises_with number item items rise = rw (same_numbers number item items) rise

  pub rises_before : (number : ℕ) (item : X) (items : List (ℕ × X)) → NumbersRise (with_numbered_item number item items) → NumbersRise items
  rises_before number item items rise = subst (IsStrictlySortedBy nat_cmp) (same_numbers number item items) rise

  pub rises_without : (number : ℕ) (items : List (ℕ × X)) → NumbersRise items → NumbersRise (without_numbered_item number items)
  rises_without number items rise = rises_filter nat_cmp_total number_of (λ (pair : ℕ × X). not (nat_eq pair.0 number)) items rise

  all_lower : (number : ℕ) (items : List (ℕ × X)) → All (Lower number) items → AllByRecursion (λ l. nat_cmp l number ≡ Less) (map number_of items)
  all_lower number [] newer = tt
  all_lower number (first ∷ items) newer = (less first.0 number (All-head (Lower number) first items newer), all_lower number items (All-tail (Lower number) first items newer))

  pub rises_newer : (number : ℕ) (item : X) (items : List (ℕ × X)) → NumbersRise items → All (Lower number) items → NumbersRise (items ++ (number, item) ∷ [])
  rises_newer number item items rise newer = rises_push nat_cmp_total number_of items (number, item) rise (all_lower number items newer)

  at_end : (number : ℕ) (items : List (ℕ × X)) (first : ℕ × X) (others : List (ℕ × X)) → AllByRecursion (Above number) (map number_of (items ++ first ∷ others)) → Above number first.0
  at_end number [] first others above = above.0
  at_end number (pair ∷ items) first others above = at_end number items first others above.1

  -- of a list that rises, those before an item have lower numbers
  pub lower_before : (items : List (ℕ × X)) (first : ℕ × X) (others : List (ℕ × X)) → NumbersRise (items ++ first ∷ others) → All (Lower first.0) items
  unfolding IsStrictlySortedBy
  lower_before [] first others rise = λ k d within. absurd (omega arith)
  lower_before (pair ∷ items) first others rise =
      All-cons (Lower first.0) pair items (ranked pair.0 first.0 Less (sym (at_end pair.0 items first others rise.0))) (lower_before items first others rise.1)

module _ {X Y : Type 0} (f : X → Y) where
  abbrev mapped : List (ℕ × X) → List (ℕ × Y)
  mapped items = map (λ (pair : ℕ × X). (pair.0, f pair.1)) items

  pub found_mapped : (number : ℕ) (items : List (ℕ × X)) → numbered_item number (mapped items) ≡ option_map f (numbered_item number items)
  found_mapped number [] = refl
  found_mapped number (first ∷ items) = cases (found_mapped number items) (nat_eq first.0 number)
    where
      cases : numbered_item number (mapped items) ≡ option_map f (numbered_item number items) → (b : Bool)
          → cond b (Some (f first.1)) (numbered_item number (mapped items)) ≡ option_map f (cond b (Some first.1) (numbered_item number items))
      cases rest true = refl
      cases rest false = rest

  pub lower_mapped : (number : ℕ) (items : List (ℕ × X)) → All (Lower number) (mapped items) → All (Lower number) items
  lower_mapped number [] lower = λ k d within. absurd (omega arith)
  lower_mapped number (first ∷ items) lower =
      All-cons (Lower number) first items (All-head (Lower number) (first.0, f first.1) (mapped items) lower) (lower_mapped number items (All-tail (Lower number) (first.0, f first.1) (mapped items) lower))

  pub with_mapped : (number : ℕ) (item : X) (items : List (ℕ × X)) → mapped (with_numbered_item number item items) ≡ with_numbered_item number (f item) (mapped items)
  with_mapped number item [] = refl
  with_mapped number item (first ∷ items) = cases (with_mapped number item items) (nat_eq first.0 number)
    where
      cases : mapped (with_numbered_item number item items) ≡ with_numbered_item number (f item) (mapped items) → (b : Bool)
          → mapped (cond b (first.0, item) first ∷ with_numbered_item number item items) ≡ cond b (first.0, f item) (first.0, f first.1) ∷ with_numbered_item number (f item) (mapped items)
      cases rest true = ap (λ l. (first.0, f item) ∷ l) rest
      cases rest false = ap (λ l. (first.0, f first.1) ∷ l) rest

  pub without_mapped : (number : ℕ) (items : List (ℕ × X)) → mapped (without_numbered_item number items) ≡ without_numbered_item number (mapped items)
  without_mapped number [] = refl
  without_mapped number (first ∷ items) = cases (without_mapped number items) (nat_eq first.0 number)
    where
      cases : mapped (without_numbered_item number items) ≡ without_numbered_item number (mapped items) → (b : Bool)
          → mapped (cond (not b) (first ∷ without_numbered_item number items) (without_numbered_item number items)) ≡ cond (not b) ((first.0, f first.1) ∷ without_numbered_item number (mapped items)) (without_numbered_item number (mapped items))
      cases rest true = rest
      cases rest false = ap (λ l. (first.0, f first.1) ∷ l) rest

  pub push_mapped : (number : ℕ) (item : X) (items : List (ℕ × X)) → mapped (items ++ (number, item) ∷ []) ≡ mapped items ++ (number, f item) ∷ []
  push_mapped number item [] = refl
  push_mapped number item (first ∷ items) = ap (λ l. (first.0, f first.1) ∷ l) (push_mapped number item items)

-- where nothing is found nothing is changed
pub with_none : {X : Type 0} (number : ℕ) (item : X) (items : List (ℕ × X)) → numbered_item number items ≡ None → with_numbered_item number item items ≡ items
with_none number item [] = λ none. refl
with_none {X} number item (first ∷ items) = cases (with_none number item items) (nat_eq first.0 number)
  where
    cases : (numbered_item number items ≡ None → with_numbered_item number item items ≡ items) → (b : Bool) → cond b (Some first.1) (numbered_item number items) ≡ None
        → cond b (first.0, item) first ∷ with_numbered_item number item items ≡ first ∷ items
    cases rest true none = absurd (cc)
    cases rest false none = ap (λ l. first ∷ l) (rest none)
