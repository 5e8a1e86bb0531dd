-- What the definitions of a step give is one.
use Rattle.std.proofs.Common.{◌≡◌, ◌<◌, ℕ, zero, suc, Bool, true, false, List, [], ◌∷◌, length, get_or, map, Ok, Err, refl, sym, ap, subst, arith, inl, inr, ◌∙◌}
use Rattle.std.specs.Prelude.{Result, MatchBool}
use Rattle.std.specs.List.{AllPairs, AllZip, Contains, items_where_true}
use Rattle.std.specs.List.Sorted.{IsStrictlyIncreasing}
use Rattle.std.proofs.lemmas.Bool.{cases_eq, cases_lt}
use Rattle.std.proofs.lemmas.List.{get_or-map, length-map}
use Rattle.std.proofs.lemmas.List.Kept.{AllPairs-from_increasing}
use Rattle.step_sets.specs.Preemption.{IsPreempted, KeepsUnpreempted}
use Rattle.step_sets.specs.Sets.{IsSetOf}
use Rattle.step_sets.proofs.ListLemmas.{Contains-cons_cases, Contains-here, Contains-there}
use Rattle.xs_model.specs.declared.env.EvalFault.{EvalFault}
use Rattle.microstep.specs.Selection.{ArePicks, IsLeftBy, IsSelection, Looking, Place, Selects, fault, own_transition, taken}

-- ---- lists that rise by a key

-- lists that rise by a key and have the same members are one
pub list-unique : {X : Type 0} (key : X → ℕ) (xs ys : List X) → AllPairs (λ (x y : X). key x < key y) xs → AllPairs (λ (x y : X). key x < key y) ys → ((x : X) → Contains xs x → Contains ys x)
    → ((x : X) → Contains ys x → Contains xs x) → xs ≡ ys
list-unique key [] [] rise-x rise-y to back = refl
list-unique key [] (y ∷ ys) rise-x rise-y to back = let (k, inside, is) = back y (Contains-here y ys) in absurd (omega (arith, inside))
list-unique key (x ∷ xs) [] rise-x rise-y to back = let (k, inside, is) = to x (Contains-here x xs) in absurd (omega (arith, inside))
list-unique {X} key (x ∷ xs) (y ∷ ys) rise-x rise-y to back =
    let rest : xs ≡ ys = list-unique key xs ys (tails x xs rise-x) (tails y ys rise-y) forth again in
    cc (heads, rest)
  where
    tails : (z : X) (zs : List X) → AllPairs (λ (a b : X). key a < key b) (z ∷ zs) → AllPairs (λ (a b : X). key a < key b) zs
    tails z zs rise = λ i j d less inside. rise (suc i) (suc j) d (omega (arith, less)) (omega (arith, inside))

    later : (z w : X) (zs : List X) → AllPairs (λ (a b : X). key a < key b) (z ∷ zs) → Contains zs w → key z < key w
    later z w zs rise (k, inside, is) =
        let less = rise 0 (suc k) w (omega arith) (omega (arith, inside)) in
        let P : X → Type 0 = λ v. key z < key v in
        subst P is less

    heads : x ≡ y
    heads = elim (Contains-cons_cases x y ys (to x (Contains-here x xs))) [
      | inl same ↦ sym same
      | inr in-y ↦ elim (Contains-cons_cases y x xs (back y (Contains-here y ys))) [
        | inl same ↦ same
        | inr in-x ↦ (let one = later y x ys rise-y in-y in let two = later x y xs rise-x in-x in absurd (omega (arith, one, two)))
      ]
    ]

    -- a member of one rest is none of the head
    beyond : (z w v : X) (zs : List X) → AllPairs (λ (a b : X). key a < key b) (z ∷ zs) → Contains zs w → z ≡ v → v ≡ w → ⊥
    beyond z w v zs rise has same is =
        let less = later z w zs rise has in
        let P : X → Type 0 = λ u. key z < key u in
        let self : key z < key z = subst P (sym (same ∙ is)) less in
        omega (arith, self)

    forth : (w : X) → Contains xs w → Contains ys w
    forth w has = elim (Contains-cons_cases w y ys (to w (Contains-there w x xs has))) [
      | inl same ↦ absurd (beyond x w y xs rise-x has heads same)
      | inr in-y ↦ in-y
    ]

    again : (w : X) → Contains ys w → Contains xs w
    again w has = elim (Contains-cons_cases w x xs (back w (Contains-there w y ys has))) [
      | inl same ↦ absurd (beyond y w x ys rise-y has (sym heads) same)
      | inr in-x ↦ in-x
    ]

-- what is so of the same nodes is one list
pub set-unique : {F G : ℕ → Type 0} (xs ys : List ℕ) → IsSetOf F xs → IsSetOf G ys → ((n : ℕ) → F n → G n) → ((n : ℕ) → G n → F n) → xs ≡ ys
set-unique xs ys set-x set-y to back =
    list-unique (λ n. n) xs ys (AllPairs-from_increasing xs set-x.in_order) (AllPairs-from_increasing ys set-y.in_order) (λ n has. (set-y.exact n).1 (to n ((set-x.exact n).0 has)))
    (λ n has. (set-x.exact n).1 (back n ((set-y.exact n).0 has)))

-- a list rises by the numbers of its items
pub rises-by : {X : Type 0} (key : X → ℕ) (xs : List X) → IsStrictlyIncreasing (map key xs) → AllPairs (λ (x y : X). key x < key y) xs
rises-by key xs rising = λ i j d less inside.
    let pairs = AllPairs-from_increasing (map key xs) rising i j 0 less (omega (arith, length-map xs key, inside)) in
    rw (get_or-map key xs i d 0 (omega (arith, less, inside)), get_or-map key xs j d 0 inside) at pairs

-- what is told item by item is one list
pub zip-unique : {X Y : Type 0} (R : X → Y → Type 0) → ((x : X) (a b : Y) → R x a → R x b → a ≡ b) → (xs : List X) (us vs : List Y) → AllZip R xs us → AllZip R xs vs → us ≡ vs
zip-unique R one [] [] [] all-a all-b = refl
zip-unique R one [] [] (v ∷ vs) all-a all-b = absurd all-b
zip-unique R one [] (u ∷ us) vs all-a all-b = absurd all-a
zip-unique R one (x ∷ xs) [] vs all-a all-b = absurd all-a
zip-unique R one (x ∷ xs) (u ∷ us) [] all-a all-b = absurd all-b
zip-unique R one (x ∷ xs) (u ∷ us) (v ∷ vs) all-a all-b =
    let head : u ≡ v = one x u v all-a.0 all-b.0 in
    let rest : us ≡ vs = zip-unique R one xs us vs all-a.1 all-b.1 in
    cc (head, rest)

-- ---- preemption

same-flags : (xs ys : List Bool) → length xs ≡ length ys → ((i : ℕ) → i < length xs → get_or xs i false ≡ get_or ys i false) → xs ≡ ys
same-flags [] [] long each = refl
same-flags [] (y ∷ ys) long each = absurd (omega (arith, long))
same-flags (x ∷ xs) [] long each = absurd (omega (arith, long))
same-flags (x ∷ xs) (y ∷ ys) long each =
    let head : x ≡ y = each 0 (omega arith) in
    let rest : xs ≡ ys = same-flags xs ys (omega (arith, long)) (λ i inside. each (suc i) (omega (arith, inside))) in
    cc (head, rest)

module _ (exits : List (List ℕ)) (a b : List Bool) (keeps-a : KeepsUnpreempted exits a) (keeps-b : KeepsUnpreempted exits b) where
  preempted-too : (x y : List Bool) (i : ℕ) → ((j : ℕ) → j < i → get_or x j false ≡ get_or y j false) → IsPreempted exits x i → IsPreempted exits y i
  preempted-too x y i before (j, less, stays, meets) = (j, less, sym (before j less) ∙ stays, meets)

  flag-unique : (i : ℕ) → ((j : ℕ) → j < i → get_or a j false ≡ get_or b j false) → (p q : Bool)
      → MatchBool p (¬ IsPreempted exits a i) (IsPreempted exits a i) → MatchBool q (¬ IsPreempted exits b i) (IsPreempted exits b i) → p ≡ q
  flag-unique i before true true out-a out-b = refl
  flag-unique i before true false out-a in-b = absurd (out-a (preempted-too b a i (λ j less. sym (before j less)) in-b))
  flag-unique i before false true in-a out-b = absurd (out-b (preempted-too a b i before in-a))
  flag-unique i before false false in-a in-b = refl

  flags-upto : (n i : ℕ) → i < n → i < length exits → get_or a i false ≡ get_or b i false
  flags-upto zero i less inside = absurd (omega (arith, less))
  flags-upto (suc n) i less inside =
      flag-unique i (λ j before. flags-upto n j (omega (arith, less, before)) (omega (arith, before, inside))) (get_or a i false) (get_or b i false) (keeps-a.cases i inside) (keeps-b.cases i inside)

  pub flags-unique : a ≡ b
  flags-unique = same-flags a b (keeps-a.each ∙ sym keeps-b.each) (λ i inside. flags-upto (suc i) i (omega arith) (omega (arith, keeps-a.each, inside)))

-- ---- selection

module _ (looking : Looking) where
  picks-unique : (a b : List Place) → ArePicks looking a → ArePicks looking b → a ≡ b
  picks-unique a b picks-a picks-b =
      list-unique (λ (place : Place). place.0) a b (rises-by (λ (place : Place). place.0) a picks-a.in_order) (rises-by (λ (place : Place). place.0) b picks-b.in_order)
      (λ place has. (picks-b.each place).1 ((picks-a.each place).0 has)) (λ place has. (picks-a.each place).1 ((picks-b.each place).0 has))

  selection-unique : (a b : List Place) → IsSelection looking a → IsSelection looking b → a ≡ b
  selection-unique a b is-a is-b =
      let Exits : List Place → Type 0 = λ picked. AllZip (λ (place : Place). IsSetOf (IsLeftBy looking place)) picked is-b.exits in
      let Keeps : List (List ℕ) → Type 0 = λ exits. KeepsUnpreempted exits is-b.flags in
      let picked : is-a.picked ≡ is-b.picked = picks-unique is-a.picked is-b.picked is-a.picks is-b.picks in
      let exits : is-a.exits ≡ is-b.exits =
      zip-unique (λ (place : Place). IsSetOf (IsLeftBy looking place)) (λ place xs ys set-x set-y. set-unique xs ys set-x set-y (λ n left. left) (λ n left. left)) is-a.picked is-a.exits is-b.exits is-a.exit_sets
      (subst Exits (sym picked) is-b.exit_sets) in
      let flags : is-a.flags ≡ is-b.flags = flags-unique is-a.exits is-a.flags is-b.flags is-a.stays (subst Keeps (sym exits) is-b.stays) in
      is-a.taken_are ∙ ap (λ (f : List Bool). items_where_true f is-a.picked) flags ∙ ap (λ (p : List Place). items_where_true is-b.flags p) picked ∙ sym is-b.taken_are

  pub selects-unique : (a b : Result (List Place) EvalFault) → Selects looking a → Selects looking b → a ≡ b
  selects-unique a b (fault {fault = f} {n = n} at last) (fault {fault = g} {n = m} at-too last-too) = elim (cases_lt n m) [
    | inl less ↦ absurd (last m g less at-too)
    | inr from ↦ elim (cases_eq n m) [
      | inl same ↦
          (let P : ℕ → Type 0 = λ k. own_transition looking k ≡ Err g in
          let here : own_transition looking n ≡ Err f = at.1 in
          let there : own_transition looking n ≡ Err g = subst P (sym same) at-too.1 in
          let one : f ≡ g = cc (here, there) in
          ap Err one)
      | inr apart ↦ absurd (last-too n f (omega (arith, from, apart)) at)
    ]
  ]
  selects-unique a b (fault {fault = f} {n = n} at last) (taken none is) = absurd (none n f at)
  selects-unique a b (taken none is) (fault {fault = f} {n = n} at last) = absurd (none n f at)
  selects-unique a b (taken {taken = x} none is) (taken {taken = y} none-too is-too) = ap Ok (selection-unique x y is is-too)
