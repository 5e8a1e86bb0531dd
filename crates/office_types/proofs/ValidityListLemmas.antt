-- Each item of a list, each two items, sums over lists and look-ups, by recursion on the list.
use Rattle.std.proofs.Common.{◌≡◌, ◌≢◌, ℕ, suc, ◌+◌, ◌<◌, ◌≤◌, Bool, true, false, cond, ◌&&◌, true≢false, List, [], ◌∷◌, ◌++◌, length, map, refl, sym, ap, subst, ◌∙◌, arith}
use Rattle.std.specs.Prelude.{Option, None, Some, filter, find, sum_by, count_by, nat_eq, AllPairs, if◌then◌else◌, ⊤}
use Rattle.std.specs.List.{AllByRecursion, flat_map}
use Rattle.std.specs.List.Sorted.{IsStrictlyIncreasing}
use Rattle.std.specs.Option.{option_map, option_or}
use Rattle.std.proofs.lemmas.Bool.{eqb-true, eqb-false, eq-eqb, ne_eqb}
use Rattle.std.proofs.lemmas.List.Elements.{All-from_recursion, recursion_from_All}
use Rattle.std.proofs.lemmas.List.Kept.{AllPairs-cons, AllPairs-from_increasing}
use Rattle.std.proofs.lemmas.List.Sums.{sum_by-cons, sum_by-append}

-- ---- each item

pub each_map : {X Y : Type 0} (P : Y → Type 0) (f : X → Y) (xs : List X) → AllByRecursion (λ x. P (f x)) xs → AllByRecursion P (map f xs)
each_map P f [] all = tt
each_map P f (x ∷ xs) all = (all.0, each_map P f xs all.1)

pub each_of_map : {X Y : Type 0} (P : Y → Type 0) (f : X → Y) (xs : List X) → AllByRecursion P (map f xs) → AllByRecursion (λ x. P (f x)) xs
each_of_map P f [] all = tt
each_of_map P f (x ∷ xs) all = (all.0, each_of_map P f xs all.1)

pub each_mono : {X : Type 0} (P Q : X → Type 0) (xs : List X) → ((x : X) → P x → Q x) → AllByRecursion P xs → AllByRecursion Q xs
each_mono P Q [] gives all = tt
each_mono P Q (x ∷ xs) gives all = (gives x all.0, each_mono P Q xs gives all.1)

pub each_both : {X : Type 0} (P Q : X → Type 0) (xs : List X) → AllByRecursion P xs → AllByRecursion Q xs → AllByRecursion (λ x. P x × Q x) xs
each_both P Q [] p q = tt
each_both P Q (x ∷ xs) p q = ((p.0, q.0), each_both P Q xs p.1 q.1)

pub each_push : {X : Type 0} (P : X → Type 0) (xs : List X) (y : X) → AllByRecursion P xs → P y → AllByRecursion P (xs ++ y ∷ [])
each_push P [] y all is = (is, tt)
each_push P (x ∷ xs) y all is = (all.0, each_push P xs y all.1 is)

pub each_split : {X : Type 0} (P : X → Type 0) (xs ys : List X) → AllByRecursion P (xs ++ ys) → AllByRecursion P xs × AllByRecursion P ys
each_split P [] ys all = (tt, all)
each_split P (x ∷ xs) ys all = let rest = each_split P xs ys all.1 in ((all.0, rest.0), rest.1)

pub each_join : {X : Type 0} (P : X → Type 0) (xs ys : List X) → AllByRecursion P xs → AllByRecursion P ys → AllByRecursion P (xs ++ ys)
each_join P [] ys one other = other
each_join P (x ∷ xs) ys one other = (one.0, each_join P xs ys one.1 other)

-- those that pass a test, each with the fact that it passes
pub each_passing : {X : Type 0} (P Q : X → Type 0) (test : X → Bool) (xs : List X) → ((x : X) → P x → test x ≡ true → Q x) → AllByRecursion P xs → AllByRecursion Q (filter test xs)
each_passing P Q test [] gives all = tt
each_passing P Q test (x ∷ xs) gives all = by_test (each_passing P Q test xs gives all.1) (test x) refl where
  by_test : AllByRecursion Q (filter test xs) → (b : Bool) → test x ≡ b → AllByRecursion Q (cond b (x ∷ filter test xs) (filter test xs))
  by_test rest true passes = (gives x all.0 passes, rest)
  by_test rest false passes = rest

pub each_filter : {X : Type 0} (P : X → Type 0) (test : X → Bool) (xs : List X) → AllByRecursion P xs → AllByRecursion P (filter test xs)
each_filter P test xs all = each_passing P P test xs (λ x is passes. is) all

pub each_flat_map : {X Y : Type 0} (P : Y → Type 0) (f : X → List Y) (xs : List X) → AllByRecursion (λ x. AllByRecursion P (f x)) xs → AllByRecursion P (flat_map f xs)
each_flat_map P f [] all = tt
each_flat_map P f (x ∷ xs) all = each_join P (f x) (flat_map f xs) all.0 (each_flat_map P f xs all.1)

pub flat_map_each : {X Y : Type 0} (P : Y → Type 0) (f : X → List Y) (xs : List X) → AllByRecursion P (flat_map f xs) → AllByRecursion (λ x. AllByRecursion P (f x)) xs
flat_map_each P f [] all = tt
flat_map_each P f (x ∷ xs) all = let parts = each_split P (f x) (flat_map f xs) all in (parts.0, flat_map_each P f xs parts.1)

-- ---- each two items

-- each item is so related to each later one
abbrev pub EachPair : {X : Type 0} → (X → X → Type 0) → List X → Type 0
EachPair R [] = ⊤
EachPair R (x ∷ xs) = AllByRecursion (R x) xs × EachPair R xs

pub pairs_from : {X : Type 0} (R : X → X → Type 0) (xs : List X) → AllPairs R xs → EachPair R xs
pairs_from R [] all = tt
pairs_from R (x ∷ xs) all =
    (recursion_from_All (R x) xs (λ k d within. all 0 (suc k) d (omega arith) (omega arith)), pairs_from R xs (λ i j d before within. all (suc i) (suc j) d (omega arith) (omega arith)))

pub all_from_pairs : {X : Type 0} (R : X → X → Type 0) (xs : List X) → EachPair R xs → AllPairs R xs
all_from_pairs R [] pairs = λ i j d before within. absurd (omega arith)
all_from_pairs R (x ∷ xs) pairs = AllPairs-cons R x xs (All-from_recursion (R x) xs pairs.0) (all_from_pairs R xs pairs.1)

pub pairs_map : {X Y : Type 0} (R : X → X → Type 0) (S : Y → Y → Type 0) (f : X → Y) (xs : List X) → ((x y : X) → R x y → S (f x) (f y)) → EachPair R xs → EachPair S (map f xs)
pairs_map R S f [] keeps pairs = tt
pairs_map R S f (x ∷ xs) keeps pairs = (each_map (S (f x)) f xs (each_mono (R x) (λ y. S (f x) (f y)) xs (keeps x) pairs.0), pairs_map R S f xs keeps pairs.1)

pub map_pairs : {X Y : Type 0} (S : Y → Y → Type 0) (f : X → Y) (xs : List X) → EachPair S (map f xs) → EachPair (λ x y. S (f x) (f y)) xs
map_pairs S f [] pairs = tt
map_pairs S f (x ∷ xs) pairs = (each_of_map (S (f x)) f xs pairs.0, map_pairs S f xs pairs.1)

pub pairs_filter : {X : Type 0} (R : X → X → Type 0) (test : X → Bool) (xs : List X) → EachPair R xs → EachPair R (filter test xs)
pairs_filter R test [] pairs = tt
pairs_filter R test (x ∷ xs) pairs = by_test (pairs_filter R test xs pairs.1) (test x) where
  by_test : EachPair R (filter test xs) → (b : Bool) → EachPair R (cond b (x ∷ filter test xs) (filter test xs))
  by_test rest true = (each_filter (R x) test xs pairs.0, rest)
  by_test rest false = rest

pub pairs_push : {X : Type 0} (R : X → X → Type 0) (xs : List X) (y : X) → EachPair R xs → AllByRecursion (λ x. R x y) xs → EachPair R (xs ++ y ∷ [])
pairs_push R [] y pairs all = (tt, tt)
pairs_push R (x ∷ xs) y pairs all = (each_push (R x) xs y pairs.0 all.0, pairs_push R xs y pairs.1 all.1)

pub pairs_mono : {X : Type 0} (R S : X → X → Type 0) (xs : List X) → ((x y : X) → R x y → S x y) → EachPair R xs → EachPair S xs
pairs_mono R S [] gives pairs = tt
pairs_mono R S (x ∷ xs) gives pairs = (each_mono (R x) (S x) xs (gives x) pairs.0, pairs_mono R S xs gives pairs.1)

-- ---- numbers that rise

-- the numbers rise
abbrev pub Rises : {X : Type 0} → (X → ℕ) → List X → Type 0
Rises f xs = EachPair (λ x y. f x < f y) xs

pub rises_from : {X : Type 0} (f : X → ℕ) (xs : List X) → IsStrictlyIncreasing (map f xs) → Rises f xs
rises_from f xs rising = map_pairs (λ m n. m < n) f xs (pairs_from (λ m n. m < n) (map f xs) (AllPairs-from_increasing (map f xs) rising))

pub increasing_from_rises : {X : Type 0} (f : X → ℕ) (xs : List X) → Rises f xs → IsStrictlyIncreasing (map f xs)
increasing_from_rises f xs rising = λ k within.
    all_from_pairs (λ m n. m < n) (map f xs) (pairs_map (λ x y. f x < f y) (λ m n. m < n) f xs (λ x y less. less) rising) k (k + 1) 0 (omega arith) within

-- ---- sums

pub sum_map_le : {X : Type 0} (f : X → ℕ) (g : X → X) (xs : List X) → ((x : X) → f (g x) ≤ f x) → sum_by f (map g xs) ≤ sum_by f xs
sum_map_le f g [] less = omega arith
sum_map_le f g (x ∷ xs) less = omega (arith, sum_by-cons f x xs, sum_by-cons f (g x) (map g xs), sum_map_le f g xs less, less x)

pub sum_filter_le : {X : Type 0} (f : X → ℕ) (test : X → Bool) (xs : List X) → sum_by f (filter test xs) ≤ sum_by f xs
sum_filter_le f test [] = omega arith
sum_filter_le f test (x ∷ xs) = by_test (sum_filter_le f test xs) (test x) where
  by_test : sum_by f (filter test xs) ≤ sum_by f xs → (b : Bool) → sum_by f (cond b (x ∷ filter test xs) (filter test xs)) ≤ sum_by f (x ∷ xs)
  by_test rest true = omega (arith, sum_by-cons f x xs, sum_by-cons f x (filter test xs))
  by_test rest false = omega (arith, sum_by-cons f x xs)

pub sum_push : {X : Type 0} (f : X → ℕ) (xs : List X) (y : X) → sum_by f (xs ++ y ∷ []) ≡ sum_by f xs + f y
sum_push f xs y = omega (arith, sum_by-append f xs (y ∷ []), sum_by-cons f y [])

-- ---- the item with a number

module _ {X : Type 0} (number : X → ℕ) where
  -- the item with this number changed
  abbrev pub change_at : ℕ → (X → X) → X → X
  change_at n change x = if nat_eq (number x) n then change x else x

  abbrev pub look : List X → ℕ → Option X
  look xs n = find (λ x. nat_eq (number x) n) xs

  pub look_number : (xs : List X) (n : ℕ) (x : X) → look xs n ≡ Some x → number x ≡ n
  look_number [] n x found = absurd (cc)
  look_number (y ∷ xs) n x found = by_test (look_number xs n x) (nat_eq (number y) n) refl found where
    by_test : (look xs n ≡ Some x → number x ≡ n) → (b : Bool) → nat_eq (number y) n ≡ b → cond b (Some y) (look xs n) ≡ Some x → number x ≡ n
    by_test rest true is found = let e : y ≡ x = cc in subst (λ z. number z ≡ n) e (eqb-true (number y) n is)
    by_test rest false is found = rest found

  pub each_look : (P : X → Type 0) (xs : List X) → AllByRecursion P xs → (n : ℕ) (x : X) → look xs n ≡ Some x → P x
  each_look P [] all n x found = absurd (cc)
  each_look P (y ∷ xs) all n x found = by_test (each_look P xs all.1 n x) (nat_eq (number y) n) found where
    by_test : (look xs n ≡ Some x → P x) → (b : Bool) → cond b (Some y) (look xs n) ≡ Some x → P x
    by_test rest true found = let e : y ≡ x = cc in subst P e all.0
    by_test rest false found = rest found

  -- none with this number where all are greater
  pub look_none : (xs : List X) (n : ℕ) → AllByRecursion (λ x. number x ≢ n) xs → look xs n ≡ None
  look_none [] n all = refl
  look_none (x ∷ xs) n all = ap (λ (b : Bool). cond b (Some x) (look xs n)) (ne_eqb (number x) n all.0) ∙ look_none xs n all.1

  pub look_each : (P : X → Type 0) (xs : List X) → Rises number xs → ((n : ℕ) (x : X) → look xs n ≡ Some x → P x) → AllByRecursion P xs
  look_each P [] rising has = tt
  look_each P (x ∷ xs) rising has = (
    has (number x) x (ap (λ (b : Bool). cond b (Some x) (look xs (number x))) (eq-eqb (number x) (number x) refl)),
    look_each P xs rising.1 (λ n y found. has n y (
        let e : number y ≡ n = look_number xs n y found in
        let less : number x < number y = each_look (λ z. number x < number z) xs rising.0 n y found in
        ap (λ (b : Bool). cond b (Some x) (look xs n)) (ne_eqb (number x) n (omega arith)) ∙ found)),
  )

  pub look_map : (f : X → X) → ((x : X) → number (f x) ≡ number x) → (xs : List X) (n : ℕ) → look (map f xs) n ≡ option_map f (look xs n)
  look_map f same [] n = refl
  look_map f same (x ∷ xs) n = ap (λ (m : ℕ). cond (nat_eq m n) (Some (f x)) (look (map f xs) n)) (same x) ∙ by_test (look_map f same xs n) (nat_eq (number x) n) where
    by_test : look (map f xs) n ≡ option_map f (look xs n) → (b : Bool) → cond b (Some (f x)) (look (map f xs) n) ≡ option_map f (cond b (Some x) (look xs n))
    by_test rest true = refl
    by_test rest false = rest

  pub look_push : (xs : List X) (y : X) (n : ℕ) → look (xs ++ y ∷ []) n ≡ option_or (look xs n) (look (y ∷ []) n)
  look_push [] y n = refl
  look_push (x ∷ xs) y n = by_test (look_push xs y n) (nat_eq (number x) n) where
    by_test : look (xs ++ y ∷ []) n ≡ option_or (look xs n) (look (y ∷ []) n) → (b : Bool) → cond b (Some x) (look (xs ++ y ∷ []) n) ≡ option_or (cond b (Some x) (look xs n)) (look (y ∷ []) n)
    by_test rest true = refl
    by_test rest false = rest

  -- items are kept by their numbers
  pub look_filter : (keep : ℕ → Bool) (xs : List X) (n : ℕ) → look (filter (λ x. keep (number x)) xs) n ≡ (if keep n then look xs n else None)
  look_filter keep [] n = nothing (keep n) where
    nothing : (b : Bool) → ◌≡◌ {A = Option X} None (cond b None None)
    nothing true = refl
    nothing false = refl
  look_filter keep (x ∷ xs) n = by_number (filter (λ y. keep (number y)) xs) (look_filter keep xs n) (nat_eq (number x) n) refl where
    kept : (others : List X) → look others n ≡ (if keep n then look xs n else None) → keep n ≡ keep (number x) → (b : Bool) → keep (number x) ≡ b → nat_eq (number x) n ≡ true
        → look (cond b (x ∷ others) others) n ≡ (if keep n then Some x else None)
    kept others rest alike true is same =
        ap (λ (b : Bool). cond b (Some x) (look others n)) same ∙ sym (ap (λ (b : Bool). cond b (Some x) None) (alike ∙ is))
    kept others rest alike false is same =
        rest ∙ ap (λ (b : Bool). cond b (look xs n) None) (alike ∙ is) ∙ sym (ap (λ (b : Bool). cond b (Some x) None) (alike ∙ is))

    other : (others : List X) → look others n ≡ (if keep n then look xs n else None) → (b : Bool) → nat_eq (number x) n ≡ false → look (cond b (x ∷ others) others) n ≡ (if keep n then look xs n else None)
    other others rest true differs = ap (λ (b : Bool). cond b (Some x) (look others n)) differs ∙ rest
    other others rest false differs = rest

    by_number : (others : List X) → look others n ≡ (if keep n then look xs n else None) → (b : Bool) → nat_eq (number x) n ≡ b
        → look (cond (keep (number x)) (x ∷ others) others) n ≡ (if keep n then cond (nat_eq (number x) n) (Some x) (look xs n) else None)
    by_number others rest true is =
        kept others rest (ap keep (sym (eqb-true (number x) n is))) (keep (number x)) refl is ∙ ap (λ (b : Bool). if keep n then cond b (Some x) (look xs n) else None) (sym is)
    by_number others rest false is = other others rest (keep (number x)) is ∙ ap (λ (b : Bool). if keep n then cond b (Some x) (look xs n) else None) (sym is)

  -- a change at a number leaves items without it
  pub at_none : (n : ℕ) (change : X → X) (xs : List X) → AllByRecursion (λ x. number x ≢ n) xs → map (change_at n change) xs ≡ xs
  at_none n change [] all = refl
  at_none n change (x ∷ xs) all =
      ap (λ (b : Bool). (if b then change x else x) ∷ map (change_at n change) xs) (ne_eqb (number x) n all.0) ∙ ap (λ (ys : List X). x ∷ ys) (at_none n change xs all.1)

  -- a change of one item adds to a sum at most what it adds there
  pub sum_at_le : (f : X → ℕ) (more : ℕ) (n : ℕ) (change : X → X) (xs : List X) → Rises number xs → ((x : X) → f (change x) ≤ f x + more) → sum_by f (map (change_at n change) xs) ≤ sum_by f xs + more
  sum_at_le f more n change [] rising adds = omega arith
  sum_at_le f more n change (x ∷ xs) rising adds = by_number (sum_at_le f more n change xs rising.1 adds) (nat_eq (number x) n) refl where
    by_number : sum_by f (map (change_at n change) xs) ≤ sum_by f xs + more → (b : Bool) → nat_eq (number x) n ≡ b → sum_by f ((if b then change x else x) ∷ map (change_at n change) xs) ≤ sum_by f (x ∷ xs) + more
    by_number rest true is =
        let same : number x ≡ n = eqb-true (number x) n is in
        let others : map (change_at n change) xs ≡ xs = at_none n change xs (each_mono (λ y. number x < number y) (λ y. number y ≢ n) xs (λ y less e. omega arith) rising.0) in
        omega (arith, sum_by-cons f x xs, sum_by-cons f (change x) (map (change_at n change) xs), ap (sum_by f) others, adds x)
    by_number rest false is = omega (arith, sum_by-cons f x xs, sum_by-cons f x (map (change_at n change) xs))

  pub at_number : (n : ℕ) (change : X → X) → ((x : X) → number (change x) ≡ number x) → (x : X) → number (change_at n change x) ≡ number x
  at_number n change same x = by_test (nat_eq (number x) n) where
    by_test : (b : Bool) → number (if b then change x else x) ≡ number x
    by_test true = same x
    by_test false = refl

  pub rises_at : (n : ℕ) (change : X → X) (xs : List X) → ((x : X) → number (change x) ≡ number x) → Rises number xs → Rises number (map (change_at n change) xs)
  rises_at n change xs same rising = pairs_map (λ x y. number x < number y) (λ x y. number x < number y) (change_at n change) xs (λ x y less. omega (arith, at_number n change same x, at_number n change same y)) rising

  -- a fact of each item, where the item with the number changed
  pub each_at : (P Q : X → Type 0) (n : ℕ) (change : X → X) (xs : List X) → Rises number xs → AllByRecursion P xs → ((x : X) → number x ≢ n → P x → Q x)
      → ((x : X) → look xs n ≡ Some x → P x → Q (change x)) → AllByRecursion Q (map (change_at n change) xs)
  each_at P Q n change [] rising all others changed = tt
  each_at P Q n change (x ∷ xs) rising all others changed = (
    by_number (nat_eq (number x) n) refl,
    each_at P Q n change xs rising.1 all.1 others (λ y found is.
        let same : number y ≡ n = look_number xs n y found in
        let less : number x < number y = each_look (λ z. number x < number z) xs rising.0 n y found in
        changed y (ap (λ (b : Bool). cond b (Some x) (look xs n)) (ne_eqb (number x) n (omega arith)) ∙ found) is),
  ) where
    by_number : (b : Bool) → nat_eq (number x) n ≡ b → Q (if b then change x else x)
    by_number true is = changed x (ap (λ (b : Bool). cond b (Some x) (look xs n)) is) all.0
    by_number false is = others x (λ e. eqb-false (number x) n is e) all.0

  -- what a change keeps of the item with the number it keeps of each
  pub at_same : {Y : Type 0} (g : X → Y) (n : ℕ) (change : X → X) → ((x : X) → g (change x) ≡ g x) → (x : X) → g (change_at n change x) ≡ g x
  at_same g n change same x = by_test (nat_eq (number x) n) where
    by_test : (b : Bool) → g (if b then change x else x) ≡ g x
    by_test true = same x
    by_test false = refl

-- ---- counts

-- those that a test leaves out aren't counted
pub count_passing : {X : Type 0} (counted test : X → Bool) (xs : List X) → AllByRecursion (λ x. test x ≡ false → counted x ≡ false) xs → count_by counted (filter test xs) ≡ count_by counted xs
count_passing counted test [] all = refl
count_passing {X} counted test (x ∷ xs) all = by_test (count_passing counted test xs all.1) (test x) refl where
  by_test : count_by counted (filter test xs) ≡ count_by counted xs → (b : Bool) → test x ≡ b → count_by counted (cond b (x ∷ filter test xs) (filter test xs)) ≡ count_by counted (x ∷ xs)
  by_test rest true is = omega (arith, sum_by-cons (λ (y : X). cond (counted y) 1 0) x xs, sum_by-cons (λ (y : X). cond (counted y) 1 0) x (filter test xs))
  by_test rest false is = omega (arith, sum_by-cons (λ (y : X). cond (counted y) 1 0) x xs, ap {B = ℕ} (λ (b : Bool). cond b 1 0) (all.0 is))

pub count_none : {X : Type 0} (counted : X → Bool) (xs : List X) → AllByRecursion (λ x. counted x ≡ false) xs → count_by counted xs ≡ 0
count_none counted [] all = refl
count_none {X} counted (x ∷ xs) all = omega (arith, sum_by-cons (λ (y : X). cond (counted y) 1 0) x xs, ap {B = ℕ} (λ (b : Bool). cond b 1 0) all.0, count_none counted xs all.1)

pub none_counted : {X : Type 0} (counted : X → Bool) (xs : List X) → count_by counted xs ≡ 0 → AllByRecursion (λ x. counted x ≡ false) xs
none_counted counted [] none = tt
none_counted {X} counted (x ∷ xs) none =
    let whole : count_by counted (x ∷ xs) ≡ cond (counted x) 1 0 + count_by counted xs = sum_by-cons (λ (y : X). cond (counted y) 1 0) x xs in
    (by_test (counted x) refl whole, none_counted counted xs (omega arith)) where
      by_test : (b : Bool) → counted x ≡ b → count_by counted (x ∷ xs) ≡ cond b 1 0 + count_by counted xs → counted x ≡ false
      by_test true is whole = absurd (omega arith)
      by_test false is whole = is

pub sum_zero : {X : Type 0} (f : X → ℕ) (xs : List X) → AllByRecursion (λ x. f x ≡ 0) xs → sum_by f xs ≡ 0
sum_zero f [] all = refl
sum_zero f (x ∷ xs) all = omega (arith, sum_by-cons f x xs, all.0, sum_zero f xs all.1)

-- how many pass a test after each was changed, where none passes that didn't before
pub passing_map_le : {X : Type 0} (test : X → Bool) (f : X → X) (xs : List X) → ((x : X) → test (f x) ≡ true → test x ≡ true) → length (filter test (map f xs)) ≤ length (filter test xs)
passing_map_le test f [] before = omega arith
passing_map_le test f (x ∷ xs) before = by_tests (passing_map_le test f xs before) (test (f x)) refl (test x) refl where
  by_tests : length (filter test (map f xs)) ≤ length (filter test xs) → (b : Bool) → test (f x) ≡ b → (c : Bool) → test x ≡ c
      → length (cond b (f x ∷ filter test (map f xs)) (filter test (map f xs))) ≤ length (cond c (x ∷ filter test xs) (filter test xs))
  by_tests rest true is true was = omega arith
  by_tests rest true is false was = absurd (true≢false (sym (before x is) ∙ was))
  by_tests rest false is true was = omega arith
  by_tests rest false is false was = rest

pub passing_filter_le : {X : Type 0} (test keep : X → Bool) (xs : List X) → length (filter test (filter keep xs)) ≤ length (filter test xs)
passing_filter_le test keep [] = omega arith
passing_filter_le test keep (x ∷ xs) = by_test (passing_filter_le test keep xs) (keep x) where
  by_both : length (filter test (filter keep xs)) ≤ length (filter test xs) → (c : Bool) → length (cond c (x ∷ filter test (filter keep xs)) (filter test (filter keep xs))) ≤ length (cond c (x ∷ filter test xs) (filter test xs))
  by_both rest true = omega arith
  by_both rest false = rest

  by_left : length (filter test (filter keep xs)) ≤ length (filter test xs) → (c : Bool) → length (filter test (filter keep xs)) ≤ length (cond c (x ∷ filter test xs) (filter test xs))
  by_left rest true = omega arith
  by_left rest false = rest

  by_test : length (filter test (filter keep xs)) ≤ length (filter test xs) → (b : Bool) → length (filter test (cond b (x ∷ filter keep xs) (filter keep xs))) ≤ length (filter test (x ∷ xs))
  by_test rest true = by_both rest (test x)
  by_test rest false = by_left rest (test x)

pub passing_push_le : {X : Type 0} (test : X → Bool) (xs : List X) (y : X) → length (filter test (xs ++ y ∷ [])) ≤ length (filter test xs) + 1
passing_push_le test [] y = by_test (test y) where
  by_test : (b : Bool) → length (cond b (y ∷ []) []) ≤ 0 + 1
  by_test true = omega arith
  by_test false = omega arith
passing_push_le test (x ∷ xs) y = by_test (passing_push_le test xs y) (test x) where
  by_test : length (filter test (xs ++ y ∷ [])) ≤ length (filter test xs) + 1 → (b : Bool) → length (cond b (x ∷ filter test (xs ++ y ∷ [])) (filter test (xs ++ y ∷ []))) ≤ length (cond b (x ∷ filter test xs) (filter test xs)) + 1
  by_test rest true = omega arith
  by_test rest false = rest

-- one test after another is both
pub filter_filter : {X : Type 0} (p q : X → Bool) (xs : List X) → filter p (filter q xs) ≡ filter (λ x. q x && p x) xs
filter_filter p q [] = refl
filter_filter p q (x ∷ xs) = by_tests (filter_filter p q xs) (q x) where
  by_tests : filter p (filter q xs) ≡ filter (λ y. q y && p y) xs → (b : Bool) → filter p (cond b (x ∷ filter q xs) (filter q xs)) ≡ cond (b && p x) (x ∷ filter (λ y. q y && p y) xs) (filter (λ y. q y && p y) xs)
  by_tests rest true = ap (λ others. cond (p x) (x ∷ others) others) rest
  by_tests rest false = rest

pub filter_same : {X : Type 0} (p q : X → Bool) (xs : List X) → ((x : X) → p x ≡ q x) → filter p xs ≡ filter q xs
filter_same p q [] same = refl
filter_same p q (x ∷ xs) same = ap (λ (b : Bool). cond b (x ∷ filter p xs) (filter p xs)) (same x) ∙ ap (λ others. cond (q x) (x ∷ others) others) (filter_same p q xs same)

pub filter_all : {X : Type 0} (p : X → Bool) (xs : List X) → AllByRecursion (λ x. p x ≡ true) xs → filter p xs ≡ xs
filter_all p [] all = refl
filter_all p (x ∷ xs) all = ap (λ (b : Bool). cond b (x ∷ filter p xs) (filter p xs)) all.0 ∙ ap (λ others. x ∷ others) (filter_all p xs all.1)

pub filter_none : {X : Type 0} (p : X → Bool) (xs : List X) → AllByRecursion (λ x. p x ≡ false) xs → filter p xs ≡ []
filter_none p [] all = refl
filter_none p (x ∷ xs) all = ap (λ (b : Bool). cond b (x ∷ filter p xs) (filter p xs)) all.0 ∙ filter_none p xs all.1

pub filter_joined : {X : Type 0} (p : X → Bool) (xs ys : List X) → filter p (xs ++ ys) ≡ filter p xs ++ filter p ys
filter_joined p [] ys = refl
filter_joined p (x ∷ xs) ys = by_test (filter_joined p xs ys) (p x) where
  by_test : filter p (xs ++ ys) ≡ filter p xs ++ filter p ys → (b : Bool) → cond b (x ∷ filter p (xs ++ ys)) (filter p (xs ++ ys)) ≡ cond b (x ∷ filter p xs) (filter p xs) ++ filter p ys
  by_test rest true = ap (λ others. x ∷ others) rest
  by_test rest false = rest

pub length_filter_le : {X : Type 0} (p : X → Bool) (xs : List X) → length (filter p xs) ≤ length xs
length_filter_le p [] = omega arith
length_filter_le p (x ∷ xs) = by_test (length_filter_le p xs) (p x) where
  by_test : length (filter p xs) ≤ length xs → (b : Bool) → length (cond b (x ∷ filter p xs) (filter p xs)) ≤ length (x ∷ xs)
  by_test rest true = omega arith
  by_test rest false = omega arith
