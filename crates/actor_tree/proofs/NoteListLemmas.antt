-- Items that are found by their numbers, where lists were changed, joined or filtered, and sums over them.
use Rattle.std.proofs.Common.{◌≡◌, ◌≢◌, ℕ, suc, zero, add-one, take, drop, get_or, ◌+◌, ◌<◌, ◌≤◌, Bool, true, false, cond, ◌&&◌, ◌||◌, not, true≢false, List, [], ◌∷◌, ◌++◌, length, map, refl, sym, ap, subst, ◌∙◌, arith}
use Rattle.std.specs.Prelude.{Option, None, Some, filter, find, fold, sum_by, nat_eq, if◌then◌else◌, ⊤}
use Rattle.std.specs.List.{AllByRecursion, list_any}
use Rattle.std.specs.Option.{option_map, option_map_or, option_or}
use Rattle.std.proofs.lemmas.Bool.{eqb-true, eqb-false, eq-eqb, ne_eqb}
use Rattle.std.proofs.lemmas.List.{take_more}
use Rattle.std.proofs.lemmas.List.Sums.{sum_by-cons}

-- ---- each item

pub each_mono : {X : Type 0} (P Q : X → Type 0) (xs : List X) → ((x : X) → P x → Q x) → AllByRecursion P xs → AllByRecursion Q xs
each_mono P Q [] gives all = tt
each_mono P Q (x ∷ xs) gives all = (gives x all.0, each_mono P Q xs gives all.1)

pub each_map : {X Y : Type 0} (P : Y → Type 0) (f : X → Y) (xs : List X) → AllByRecursion (λ x. P (f x)) xs → AllByRecursion P (map f xs)
each_map P f [] all = tt
each_map P f (x ∷ xs) all = (all.0, each_map P f xs all.1)

pub each_of_map : {X Y : Type 0} (P : Y → Type 0) (f : X → Y) (xs : List X) → AllByRecursion P (map f xs) → AllByRecursion (λ x. P (f x)) xs
each_of_map P f [] all = tt
each_of_map P f (x ∷ xs) all = (all.0, each_of_map P f xs all.1)

pub each_push : {X : Type 0} (P : X → Type 0) (xs : List X) (y : X) → AllByRecursion P xs → P y → AllByRecursion P (xs ++ y ∷ [])
each_push P [] y all is = (is, tt)
each_push P (x ∷ xs) y all is = (all.0, each_push P xs y all.1 is)

pub each_join : {X : Type 0} (P : X → Type 0) (xs ys : List X) → AllByRecursion P xs → AllByRecursion P ys → AllByRecursion P (xs ++ ys)
each_join P [] ys one other = other
each_join P (x ∷ xs) ys one other = (one.0, each_join P xs ys one.1 other)

pub each_filter : {X : Type 0} (P : X → Type 0) (test : X → Bool) (xs : List X) → AllByRecursion P xs → AllByRecursion P (filter test xs)
each_filter P test [] all = tt
each_filter P test (x ∷ xs) all = by_test (each_filter P test xs all.1) (test x) where
  by_test : AllByRecursion P (filter test xs) → (b : Bool) → AllByRecursion P (cond b (x ∷ filter test xs) (filter test xs))
  by_test rest true = (all.0, rest)
  by_test rest false = rest

-- ---- filters

pub filter_filter : {X : Type 0} (p q : X → Bool) (xs : List X) → filter p (filter q xs) ≡ filter (λ x. q x && p x) xs
filter_filter p q [] = refl
filter_filter p q (x ∷ xs) = by_tests (filter_filter p q xs) (q x) where
  by_tests : filter p (filter q xs) ≡ filter (λ y. q y && p y) xs → (b : Bool) → filter p (cond b (x ∷ filter q xs) (filter q xs)) ≡ cond (b && p x) (x ∷ filter (λ y. q y && p y) xs) (filter (λ y. q y && p y) xs)
  by_tests rest true = ap (λ others. cond (p x) (x ∷ others) others) rest
  by_tests rest false = rest

pub filter_same : {X : Type 0} (p q : X → Bool) (xs : List X) → ((x : X) → p x ≡ q x) → filter p xs ≡ filter q xs
filter_same p q [] same = refl
filter_same p q (x ∷ xs) same = ap (λ (b : Bool). cond b (x ∷ filter p xs) (filter p xs)) (same x) ∙ ap (λ others. cond (q x) (x ∷ others) others) (filter_same p q xs same)

pub filter_all : {X : Type 0} (p : X → Bool) (xs : List X) → AllByRecursion (λ x. p x ≡ true) xs → filter p xs ≡ xs
filter_all p [] all = refl
filter_all p (x ∷ xs) all = ap (λ (b : Bool). cond b (x ∷ filter p xs) (filter p xs)) all.0 ∙ ap (λ others. x ∷ others) (filter_all p xs all.1)

pub filter_none : {X : Type 0} (p : X → Bool) (xs : List X) → AllByRecursion (λ x. p x ≡ false) xs → filter p xs ≡ []
filter_none p [] all = refl
filter_none p (x ∷ xs) all = ap (λ (b : Bool). cond b (x ∷ filter p xs) (filter p xs)) all.0 ∙ filter_none p xs all.1

pub filter_joined : {X : Type 0} (p : X → Bool) (xs ys : List X) → filter p (xs ++ ys) ≡ filter p xs ++ filter p ys
filter_joined p [] ys = refl
filter_joined p (x ∷ xs) ys = by_test (filter_joined p xs ys) (p x) where
  by_test : filter p (xs ++ ys) ≡ filter p xs ++ filter p ys → (b : Bool) → cond b (x ∷ filter p (xs ++ ys)) (filter p (xs ++ ys)) ≡ cond b (x ∷ filter p xs) (filter p xs) ++ filter p ys
  by_test rest true = ap (λ others. x ∷ others) rest
  by_test rest false = rest

pub filter_map_after : {X Y : Type 0} (f : X → Y) (p : Y → Bool) (xs : List X) → filter p (map f xs) ≡ map f (filter (λ x. p (f x)) xs)
filter_map_after f p [] = refl
filter_map_after f p (x ∷ xs) = by_test (filter_map_after f p xs) (p (f x)) where
  by_test : filter p (map f xs) ≡ map f (filter (λ y. p (f y)) xs) → (b : Bool) → cond b (f x ∷ filter p (map f xs)) (filter p (map f xs)) ≡ map f (cond b (x ∷ filter (λ y. p (f y)) xs) (filter (λ y. p (f y)) xs))
  by_test rest true = ap (λ others. f x ∷ others) rest
  by_test rest false = rest

-- those that a second filter leaves out were left out, or stay beside it
pub length_split : {X : Type 0} (p : X → Bool) (xs : List X) → length (filter (λ x. not (p x)) xs) + length (filter p xs) ≡ length xs
length_split p [] = refl
length_split p (x ∷ xs) = by_test (length_split p xs) (p x) where
  by_test : length (filter (λ y. not (p y)) xs) + length (filter p xs) ≡ length xs → (b : Bool)
      → length (cond (not b) (x ∷ filter (λ y. not (p y)) xs) (filter (λ y. not (p y)) xs)) + length (cond b (x ∷ filter p xs) (filter p xs)) ≡ length (x ∷ xs)
  by_test rest true = omega (arith, rest)
  by_test rest false = omega (arith, rest)

pub any_count : {X : Type 0} (p : X → Bool) (xs : List X) → list_any p xs ≡ false → length (filter p xs) ≡ 0
any_count p [] none = refl
any_count p (x ∷ xs) none = by_test (any_count p xs) (p x) none where
  by_test : (list_any p xs ≡ false → length (filter p xs) ≡ 0) → (b : Bool) → (b || list_any p xs) ≡ false → length (cond b (x ∷ filter p xs) (filter p xs)) ≡ 0
  by_test rest true none = absurd (true≢false none)
  by_test rest false none = rest none

-- ---- the item with a number

module _ {X : Type 0} (number : X → ℕ) where
  abbrev pub look : List X → ℕ → Option X
  look xs n = find (λ x. nat_eq (number x) n) xs

  -- each number is above those before it
  abbrev pub Rises : List X → Type 0
  Rises [] = ⊤
  Rises (x ∷ xs) = AllByRecursion (λ y. number x < number y) xs × Rises xs

  pub rises_push : (xs : List X) (y : X) → Rises xs → AllByRecursion (λ x. number x < number y) xs → Rises (xs ++ y ∷ [])
  rises_push [] y rising all = (tt, tt)
  rises_push (x ∷ xs) y rising all = (each_push (λ z. number x < number z) xs y rising.0 all.0, rises_push xs y rising.1 all.1)

  pub rises_filter : (p : X → Bool) (xs : List X) → Rises xs → Rises (filter p xs)
  rises_filter p [] rising = tt
  rises_filter p (x ∷ xs) rising = by_test (rises_filter p xs rising.1) (p x) where
    by_test : Rises (filter p xs) → (b : Bool) → Rises (cond b (x ∷ filter p xs) (filter p xs))
    by_test rest true = (each_filter (λ y. number x < number y) p xs rising.0, rest)
    by_test rest false = rest

  pub look_number : (xs : List X) (n : ℕ) (x : X) → look xs n ≡ Some x → number x ≡ n
  look_number [] n x found = absurd (cc)
  look_number (y ∷ xs) n x found = by_test (look_number xs n x) (nat_eq (number y) n) refl found where
    by_test : (look xs n ≡ Some x → number x ≡ n) → (b : Bool) → nat_eq (number y) n ≡ b → cond b (Some y) (look xs n) ≡ Some x → number x ≡ n
    by_test rest true is found = let e : y ≡ x = cc in subst (λ z. number z ≡ n) e (eqb-true (number y) n is)
    by_test rest false is found = rest found

  pub each_look : (P : X → Type 0) (xs : List X) → AllByRecursion P xs → (n : ℕ) (x : X) → look xs n ≡ Some x → P x
  each_look P [] all n x found = absurd (cc)
  each_look P (y ∷ xs) all n x found = by_test (each_look P xs all.1 n x) (nat_eq (number y) n) found where
    by_test : (look xs n ≡ Some x → P x) → (b : Bool) → cond b (Some y) (look xs n) ≡ Some x → P x
    by_test rest true found = let e : y ≡ x = cc in subst P e all.0
    by_test rest false found = rest found

  pub look_none : (xs : List X) (n : ℕ) → AllByRecursion (λ x. number x ≢ n) xs → look xs n ≡ None
  look_none [] n all = refl
  look_none (x ∷ xs) n all = ap (λ (b : Bool). cond b (Some x) (look xs n)) (ne_eqb (number x) n all.0) ∙ look_none xs n all.1

  pub look_each : (P : X → Type 0) (xs : List X) → Rises xs → ((n : ℕ) (x : X) → look xs n ≡ Some x → P x) → AllByRecursion P xs
  look_each P [] rising has = tt
  look_each P (x ∷ xs) rising has = (
    has (number x) x (ap (λ (b : Bool). cond b (Some x) (look xs (number x))) (eq-eqb (number x) (number x) refl)),
    look_each P xs rising.1 (λ n y found. has n y (
        let e : number y ≡ n = look_number xs n y found in
        let less : number x < number y = each_look (λ z. number x < number z) xs rising.0 n y found in
        ap (λ (b : Bool). cond b (Some x) (look xs n)) (ne_eqb (number x) n (omega arith)) ∙ found)),
  )

  pub look_join : (xs ys : List X) (n : ℕ) → look (xs ++ ys) n ≡ option_or (look xs n) (look ys n)
  look_join [] ys n = refl
  look_join (x ∷ xs) ys n = by_test (look_join xs ys n) (nat_eq (number x) n) where
    by_test : look (xs ++ ys) n ≡ option_or (look xs n) (look ys n) → (b : Bool) → cond b (Some x) (look (xs ++ ys) n) ≡ option_or (cond b (Some x) (look xs n)) (look ys n)
    by_test rest true = refl
    by_test rest false = rest

  pub look_filter : (keep : ℕ → Bool) (xs : List X) (n : ℕ) → look (filter (λ x. keep (number x)) xs) n ≡ (if keep n then look xs n else None)
  look_filter keep [] n = nothing (keep n) where
    nothing : (b : Bool) → ◌≡◌ {A = Option X} None (cond b None None)
    nothing true = refl
    nothing false = refl
  look_filter keep (x ∷ xs) n = by_number (filter (λ y. keep (number y)) xs) (look_filter keep xs n) (nat_eq (number x) n) refl where
    kept : (others : List X) → look others n ≡ (if keep n then look xs n else None) → keep n ≡ keep (number x) → (b : Bool) → keep (number x) ≡ b → nat_eq (number x) n ≡ true
        → look (cond b (x ∷ others) others) n ≡ (if keep n then Some x else None)
    kept others rest alike true is same =
        ap (λ (b : Bool). cond b (Some x) (look others n)) same ∙ sym (ap (λ (b : Bool). cond b (Some x) None) (alike ∙ is))
    kept others rest alike false is same =
        rest ∙ ap (λ (b : Bool). cond b (look xs n) None) (alike ∙ is) ∙ sym (ap (λ (b : Bool). cond b (Some x) None) (alike ∙ is))

    other : (others : List X) → look others n ≡ (if keep n then look xs n else None) → (b : Bool) → nat_eq (number x) n ≡ false → look (cond b (x ∷ others) others) n ≡ (if keep n then look xs n else None)
    other others rest true differs = ap (λ (b : Bool). cond b (Some x) (look others n)) differs ∙ rest
    other others rest false differs = rest

    by_number : (others : List X) → look others n ≡ (if keep n then look xs n else None) → (b : Bool) → nat_eq (number x) n ≡ b
        → look (cond (keep (number x)) (x ∷ others) others) n ≡ (if keep n then cond (nat_eq (number x) n) (Some x) (look xs n) else None)
    by_number others rest true is =
        kept others rest (ap keep (sym (eqb-true (number x) n is))) (keep (number x)) refl is ∙ ap (λ (b : Bool). if keep n then cond b (Some x) (look xs n) else None) (sym is)
    by_number others rest false is = other others rest (keep (number x)) is ∙ ap (λ (b : Bool). if keep n then cond b (Some x) (look xs n) else None) (sym is)

  -- ---- one item less

  -- the items without that of a number
  abbrev pub without : ℕ → List X → List X
  without n xs = filter (λ x. not (nat_eq (number x) n)) xs

  -- where none has the number, all stay
  pub without_none : (n : ℕ) (xs : List X) → AllByRecursion (λ x. number x ≢ n) xs → without n xs ≡ xs
  without_none n xs all = filter_all (λ x. not (nat_eq (number x) n)) xs (each_mono (λ x. number x ≢ n) (λ x. not (nat_eq (number x) n) ≡ true) xs (λ x differs. ap not (ne_eqb (number x) n differs)) all)

  later : (n : ℕ) (x : X) (xs : List X) → number x ≡ n → AllByRecursion (λ y. number x < number y) xs → AllByRecursion (λ y. number y ≢ n) xs
  later n x xs same above = each_mono (λ y. number x < number y) (λ y. number y ≢ n) xs (λ y less e. omega arith) above

  -- a sum over the items is one over the others, and what that item adds
  pub sum_without : (f : X → ℕ) (n : ℕ) (xs : List X) → Rises xs → sum_by f (without n xs) + option_map_or f (look xs n) 0 ≡ sum_by f xs
  sum_without f n [] rising = refl
  sum_without f n (x ∷ xs) rising = by_test (sum_without f n xs rising.1) (nat_eq (number x) n) refl where
    by_test : sum_by f (without n xs) + option_map_or f (look xs n) 0 ≡ sum_by f xs → (b : Bool) → nat_eq (number x) n ≡ b
        → sum_by f (cond (not b) (x ∷ without n xs) (without n xs)) + option_map_or f (cond b (Some x) (look xs n)) 0 ≡ sum_by f (x ∷ xs)
    by_test rest true is = omega (arith, sum_by-cons f x xs, ap (sum_by f) (without_none n xs (later n x xs (eqb-true (number x) n is) rising.0)))
    by_test rest false is = omega (arith, rest, sum_by-cons f x xs, sum_by-cons f x (without n xs))

  -- so do those that pass a test
  pub count_without : (p : X → Bool) (n : ℕ) (xs : List X) → Rises xs → length (filter p (without n xs)) + (if option_map_or p (look xs n) false then 1 else 0) ≡ length (filter p xs)
  count_without p n [] rising = refl
  count_without p n (x ∷ xs) rising = by_test (count_without p n xs rising.1) (nat_eq (number x) n) refl where
    here : (b : Bool) → length (filter p xs) + cond b 1 0 ≡ length (cond b (x ∷ filter p xs) (filter p xs))
    here true = omega arith
    here false = omega arith

    there : length (filter p (without n xs)) + (if option_map_or p (look xs n) false then 1 else 0) ≡ length (filter p xs) → (b : Bool)
        → length (cond b (x ∷ filter p (without n xs)) (filter p (without n xs))) + (if option_map_or p (look xs n) false then 1 else 0) ≡ length (cond b (x ∷ filter p xs) (filter p xs))
    there rest true = omega (arith, rest)
    there rest false = rest

    by_test : length (filter p (without n xs)) + (if option_map_or p (look xs n) false then 1 else 0) ≡ length (filter p xs) → (b : Bool) → nat_eq (number x) n ≡ b
        → length (filter p (cond (not b) (x ∷ without n xs) (without n xs))) + (if option_map_or p (cond b (Some x) (look xs n)) false then 1 else 0) ≡ length (filter p (x ∷ xs))
    by_test rest true is =
        ap (λ (others : List X). length (filter p others) + cond (p x) 1 0) (without_none n xs (later n x xs (eqb-true (number x) n is) rising.0)) ∙ here (p x)
    by_test rest false is = there rest (p x)

  -- ---- one item changed

  abbrev pub change_at : ℕ → (X → X) → X → X
  change_at n change x = if nat_eq (number x) n then change x else x

  pub look_map : (f : X → X) → ((x : X) → number (f x) ≡ number x) → (xs : List X) (n : ℕ) → look (map f xs) n ≡ option_map f (look xs n)
  look_map f same [] n = refl
  look_map f same (x ∷ xs) n = ap (λ (m : ℕ). cond (nat_eq m n) (Some (f x)) (look (map f xs) n)) (same x) ∙ by_test (look_map f same xs n) (nat_eq (number x) n) where
    by_test : look (map f xs) n ≡ option_map f (look xs n) → (b : Bool) → cond b (Some (f x)) (look (map f xs) n) ≡ option_map f (cond b (Some x) (look xs n))
    by_test rest true = refl
    by_test rest false = rest

  pub at_number : (n : ℕ) (change : X → X) → ((x : X) → number (change x) ≡ number x) → (x : X) → number (change_at n change x) ≡ number x
  at_number n change same x = by_test (nat_eq (number x) n) where
    by_test : (b : Bool) → number (if b then change x else x) ≡ number x
    by_test true = same x
    by_test false = refl

  pub at_none : (n : ℕ) (change : X → X) (xs : List X) → AllByRecursion (λ x. number x ≢ n) xs → map (change_at n change) xs ≡ xs
  at_none n change [] all = refl
  at_none n change (x ∷ xs) all =
      ap (λ (b : Bool). (if b then change x else x) ∷ map (change_at n change) xs) (ne_eqb (number x) n all.0) ∙ ap (λ (ys : List X). x ∷ ys) (at_none n change xs all.1)

  pub at_same : {Y : Type 0} (g : X → Y) (n : ℕ) (change : X → X) → ((x : X) → g (change x) ≡ g x) → (x : X) → g (change_at n change x) ≡ g x
  at_same g n change same x = by_test (nat_eq (number x) n) where
    by_test : (b : Bool) → g (if b then change x else x) ≡ g x
    by_test true = same x
    by_test false = refl

  -- the item with the number is found changed
  pub look_at : (n : ℕ) (change : X → X) → ((x : X) → number (change x) ≡ number x) → (xs : List X) → look (map (change_at n change) xs) n ≡ option_map change (look xs n)
  look_at n change same xs = look_map (change_at n change) (at_number n change same) xs n ∙ by_item (look xs n) refl where
    by_item : (o : Option X) → look xs n ≡ o → option_map (change_at n change) o ≡ option_map change o
    by_item None is = refl
    by_item (Some x) is = ap (λ (b : Bool). Some (if b then change x else x)) (eq-eqb (number x) n (look_number xs n x is))

  -- and the others as they were
  pub look_beside : (n m : ℕ) (change : X → X) → ((x : X) → number (change x) ≡ number x) → (xs : List X) → m ≢ n → look (map (change_at n change) xs) m ≡ look xs m
  look_beside n m change same xs other = look_map (change_at n change) (at_number n change same) xs m ∙ by_item (look xs m) refl where
    by_item : (o : Option X) → look xs m ≡ o → option_map (change_at n change) o ≡ o
    by_item None is = refl
    by_item (Some x) is = ap (λ (b : Bool). Some (if b then change x else x)) (ne_eqb (number x) n (λ e. other (sym (look_number xs m x is) ∙ e)))

  -- a sum after one item was changed
  pub sum_at : (f : X → ℕ) (n : ℕ) (change : X → X) (xs : List X) → Rises xs
      → sum_by f (map (change_at n change) xs) + option_map_or f (look xs n) 0 ≡ sum_by f xs + option_map_or (λ x. f (change x)) (look xs n) 0
  sum_at f n change [] rising = refl
  sum_at f n change (x ∷ xs) rising = by_test (sum_at f n change xs rising.1) (nat_eq (number x) n) refl where
    by_test : sum_by f (map (change_at n change) xs) + option_map_or f (look xs n) 0 ≡ sum_by f xs + option_map_or (λ y. f (change y)) (look xs n) 0 → (b : Bool) → nat_eq (number x) n ≡ b
        → sum_by f ((if b then change x else x) ∷ map (change_at n change) xs) + option_map_or f (cond b (Some x) (look xs n)) 0 ≡ sum_by f (x ∷ xs) + option_map_or (λ y. f (change y)) (cond b (Some x) (look xs n)) 0
    by_test rest true is =
        omega (arith, sum_by-cons f x xs, sum_by-cons f (change x) (map (change_at n change) xs), ap (sum_by f) (at_none n change xs (later n x xs (eqb-true (number x) n is) rising.0)))
    by_test rest false is = omega (arith, rest, sum_by-cons f x xs, sum_by-cons f x (map (change_at n change) xs))

-- what is read of an item, through a change of type
pub look_through : {X Y : Type 0} (number : X → ℕ) (numbered : Y → ℕ) (f : X → Y) → ((x : X) → numbered (f x) ≡ number x) → (xs : List X) (n : ℕ) → look numbered (map f xs) n ≡ option_map f (look number xs n)
look_through number numbered f same [] n = refl
look_through {X} {Y} number numbered f same (x ∷ xs) n =
    ap (λ (m : ℕ). cond (nat_eq m n) (Some (f x)) (look numbered (map f xs) n)) (same x) ∙ by_test (look_through number numbered f same xs n) (nat_eq (number x) n) where
      by_test : look numbered (map f xs) n ≡ option_map f (look number xs n) → (b : Bool) → cond b (Some (f x)) (look numbered (map f xs) n) ≡ option_map f (cond b (Some x) (look number xs n))
      by_test rest true = refl
      by_test rest false = rest

pub rises_through : {X Y : Type 0} (number : X → ℕ) (numbered : Y → ℕ) (f : X → Y) → ((x : X) → numbered (f x) ≡ number x) → (xs : List X) → Rises numbered (map f xs) → Rises number xs
rises_through number numbered f same [] rising = tt
rises_through number numbered f same (x ∷ xs) rising = (
  each_mono (λ y. numbered (f x) < numbered (f y)) (λ y. number x < number y) xs (λ y less. omega (arith, same x, same y)) (each_of_map (λ z. numbered (f x) < numbered z) f xs rising.0),
  rises_through number numbered f same xs rising.1,
)

pub rises_map : {X Y : Type 0} (number : X → ℕ) (numbered : Y → ℕ) (f : X → Y) → ((x : X) → numbered (f x) ≡ number x) → (xs : List X) → Rises number xs → Rises numbered (map f xs)
rises_map number numbered f same [] rising = tt
rises_map number numbered f same (x ∷ xs) rising = (
  each_map (λ z. numbered (f x) < numbered z) f xs (each_mono (λ y. number x < number y) (λ y. numbered (f x) < numbered (f y)) xs (λ y less. omega (arith, same x, same y)) rising.0),
  rises_map number numbered f same xs rising.1,
)

-- ---- loops

pub fold_push : {A B : Type 0} (f : B → A → B) (start : B) (xs : List A) (x : A) → fold f start (xs ++ x ∷ []) ≡ f (fold f start xs) x
fold_push f start [] x = refl
fold_push f start (y ∷ xs) x = fold_push f (f start y) xs x

-- one turn more
pub fold_more : {A B : Type 0} (f : B → A → B) (start : B) (xs : List A) (k : ℕ) (d : A) → k < length xs → fold f start (take (k + 1) xs) ≡ f (fold f start (take k xs)) (get_or xs k d)
fold_more f start xs k d within = ap (λ ys. fold f start ys) (take_more xs k d within) ∙ fold_push f start (take k xs) (get_or xs k d)

-- what holds of each that is left holds of the next, and of those after it
pub each_next : {X : Type 0} (P : X → Type 0) (xs : List X) (k : ℕ) (d : X) → k < length xs → AllByRecursion P (drop k xs) → P (get_or xs k d) × AllByRecursion P (drop (k + 1) xs)
each_next P [] k d within all = absurd (omega (arith, within))
each_next P (x ∷ xs) zero d within all = all
each_next P (x ∷ xs) (suc k) d within all = rw add-one (rw add-one at (each_next P xs k d (omega (arith, within)) all))

pub any_push : {X : Type 0} (p : X → Bool) (xs : List X) (x : X) → list_any p (xs ++ x ∷ []) ≡ (p x || list_any p xs)
any_push p [] x = refl
any_push p (y ∷ xs) x = ap (λ (b : Bool). p y || b) (any_push p xs x) ∙ swap (p y) (p x) where
  swap : (a b : Bool) → (a || (b || list_any p xs)) ≡ (b || (a || list_any p xs))
  swap true true = refl
  swap true false = refl
  swap false b = refl

pub any_more : {X : Type 0} (p : X → Bool) (xs : List X) (k : ℕ) (d : X) → k < length xs → list_any p (take (k + 1) xs) ≡ (p (get_or xs k d) || list_any p (take k xs))
any_more p xs k d within = ap (λ ys. list_any p ys) (take_more xs k d within) ∙ any_push p (take k xs) (get_or xs k d)

pub or_joined : (a b c : Bool) → (a || (b || c)) ≡ ((a || b) || c)
or_joined true b c = refl
or_joined false b c = refl
