-- Lists: counts as far as a walk has come, items of joined lists, and pairs along equal lists.
use Rattle.std.proofs.Common.{◌≡◌, ℕ, suc, ◌<◌, ◌≤◌, ◌+◌, Bool, true, cond, List, [], ◌∷◌, ◌++◌, length, map, get_or, take, drop, sym, ap, ◌∙◌, subst, arith}
use Rattle.std.specs.Prelude.{AllPairs, filter, ⊤, Result, Ok, Err, IfOk}
use Rattle.std.specs.List.{All, AllByRecursion, flat_map}
use Rattle.std.proofs.lemmas.List.{get_or-map, length-append, length-map, take_all, take-append-drop}
use Rattle.std.proofs.lemmas.List.Kept.{AllPairs-cons}
use Rattle.std.proofs.lemmas.List.Elements.{All-append, All-cons, All-from_recursion, All-more, All-nil, filter-append, filter_more, recursion_from_All}

-- ---- counts

pub one_passes_more : {X : Type 0} (p : X → Bool) (xs : List X) (i : ℕ) (d : X) → i < length xs → p (get_or xs i d) ≡ true → length (filter p (take i xs)) + 1 ≤ length (filter p xs)
one_passes_more p xs i d inside passes =
    let more : filter p (take (i + 1) xs) ≡ filter p (take i xs) ++ get_or xs i d ∷ [] =
    filter_more p xs i d inside ∙ ap (λ (b : Bool). filter p (take i xs) ++ cond b (get_or xs i d ∷ []) []) passes in
    let all : filter p xs ≡ filter p (take (i + 1) xs) ++ filter p (drop (i + 1) xs) =
    ap (filter p) (sym (take-append-drop (i + 1) xs)) ∙ filter-append p (take (i + 1) xs) (drop (i + 1) xs) in
    omega (arith, ap length more, ap length all, length-append (filter p (take i xs)) (get_or xs i d ∷ []), length-append (filter p (take (i + 1) xs)) (filter p (drop (i + 1) xs)))

-- ---- items of joined lists

pub all_joined : {X Y : Type 0} (P : Y → Type 0) (f : X → List Y) (xs : List X) → All (λ x. All P (f x)) xs → All P (flat_map f xs)
all_joined {X} P f xs all = by_items xs (recursion_from_All (λ x. All P (f x)) xs all) where
  by_items : (xs : List X) → AllByRecursion (λ x. All P (f x)) xs → All P (flat_map f xs)
  by_items [] all = All-nil P
  by_items (x ∷ xs) all = All-append P (f x) (flat_map f xs) all.0 (by_items xs all.1)

pub all_front : {Y : Type 0} (P : Y → Type 0) (xs ys : List Y) → All P (xs ++ ys) → All P xs
all_front P [] ys all = All-nil P
all_front P (x ∷ xs) ys all = All-cons P x xs (all 0 x (omega arith)) (all_front P xs ys (λ k d inside. all (suc k) d (omega arith)))

pub all_back : {Y : Type 0} (P : Y → Type 0) (xs ys : List Y) → All P (xs ++ ys) → All P ys
all_back P [] ys all = all
all_back P (x ∷ xs) ys all = all_back P xs ys (λ k d inside. all (suc k) d (omega arith))

pub joined_all : {X Y : Type 0} (P : Y → Type 0) (f : X → List Y) (xs : List X) → All P (flat_map f xs) → All (λ x. All P (f x)) xs
joined_all P f [] all = All-nil (λ x. All P (f x))
joined_all P f (x ∷ xs) all = All-cons (λ x. All P (f x)) x xs (all_front P (f x) (flat_map f xs) all) (joined_all P f xs (all_back P (f x) (flat_map f xs) all))

-- ---- pairs along equal lists

pub pairs_map : {X Z : Type 0} (R : Z → Z → Type 0) (f : X → Z) (xs : List X) → AllPairs (λ a b. R (f a) (f b)) xs → AllPairs R (map f xs)
pairs_map R f [] pairs i j d before inside = absurd (omega arith)
pairs_map {X} {Z} R f (x ∷ xs) pairs i j d before inside =
    let len = length-map (x ∷ xs) f in
    let one : get_or (map f (x ∷ xs)) i d ≡ f (get_or (x ∷ xs) i x) = get_or-map f (x ∷ xs) i x d (omega arith) in
    let other : get_or (map f (x ∷ xs)) j d ≡ f (get_or (x ∷ xs) j x) = get_or-map f (x ∷ xs) j x d (omega arith) in
    let P : Z → Type 0 = λ z. R z (f (get_or (x ∷ xs) j x)) in
    let Q : Z → Type 0 = λ z. R (get_or (map f (x ∷ xs)) i d) z in
    subst Q (sym other) (subst P (sym one) (pairs i j x before (omega arith)))

pub pairs_of_map : {X Z : Type 0} (R : Z → Z → Type 0) (f : X → Z) (xs : List X) → AllPairs R (map f xs) → AllPairs (λ a b. R (f a) (f b)) xs
pairs_of_map {X} {Z} R f xs pairs i j d before inside =
    let len = length-map xs f in
    let one : get_or (map f xs) i (f d) ≡ f (get_or xs i d) = get_or-map f xs i d (f d) (omega arith) in
    let other : get_or (map f xs) j (f d) ≡ f (get_or xs j d) = get_or-map f xs j d (f d) inside in
    let P : Z → Type 0 = λ z. R z (get_or (map f xs) j (f d)) in
    let Q : Z → Type 0 = λ z. R (f (get_or xs i d)) z in
    subst Q other (subst P one (pairs i j (f d) before (omega arith)))

pub pairs_weaker : {X : Type 0} (R S : X → X → Type 0) (xs : List X) → ((a b : X) → R a b → S a b) → AllPairs R xs → AllPairs S xs
pairs_weaker R S xs gives pairs i j d before inside = gives (get_or xs i d) (get_or xs j d) (pairs i j d before inside)

-- the same pairs under two readings of two lists that read alike
pub pairs_along : {X Y Z : Type 0} (R : X → X → Type 0) (S : Y → Y → Type 0) (T : Z → Z → Type 0) (f : X → Z) (g : Y → Z) (xs : List X) (ys : List Y) → map f xs ≡ map g ys
    → ((a b : X) → R a b → T (f a) (f b)) → ((a b : Y) → T (g a) (g b) → S a b) → AllPairs R xs → AllPairs S ys
pairs_along {Z = Z} R S T f g xs ys same into out pairs =
    let P : List Z → Type 0 = λ zs. AllPairs T zs in
    pairs_weaker (λ a b. T (g a) (g b)) S ys out (pairs_of_map T g ys (subst P same (pairs_map T f xs (pairs_weaker R (λ a b. T (f a) (f b)) xs into pairs))))

-- ---- a walk that ends where a test fails

-- (the walk goes over ys, which is xs)
pub item_in : {X : Type 0} (P : X → Type 0) (xs ys : List X) → ys ≡ xs → (i : ℕ) (x : X) → i < length ys → x ≡ get_or ys i x → All P xs → P x
item_in {X} P xs ys same i x inside is all = let Q : List X → Type 0 = λ zs. All P zs in subst P (sym is) ((subst Q (sym same) all) i x inside)

pub more_in : {X : Type 0} (P : X → Type 0) (xs ys : List X) → ys ≡ xs → (i : ℕ) (x : X) → i < length ys → x ≡ get_or ys i x → All P (take i xs) → P x → All P (take (i + 1) xs)
more_in {X} P xs ys same i x inside is all here =
    let Q : List X → Type 0 = λ zs. All P (take i zs) in
    let R : List X → Type 0 = λ zs. All P (take (i + 1) zs) in
    subst R same (All-more P ys i x inside (subst Q (sym same) all) (subst P is here))

pub whole_in : {X : Type 0} (P : X → Type 0) (xs ys : List X) → ys ≡ xs → (i : ℕ) → length ys ≤ i → All P (take i xs) → All P xs
whole_in {X} P xs ys same i past all =
    let Q : List X → Type 0 = λ zs. All P zs in
    let len : length xs ≤ i = omega (arith, ap length same) in
    subst Q (take_all i xs len) all

-- ---- each two items, by recursion on the list

-- each item is so related to each later one
abbrev pub EachPair : {X : Type 0} → (X → X → Type 0) → List X → Type 0
EachPair R [] = ⊤
EachPair R (x ∷ xs) = AllByRecursion (R x) xs × EachPair R xs

pub pairs_from : {X : Type 0} (R : X → X → Type 0) (xs : List X) → AllPairs R xs → EachPair R xs
pairs_from R [] all = tt
pairs_from R (x ∷ xs) all =
    (recursion_from_All (R x) xs (λ k d within. all 0 (suc k) d (omega arith) (omega arith)), pairs_from R xs (λ i j d before within. all (suc i) (suc j) d (omega arith) (omega arith)))

pub all_from_pairs : {X : Type 0} (R : X → X → Type 0) (xs : List X) → EachPair R xs → AllPairs R xs
all_from_pairs R [] pairs = λ i j d before within. absurd (omega arith)
all_from_pairs R (x ∷ xs) pairs = AllPairs-cons R x xs (All-from_recursion (R x) xs pairs.0) (all_from_pairs R xs pairs.1)

-- ---- answers

pub if_ok_weaker : {X E : Type 0} {P Q : X → Type 0} (r : Result X E) → IfOk r P → ((x : X) → P x → Q x) → IfOk r Q
if_ok_weaker (Ok x) holds gives = gives x holds
if_ok_weaker (Err e) holds gives = tt
