-- The numbers of an actor and of all below it: what is among them, and in which order they are.
use Rattle.std.proofs.Common.{◌≡◌, ◌⊎◌, inl, inr, ℕ, ◌<◌, ◌≤◌, Bool, true, false, cond, ◌||◌, true≢false, List, [], ◌∷◌, ◌++◌, fold, map, nat_eq, None, Option, Some, refl, sym, ap, ◌∙◌, subst, arith}
use Rattle.std.specs.declared.cmp.Ordering.TheVariants.{Less}
use Rattle.std.specs.List.{AllByRecursion}
use Rattle.std.specs.List.Sorted.{IsStrictlySortedBy}
use Rattle.std.specs.Option.{option_map_or}
use Rattle.std.specs.Ordering.{nat_cmp}
use Rattle.std.proofs.lemmas.Bool.{eqb-true, eq-eqb, ne_eqb}
use Rattle.std.proofs.lemmas.Cmp.{ranked}
use Rattle.office_types.specs.declared.office.ActorRecord.{ActorRecord}
use Rattle.office_types.specs.Ends.{has_parent_among, is_among}
use Rattle.office_books.specs.KeyIndex.{IsIn}
use Rattle.office_books.specs.NumberedItems.{NumbersRise}
use Rattle.actor_tree.specs.declared.actor.Actor.{Actor}
use Rattle.actor_tree.specs.Actors.{records_of}
use Rattle.actor_tree.proofs.PushLemmas.{all_push, all_so}

-- ---- numbers that rise

-- each number is below those after it
abbrev pub Rise : List ℕ → Type 0
Rise [] = Unit {0}
Rise (n ∷ numbers) = AllByRecursion (λ (m : ℕ). n < m) numbers × Rise numbers

pub rise_push : (numbers : List ℕ) (n : ℕ) → Rise numbers → AllByRecursion (λ (m : ℕ). m < n) numbers → Rise (numbers ++ n ∷ [])
rise_push [] n rise below = (tt, tt)
rise_push (first ∷ numbers) n rise below = (all_push (λ (m : ℕ). first < m) numbers n rise.0 below.0, rise_push numbers n rise.1 below.1)

pub among_has : (P : ℕ → Type 0) (numbers : List ℕ) (n : ℕ) → AllByRecursion P numbers → is_among numbers n ≡ true → P n
among_has P [] n all is = absurd (true≢false (sym is))
among_has P (first ∷ numbers) n all is = by_test (among_has P numbers n all.1) (nat_eq n first) refl is
  where
    by_test : (is_among numbers n ≡ true → P n) → (b : Bool) → nat_eq n first ≡ b → (b || is_among numbers n) ≡ true → P n
    by_test rest true e is = subst P (sym (eqb-true n first e)) all.0
    by_test rest false e is = rest is

pub among_push : (numbers : List ℕ) (m n : ℕ) → is_among numbers n ≡ true → is_among (numbers ++ m ∷ []) n ≡ true
among_push [] m n is = absurd (true≢false (sym is))
among_push (first ∷ numbers) m n is = by_test (among_push numbers m n) (nat_eq n first) is
  where
    by_test : (is_among numbers n ≡ true → is_among (numbers ++ m ∷ []) n ≡ true) → (b : Bool) → (b || is_among numbers n) ≡ true → (b || is_among (numbers ++ m ∷ []) n) ≡ true
    by_test rest true is = refl
    by_test rest false is = rest is

pub or_true : (b : Bool) → (b || true) ≡ true
or_true true = refl
or_true false = refl

pub among_last : (numbers : List ℕ) (n : ℕ) → is_among (numbers ++ n ∷ []) n ≡ true
among_last [] n = ap (λ (b : Bool). b || false) (eq-eqb n n refl)
among_last (first ∷ numbers) n = ap (λ (b : Bool). nat_eq n first || b) (among_last numbers n) ∙ or_true (nat_eq n first)

among_pushed : (numbers : List ℕ) (m n : ℕ) → is_among (numbers ++ m ∷ []) n ≡ true → (is_among numbers n ≡ true) ⊎ (n ≡ m)
among_pushed [] m n is = by_test (nat_eq n m) refl is
  where
    by_test : (b : Bool) → nat_eq n m ≡ b → (b || false) ≡ true → (is_among [] n ≡ true) ⊎ (n ≡ m)
    by_test true e is = inr (eqb-true n m e)
    by_test false e is = absurd (true≢false (sym is))
among_pushed (first ∷ numbers) m n is = by_test (among_pushed numbers m n) (nat_eq n first) is
  where
    by_test : (is_among (numbers ++ m ∷ []) n ≡ true → (is_among numbers n ≡ true) ⊎ (n ≡ m)) → (b : Bool) → (b || is_among (numbers ++ m ∷ []) n) ≡ true → ((b || is_among numbers n) ≡ true) ⊎ (n ≡ m)
    by_test rest true is = inl refl
    by_test rest false is = rest is

pub among_first : (n : ℕ) (numbers : List ℕ) → is_among (n ∷ numbers) n ≡ true
among_first n numbers = ap (λ (b : Bool). b || is_among numbers n) (eq-eqb n n refl)

-- two lists of numbers that rise and have the same members are equal
pub same_numbers : (xs ys : List ℕ) → Rise xs → Rise ys → ((n : ℕ) → is_among xs n ≡ true → is_among ys n ≡ true) → ((n : ℕ) → is_among ys n ≡ true → is_among xs n ≡ true) → xs ≡ ys
same_numbers [] [] rise_x rise_y to from = refl
same_numbers [] (y ∷ ys) rise_x rise_y to from = absurd (true≢false (sym (from y (among_first y ys))))
same_numbers (x ∷ xs) [] rise_x rise_y to from = absurd (true≢false (sym (to x (among_first x xs))))
same_numbers (x ∷ xs) (y ∷ ys) rise_x rise_y to from =
    let low : y ≤ x = among_has (λ (n : ℕ). y ≤ n) (y ∷ ys) x (omega arith, all_so (λ (n : ℕ). y < n) (λ (n : ℕ). y ≤ n) ys (λ n less. omega arith) rise_y.0) (to x (among_first x xs)) in
    let high : x ≤ y = among_has (λ (n : ℕ). x ≤ n) (x ∷ xs) y (omega arith, all_so (λ (n : ℕ). x < n) (λ (n : ℕ). x ≤ n) xs (λ n less. omega arith) rise_x.0) (from y (among_first y ys)) in
    let same : x ≡ y = omega arith in
    let rest : xs ≡ ys =
    same_numbers xs ys rise_x.1 rise_y.1
    (λ n is. (let above : x < n = among_has (λ (m : ℕ). x < m) xs n rise_x.0 is in other y n ys (omega arith) (to n (behind x n xs is))))
    (λ n is. (let above : y < n = among_has (λ (m : ℕ). y < m) ys n rise_y.0 is in other x n xs (omega arith) (from n (behind y n ys is)))) in
    ap (λ (n : ℕ). n ∷ xs) same ∙ ap (λ (l : List ℕ). y ∷ l) rest
  where
    behind : (m n : ℕ) (l : List ℕ) → is_among l n ≡ true → is_among (m ∷ l) n ≡ true
    behind m n l is = ap (λ (b : Bool). nat_eq n m || b) is ∙ or_true (nat_eq n m)

    other : (m n : ℕ) (l : List ℕ) → m < n → is_among (m ∷ l) n ≡ true → is_among l n ≡ true
    other m n l less is = sym (ap (λ (b : Bool). b || is_among l n) (ne_eqb n m (λ e. omega arith))) ∙ is

-- ---- records that rise

abbrev pub RecordsRise : List ActorRecord → Type 0
RecordsRise [] = Unit {0}
RecordsRise (actor ∷ actors) = AllByRecursion (λ (other : ActorRecord). actor.number < other.number) actors × RecordsRise actors

pub records_rise : (actors : List (ℕ × Actor)) → NumbersRise actors → RecordsRise (records_of actors)
unfolding IsStrictlySortedBy
records_rise [] rise = tt
records_rise (first ∷ actors) rise = (above actors rise.0, records_rise actors rise.1)
  where
    above : (actors : List (ℕ × Actor)) → AllByRecursion (λ l. nat_cmp first.0 l ≡ Less) (map (λ (pair : ℕ × Actor). pair.0) actors) → AllByRecursion (λ (other : ActorRecord). first.0 < other.number) (records_of actors)
    above [] all = tt
    above (other ∷ actors) all = (ranked first.0 other.0 Less (sym all.0), above actors all.1)

pub in_has : {X : Type 0} (P : X → Type 0) (xs : List X) (x : X) → AllByRecursion P xs → IsIn x xs → P x
in_has P [] x all is = absurd is
in_has P (first ∷ xs) x all (inl e) = subst P e all.0
in_has P (first ∷ xs) x all (inr is) = in_has P xs x all.1 is

-- ---- those below an actor

-- an actor's parent has a smaller number
abbrev pub ParentIsSmaller : ActorRecord → Type 0
ParentIsSmaller actor = (p : ℕ) → actor.parent ≡ Some p → p < actor.number

-- one more is found below
abbrev pub add_below : List ℕ → ActorRecord → List ℕ
add_below found actor = cond (has_parent_among found actor) (found ++ actor.number ∷ []) found

-- those found, and all below them
abbrev pub all_below : List ActorRecord → List ℕ → List ℕ
all_below actors found = fold add_below found actors

has_parent : (found : List ℕ) (actor : ActorRecord) → has_parent_among found actor ≡ true → (p : ℕ) × (actor.parent ≡ Some p) × (is_among found p ≡ true)
has_parent found actor is = by_parent actor.parent refl is
  where
    by_parent : (o : Option ℕ) → actor.parent ≡ o → option_map_or (is_among found) o false ≡ true → (p : ℕ) × (actor.parent ≡ Some p) × (is_among found p ≡ true)
    by_parent None e is = absurd (true≢false (sym is))
    by_parent (Some p) e is = (p, e, is)

parent_has : (found : List ℕ) (actor : ActorRecord) (p : ℕ) → actor.parent ≡ Some p → is_among found p ≡ true → has_parent_among found actor ≡ true
parent_has found actor p e is = ap (λ (o : Option ℕ). option_map_or (is_among found) o false) e ∙ is

stay_added : (found : List ℕ) (actor : ActorRecord) (n : ℕ) → is_among found n ≡ true → is_among (add_below found actor) n ≡ true
stay_added found actor n is = by_test (has_parent_among found actor)
  where
    by_test : (b : Bool) → is_among (cond b (found ++ actor.number ∷ []) found) n ≡ true
    by_test true = among_push found actor.number n is
    by_test false = is

pub stay_below : (actors : List ActorRecord) (found : List ℕ) (n : ℕ) → is_among found n ≡ true → is_among (all_below actors found) n ≡ true
stay_below [] found n is = is
stay_below (actor ∷ actors) found n is = stay_below actors (add_below found actor) n (stay_added found actor n is)

added : (found : List ℕ) (actor : ActorRecord) (n : ℕ) → is_among (add_below found actor) n ≡ true → (is_among found n ≡ true) ⊎ ((n ≡ actor.number) × (has_parent_among found actor ≡ true))
added found actor n is = by_test (has_parent_among found actor) refl is
  where
    by_test : (b : Bool) → has_parent_among found actor ≡ b → is_among (cond b (found ++ actor.number ∷ []) found) n ≡ true → (is_among found n ≡ true) ⊎ ((n ≡ actor.number) × (has_parent_among found actor ≡ true))
    by_test true child is = elim (among_pushed found actor.number n is) [
      | inl before ↦ inl before
      | inr here ↦ inr (here, child)
    ]
    by_test false child is = inl is

-- the actor has the number, and its parent is among some
pub record IsBelow (actors : List ActorRecord) (found : List ℕ) (n : ℕ) : Type 0 where
  pub actor : ActorRecord
  pub parent : ℕ
  pub is_in : IsIn actor actors
  pub number : actor.number ≡ n
  pub parent_is : actor.parent ≡ Some parent
  pub above : is_among found parent ≡ true

-- whoever stands below was found at first, or its parent stands below
pub below_cases : (actors : List ActorRecord) (found : List ℕ) (n : ℕ) → is_among (all_below actors found) n ≡ true → (is_among found n ≡ true) ⊎ IsBelow actors (all_below actors found) n
below_cases [] found n is = inl is
below_cases (actor ∷ actors) found n is =
    elim (below_cases actors (add_below found actor) n is) [
      | inl first ↦ elim (added found actor n first) [
        | inl before ↦ inl before
        | inr here ↦ (
            let up = has_parent found actor here.1 in
            inr (record {
              actor = actor;
              parent = up.0;
              is_in = inl refl;
              number = sym here.0;
              parent_is = up.1;
              above = stay_below actors (add_below found actor) up.0 (stay_added found actor up.0 up.2);
            }))
      ]
      | inr below ↦ inr (record {
        actor = below.actor;
        parent = below.parent;
        is_in = inr below.is_in;
        number = below.number;
        parent_is = below.parent_is;
        above = below.above;
      })
    ]

-- whoever has its parent below stands below
pub below_closed : (actors : List ActorRecord) (found : List ℕ) (a : ActorRecord) (p : ℕ) → RecordsRise actors → AllByRecursion ParentIsSmaller actors → IsIn a actors → a.parent ≡ Some p
    → is_among (all_below actors found) p ≡ true → is_among (all_below actors found) a.number ≡ true
below_closed [] found a p rise smaller is_in parent is = absurd is_in
below_closed (first ∷ actors) found a p rise smaller (inr is_in) parent is = below_closed actors (add_below found first) a p rise.1 smaller.1 is_in parent is
below_closed (first ∷ actors) found a p rise smaller (inl same) parent is =
    subst (λ (z : ActorRecord). is_among (all_below actors (add_below found first)) z.number ≡ true) same
    (stay_below actors (add_below found first) first.number (itself (before (below_cases actors (add_below found first) p is))))
  where
    its_parent : first.parent ≡ Some p
    its_parent = ap (λ (z : ActorRecord). z.parent) same ∙ parent

    less : p < first.number
    less = smaller.0 p its_parent

    before : (is_among (add_below found first) p ≡ true) ⊎ IsBelow actors (all_below actors (add_below found first)) p → is_among found p ≡ true
    before (inl is) = elim (added found first p is) [
      | inl early ↦ early
      | inr here ↦ absurd (let e : p ≡ first.number = here.0 in omega (arith, less))
    ]
    before (inr below) = absurd (
        let later : first.number < below.actor.number = in_has (λ (other : ActorRecord). first.number < other.number) actors below.actor rise.0 below.is_in in
        omega (arith, less, below.number))

    itself : is_among found p ≡ true → is_among (add_below found first) first.number ≡ true
    itself is = ap (λ (b : Bool). is_among (cond b (found ++ first.number ∷ []) found) first.number) (parent_has found first p its_parent is) ∙ among_last found first.number

-- the first, or below all actors that come
abbrev pub ComesBefore : ℕ → List ActorRecord → ℕ → Type 0
ComesBefore least actors n = (n ≡ least) ⊎ AllByRecursion (λ (actor : ActorRecord). n < actor.number) actors

-- those below an actor rise
pub below_rise : (least : ℕ) (actors : List ActorRecord) (found : List ℕ) → RecordsRise actors → AllByRecursion ParentIsSmaller actors
    → Rise found → AllByRecursion (λ (n : ℕ). least ≤ n) found → AllByRecursion (ComesBefore least actors) found → Rise (all_below actors found)
below_rise least [] found rise smaller rising from before = rising
below_rise least (actor ∷ actors) found rise smaller rising from before =
    by_test (λ others rising from before. below_rise least actors others rise.1 smaller.1 rising from before) (has_parent_among found actor) refl
  where
    later : (n : ℕ) → ComesBefore least (actor ∷ actors) n → ComesBefore least actors n
    later n (inl e) = inl e
    later n (inr below) = inr below.1

    all_later : AllByRecursion (ComesBefore least actors) found
    all_later = all_so (ComesBefore least (actor ∷ actors)) (ComesBefore least actors) found later before

    by_test : ((others : List ℕ) → Rise others → AllByRecursion (λ (n : ℕ). least ≤ n) others → AllByRecursion (ComesBefore least actors) others → Rise (all_below actors others))
        → (b : Bool) → has_parent_among found actor ≡ b → Rise (all_below actors (cond b (found ++ actor.number ∷ []) found))
    by_test rest false child = rest found rising from all_later
    by_test rest true child =
        let up = has_parent found actor child in
        let less : up.0 < actor.number = smaller.0 up.0 up.1 in
        let low : least ≤ up.0 = among_has (λ (n : ℕ). least ≤ n) found up.0 from up.2 in
        rest (found ++ actor.number ∷ [])
        (rise_push found actor.number rising (all_so (ComesBefore least (actor ∷ actors)) (λ (n : ℕ). n < actor.number) found (λ n is. elim is [
          | inl e ↦ (let same : n ≡ least = e in omega arith)
          | inr below ↦ below.0
        ]) before))
        (all_push (λ (n : ℕ). least ≤ n) found actor.number from (omega arith))
        (all_push (ComesBefore least actors) found actor.number all_later (inr rise.0))
