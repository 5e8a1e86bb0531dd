-- Parents and children that name each other: what is listed once, and by whom.
use Rattle.std.proofs.Common.{◌≡◌, ◌≢◌, ◌↔◌, ℕ, suc, ◌<◌, ◌+◌, ◌==◌, Bool, true, false, cond, List, [], ◌∷◌, ◌++◌, Option, None, Some, length, get_or, nat_eq, inl, inr, refl, sym, ap, ◌∙◌, subst, arith}
use Rattle.std.specs.Prelude.{AllPairs, count_by, find, IfSome}
use Rattle.std.specs.List.{All, AllByRecursion, Contains, IsDistinct, flat_map}
use Rattle.std.specs.List.Sorted.{IsNonDecreasing, IsPermutation, IsStrictlyIncreasing}
use Rattle.std.specs.Option.{option_and_then}
use Rattle.std.proofs.lemmas.Bool.{cases_eq, eq-eqb, eqb-true, ne_eqb}
use Rattle.std.proofs.lemmas.Cmp.{nat_cmp_total, nat_eq_equiv, tied_itself}
use Rattle.std.proofs.lemmas.List.{get_or-map, length-map}
use Rattle.std.proofs.lemmas.List.Sums.{sum_by-cons}
use Rattle.std.proofs.lemmas.List.Elements.{All-contains, Contains-append_cases, Contains-append_left, Contains-append_right, recursion_from_All, All-from_recursion}
use Rattle.std.proofs.lemmas.List.Kept.{AllPairs-from_increasing}
use Rattle.std.proofs.lemmas.List.Sorted.{Contains-permutation, IsPermutation-sym}
use Rattle.std.proofs.lemmas.Map.Keys.{IsDistinct-from_apart, IsDistinct-IsPermutation, IsStrictlyIncreasing-from_distinct, apart_from_distinct}
use Rattle.step_sets.proofs.ListLemmas.{Contains-cons_cases, Contains-flat_map, Contains-here, Contains-there}
use Rattle.office_types.specs.declared.office.ActorRecord.{ActorRecord}
use Rattle.office_types.specs.declared.office.OfficeState.{OfficeState}
use Rattle.office_types.specs.Definitions.{OfficeDefinitions}
use Rattle.office_types.specs.Records.{actor_record}
use Rattle.office_types.specs.ValidOffice.{HasParent, IsActor, IsChildOf, is_kid}
use Rattle.snapshot_text.specs.Validity.{AreListedOnce, HaveParents, RecordsRise, child_numbers, kid_numbers}
use Rattle.snapshot_text.proofs.ListLemmas.{EachPair, all_from_pairs, pairs_from}
use Rattle.snapshot_text.proofs.LookupLemmas.{found_place}
use Rattle.snapshot_text.proofs.OrderLemmas.{rises_far}

abbrev Kid : Type 0
Kid = List ℕ × ℕ

abbrev number_of : ActorRecord → ℕ
number_of actor = actor.number

-- ---- counts of children

count_cons : (n : ℕ) (kid : Kid) (kids : List Kid) → count_by (is_kid n) (kid ∷ kids) ≡ cond (is_kid n kid) 1 0 + count_by (is_kid n) kids
count_cons n kid kids = sum_by-cons (λ (y : Kid). cond (is_kid n y) 1 0) kid kids

count_more : (n : ℕ) (kid : Kid) (kids : List Kid) → kid.1 ≡ n → count_by (is_kid n) (kid ∷ kids) ≡ count_by (is_kid n) kids + 1
count_more n kid kids is = omega (arith, count_cons n kid kids, ap {B = ℕ} (λ (b : Bool). cond b 1 0) (eq-eqb kid.1 n is))

count_other : (n : ℕ) (kid : Kid) (kids : List Kid) → kid.1 ≢ n → count_by (is_kid n) (kid ∷ kids) ≡ count_by (is_kid n) kids
count_other n kid kids other = omega (arith, count_cons n kid kids, ap {B = ℕ} (λ (b : Bool). cond b 1 0) (ne_eqb kid.1 n other))

count_absent : (n : ℕ) (kids : List Kid) → AllByRecursion (λ m. n ≢ m) (kid_numbers kids) → count_by (is_kid n) kids ≡ 0
count_absent n [] all = refl
count_absent n (kid ∷ kids) all = omega (arith, count_other n kid kids (λ e. all.0 (sym e)), count_absent n kids all.1)

absent_counted : (n : ℕ) (kids : List Kid) → count_by (is_kid n) kids ≡ 0 → AllByRecursion (λ (kid : Kid). n ≢ kid.1) kids
absent_counted n [] none = tt
absent_counted n (kid ∷ kids) none = ((λ same. absurd (let more = count_more n kid kids (sym same) in omega arith)), absent_counted n kids (omega (arith, count_cons n kid kids)))

once_counted : (n : ℕ) (kids : List Kid) → EachPair (λ (a b : ℕ). a ≢ b) (kid_numbers kids) → Contains (kid_numbers kids) n → count_by (is_kid n) kids ≡ 1
once_counted n [] pairs (k, inside, is) = absurd (omega arith)
once_counted n (kid ∷ kids) pairs has = elim (cases_eq kid.1 n) [
  | inl same ↦ (let P : ℕ → Type 0 = λ x. AllByRecursion (λ m. x ≢ m) (kid_numbers kids) in omega (arith, count_more n kid kids same, count_absent n kids (subst P same pairs.0)))
  | inr other ↦ elim (Contains-cons_cases n kid.1 (kid_numbers kids) has) [
    | inl e ↦ absurd (other e)
    | inr later ↦ count_other n kid kids other ∙ once_counted n kids pairs.1 later
  ]
]

counted_in : (n : ℕ) (kids : List Kid) → count_by (is_kid n) kids ≡ 1 → Contains (kid_numbers kids) n
counted_in n [] one = absurd (omega arith)
counted_in n (kid ∷ kids) one = elim (cases_eq kid.1 n) [
  | inl same ↦ (let P : ℕ → Type 0 = λ x. Contains (kid.1 ∷ kid_numbers kids) x in subst P same (Contains-here kid.1 (kid_numbers kids)))
  | inr other ↦ Contains-there n kid.1 (kid_numbers kids) (counted_in n kids (sym (count_other n kid kids other) ∙ one))
]

each_number : (P : ℕ → Type 0) (kids : List Kid) → AllByRecursion (λ (kid : Kid). P kid.1) kids → AllByRecursion P (kid_numbers kids)
each_number P [] all = tt
each_number P (kid ∷ kids) all = (all.0, each_number P kids all.1)

each_once : (kids : List Kid) → All (λ (kid : Kid). count_by (is_kid kid.1) kids ≡ 1) kids → EachPair (λ (a b : ℕ). a ≢ b) (kid_numbers kids)
each_once [] all = tt
each_once (kid ∷ kids) all =
    let one : count_by (is_kid kid.1) (kid ∷ kids) ≡ 1 = all 0 kid (omega arith) in
    let absent = absent_counted kid.1 kids (omega (arith, count_more kid.1 kid kids refl)) in
    let apart = All-from_recursion (λ (other : Kid). kid.1 ≢ other.1) kids absent in (
      each_number (λ m. kid.1 ≢ m) kids absent,
      each_once kids (λ k d inside. sym (count_other (get_or kids k d).1 kid kids (apart k d inside)) ∙ all (suc k) d (omega arith)),
    )

-- ---- joined lists of numbers

join_all : (P : ℕ → Type 0) (xs ys : List ℕ) → AllByRecursion P xs → AllByRecursion P ys → AllByRecursion P (xs ++ ys)
join_all P [] ys one other = other
join_all P (x ∷ xs) ys one other = (one.0, join_all P xs ys one.1 other)

split_all : (P : ℕ → Type 0) (xs ys : List ℕ) → AllByRecursion P (xs ++ ys) → AllByRecursion P xs
split_all P [] ys all = tt
split_all P (x ∷ xs) ys all = (all.0, split_all P xs ys all.1)

all_apart : (a : ℕ) (xs : List ℕ) → (Contains xs a → ⊥) → AllByRecursion (λ b. a ≢ b) xs
all_apart a [] none = tt
all_apart a (x ∷ xs) none = (
  (λ same. none (let P : ℕ → Type 0 = λ z. Contains (x ∷ xs) z in subst P (sym same) (Contains-here x xs))),
  all_apart a xs (λ has. none (Contains-there a x xs has)),
)

join_pairs : (xs ys : List ℕ) → EachPair (λ (a b : ℕ). a ≢ b) xs → EachPair (λ (a b : ℕ). a ≢ b) ys → ((n : ℕ) → Contains xs n → Contains ys n → ⊥) → EachPair (λ (a b : ℕ). a ≢ b) (xs ++ ys)
join_pairs [] ys one other cross = other
join_pairs (x ∷ xs) ys one other cross = (
  join_all (λ b. x ≢ b) xs ys one.0 (all_apart x ys (λ has. cross x (Contains-here x xs) has)),
  join_pairs xs ys one.1 other (λ n a b. cross n (Contains-there n x xs a) b),
)

front_pairs : (xs ys : List ℕ) → EachPair (λ (a b : ℕ). a ≢ b) (xs ++ ys) → EachPair (λ (a b : ℕ). a ≢ b) xs
front_pairs [] ys pairs = tt
front_pairs (x ∷ xs) ys pairs = (split_all (λ b. x ≢ b) xs ys pairs.0, front_pairs xs ys pairs.1)

back_pairs : (xs ys : List ℕ) → EachPair (λ (a b : ℕ). a ≢ b) (xs ++ ys) → EachPair (λ (a b : ℕ). a ≢ b) ys
back_pairs [] ys pairs = pairs
back_pairs (x ∷ xs) ys pairs = back_pairs xs ys pairs.1

module _ {X : Type 0} (f : X → List ℕ) where
  in_joined : (xs : List X) (x : X) (n : ℕ) → Contains xs x → Contains (f x) n → Contains (flat_map f xs) n
  in_joined [] x n (k, inside, is) has = absurd (omega arith)
  in_joined (y ∷ xs) x n among has = elim (Contains-cons_cases x y xs among) [
    | inl same ↦ (let P : X → Type 0 = λ z. Contains (f z) n in Contains-append_left (f y) (flat_map f xs) n (subst P (sym same) has))
    | inr later ↦ Contains-append_right (f y) (flat_map f xs) n (in_joined xs x n later has)
  ]

  joined_apart : (xs : List X) (n : ℕ) → AllByRecursion (λ x. Contains (f x) n → ⊥) xs → Contains (flat_map f xs) n → ⊥
  joined_apart [] n all (k, inside, is) = absurd (omega arith)
  joined_apart (x ∷ xs) n all has = elim (Contains-append_cases (f x) (flat_map f xs) n has) [ inl held ↦ all.0 held | inr later ↦ joined_apart xs n all.1 later ]

  none_at : (x : X) (xs : List X) (n : ℕ) → Contains (f x) n → AllByRecursion (λ y. (n : ℕ) → Contains (f x) n → Contains (f y) n → ⊥) xs → AllByRecursion (λ y. Contains (f y) n → ⊥) xs
  none_at x [] n has all = tt
  none_at x (y ∷ xs) n has all = (all.0 n has, none_at x xs n has all.1)

  pairs_joined : (xs : List X) → AllByRecursion (λ x. EachPair (λ (a b : ℕ). a ≢ b) (f x)) xs → EachPair (λ x y. (n : ℕ) → Contains (f x) n → Contains (f y) n → ⊥) xs → EachPair (λ (a b : ℕ). a ≢ b) (flat_map f xs)
  pairs_joined [] own cross = tt
  pairs_joined (x ∷ xs) own cross =
      join_pairs (f x) (flat_map f xs) own.0 (pairs_joined xs own.1 cross.1) (λ n here there. joined_apart xs n (none_at x xs n here cross.0) there)

  joined_pairs : (xs : List X) → EachPair (λ (a b : ℕ). a ≢ b) (flat_map f xs) → AllByRecursion (λ x. EachPair (λ (a b : ℕ). a ≢ b) (f x)) xs
  joined_pairs [] pairs = tt
  joined_pairs (x ∷ xs) pairs = (front_pairs (f x) (flat_map f xs) pairs, joined_pairs xs (back_pairs (f x) (flat_map f xs) pairs))

-- ---- what a look-up finds

module _ {X : Type 0} (p : X → Bool) where
  pub find_member : (xs : List X) (x : X) → find p xs ≡ Some x → Contains xs x
  find_member [] x found = absurd cc
  find_member (y ∷ xs) x found = by_test (find_member xs x) (p y) refl found where
    by_test : (find p xs ≡ Some x → Contains xs x) → (b : Bool) → p y ≡ b → cond b (Some y) (find p xs) ≡ Some x → Contains (y ∷ xs) x
    by_test rest true is found = let same : y ≡ x = cc in let P : X → Type 0 = λ z. Contains (y ∷ xs) z in subst P same (Contains-here y xs)
    by_test rest false is found = Contains-there x y xs (rest found)

  pub find_passes : (xs : List X) (x : X) → find p xs ≡ Some x → p x ≡ true
  find_passes [] x found = absurd cc
  find_passes (y ∷ xs) x found = by_test (find_passes xs x) (p y) refl found where
    by_test : (find p xs ≡ Some x → p x ≡ true) → (b : Bool) → p y ≡ b → cond b (Some y) (find p xs) ≡ Some x → p x ≡ true
    by_test rest true is found = let same : y ≡ x = cc in ap p (sym same) ∙ is
    by_test rest false is found = rest found

-- ---- distinct numbers, and sorted ones that rise

equal_flips : (x y : ℕ) → (x == y) ≡ (y == x)
equal_flips = nat_eq_equiv.symm

distinct_of_pairs : (xs : List ℕ) → EachPair (λ (a b : ℕ). a ≢ b) xs → IsDistinct (λ a b. a == b) xs
distinct_of_pairs xs pairs =
    let all = all_from_pairs (λ (a b : ℕ). a ≢ b) xs pairs in
    IsDistinct-from_apart (λ a b. a == b) xs (λ i j d before inside. ne_eqb (get_or xs i d) (get_or xs j d) (all i j d before inside))

rise_of_pairs : (xs ys : List ℕ) → EachPair (λ (a b : ℕ). a ≢ b) xs → IsPermutation xs ys → IsNonDecreasing ys → IsStrictlyIncreasing ys
rise_of_pairs xs ys pairs moved up = IsStrictlyIncreasing-from_distinct ys up (IsDistinct-IsPermutation (λ a b. a == b) equal_flips xs ys moved (distinct_of_pairs xs pairs))

pairs_of_rise : (xs ys : List ℕ) → IsPermutation xs ys → IsStrictlyIncreasing ys → EachPair (λ (a b : ℕ). a ≢ b) xs
pairs_of_rise xs ys moved rise =
    let less = AllPairs-from_increasing ys rise in
    let distinct = IsDistinct-from_apart (λ a b. a == b) ys (λ i j d before inside. ne_eqb (get_or ys i d) (get_or ys j d) (λ same. let lt = less i j d before inside in omega arith)) in
    let back = IsDistinct-IsPermutation (λ a b. a == b) equal_flips ys xs (IsPermutation-sym xs ys moved) distinct in
    pairs_from (λ (a b : ℕ). a ≢ b) xs (λ i j d before inside same. let apart = apart_from_distinct (λ a b. a == b) xs i j d back before inside in let equal = eq-eqb (get_or xs i d) (get_or xs j d) same in cc)

-- ---- records and their children

module _ (state : OfficeState) (rising : RecordsRise state.actors) where
  -- the record of a member's number is that member
  pub own_record : (k : ℕ) (d : ActorRecord) → k < length state.actors → actor_record state (get_or state.actors k d).number ≡ Some (get_or state.actors k d)
  own_record k d inside = found_place number_of state.actors (get_or state.actors k d).number rising k d inside (tied_itself nat_cmp_total (get_or state.actors k d).number)

  pub member_record : (actor : ActorRecord) → Contains state.actors actor → actor_record state actor.number ≡ Some actor
  member_record actor (k, inside, is) = let P : ActorRecord → Type 0 = λ z. actor_record state z.number ≡ Some z in subst P is (own_record k actor inside)

  has_parent_of : (kids : List Kid) (parent n : ℕ) → All (λ (kid : Kid). HasParent state parent kid.1) kids → Contains (kid_numbers kids) n → HasParent state parent n
  has_parent_of kids parent n all (k, inside, is) =
      let d : Kid = ([], 0) in
      let len = length-map kids (λ (kid : Kid). kid.1) in
      let there : get_or (kid_numbers kids) k n ≡ (get_or kids k d).1 = get_or-map (λ (kid : Kid). kid.1) kids k d n (omega arith) in
      let P : ℕ → Type 0 = λ m. HasParent state parent m in
      subst P (sym there ∙ is) (all k d (omega arith))

  numbers_of : ActorRecord → List ℕ
  numbers_of actor = kid_numbers actor.kids

  module _ (parents : HaveParents state) (listed : List ℕ) (once : AreListedOnce state listed) (actor above : ActorRecord) (q : ℕ)
      (own : actor_record state actor.number ≡ Some actor) (parent : actor.parent ≡ Some q) (found : actor_record state q ≡ Some above) where
    held : Contains (child_numbers state.actors) actor.number → Contains (kid_numbers above.kids) actor.number
    held has =
        let (k, inside, at) = Contains-flat_map (λ (a : ActorRecord). kid_numbers a.kids) state.actors actor.number has in
        let r = get_or state.actors k above in
        let names : HasParent state r.number actor.number = has_parent_of r.kids r.number actor.number (parents k above inside) (at above) in
        let e : actor.parent ≡ Some r.number = ap (λ (o : Option ActorRecord). option_and_then (λ (a : ActorRecord). a.parent) o) (sym own) ∙ names in
        let f : Some q ≡ Some r.number = sym parent ∙ e in
        let same : q ≡ r.number = cc in
        let g : Some above ≡ Some r = sym found ∙ ap (actor_record state) same ∙ own_record k above inside in
        let h : r ≡ above = cc in
        let P : ActorRecord → Type 0 = λ a. Contains (kid_numbers a.kids) actor.number in
        subst P h (at above)

    pub child_listed : Contains listed actor.number ↔ (count_by (is_kid actor.number) above.kids ≡ 1)
    child_listed = (
      (λ has.
          let flat = Contains-permutation listed (child_numbers state.actors) actor.number (IsPermutation-sym (child_numbers state.actors) listed once.permutation) has in
          let pairs = pairs_of_rise (child_numbers state.actors) listed once.permutation once.rise in
          let each = All-from_recursion (λ (a : ActorRecord). EachPair (λ (x y : ℕ). x ≢ y) (kid_numbers a.kids)) state.actors (joined_pairs (λ (a : ActorRecord). kid_numbers a.kids) state.actors pairs) in
          let apart = All-contains (λ (a : ActorRecord). EachPair (λ (x y : ℕ). x ≢ y) (kid_numbers a.kids)) state.actors above each (find_member (λ (a : ActorRecord). nat_eq a.number q) state.actors above found) in
          once_counted actor.number above.kids apart (held flat)),
      (λ one.
          let among = find_member (λ (a : ActorRecord). nat_eq a.number q) state.actors above found in
          Contains-permutation (child_numbers state.actors) listed actor.number once.permutation
          (in_joined (λ (a : ActorRecord). kid_numbers a.kids) state.actors above actor.number among (counted_in actor.number above.kids one))),
    )

  module _ (definitions : OfficeDefinitions) (all : All (IsActor definitions state) state.actors) where
    pub kids_of_valid : HaveParents state
    kids_of_valid k d inside = (all k d inside).kids

    child_once : (k : ℕ) (d : ActorRecord) → k < length state.actors → (n : ℕ) → HasParent state (get_or state.actors k d).number n → count_by (is_kid n) (get_or state.actors k d).kids ≡ 1
    child_once k d inside n names = by_record (actor_record state n) refl names where
      r : ActorRecord
      r = get_or state.actors k d

      by_record : (o : Option ActorRecord) → actor_record state n ≡ o → option_and_then (λ (a : ActorRecord). a.parent) o ≡ Some (get_or state.actors k d).number → count_by (is_kid n) (get_or state.actors k d).kids ≡ 1
      by_record None none names = absurd cc
      by_record (Some child) is names =
          let among = find_member (λ (a : ActorRecord). nat_eq a.number n) state.actors child is in
          let number : child.number ≡ n = eqb-true child.number n (find_passes (λ (a : ActorRecord). nat_eq a.number n) state.actors child is) in
          let valid : IsActor definitions state child = All-contains (IsActor definitions state) state.actors child all among in
          let P : Option ℕ → Type 0 = λ o. IfSome o (IsChildOf state child) in
          let child-of : IsChildOf state child (get_or state.actors k d).number = subst P names valid.parent in
          let e : Some child-of.parent ≡ Some (get_or state.actors k d) = sym child-of.record' ∙ own_record k d inside in
          let same : child-of.parent ≡ get_or state.actors k d = cc in
          ap (λ (a : ActorRecord). count_by (is_kid n) a.kids) (sym same) ∙ ap (λ (m : ℕ). count_by (is_kid m) child-of.parent.kids) (sym number) ∙ child-of.listed

    pub listed_rise : (listed : List ℕ) → IsPermutation (child_numbers state.actors) listed → IsNonDecreasing listed → IsStrictlyIncreasing listed
    listed_rise listed moved up =
        let own : All (λ (a : ActorRecord). EachPair (λ (x y : ℕ). x ≢ y) (kid_numbers a.kids)) state.actors = λ k d inside.
        each_once (get_or state.actors k d).kids (λ j e within. child_once k d inside (get_or (get_or state.actors k d).kids j e).1 ((all k d inside).kids j e within)) in
        let cross : AllPairs (λ (a b : ActorRecord). (n : ℕ) → Contains (kid_numbers a.kids) n → Contains (kid_numbers b.kids) n → ⊥) state.actors = λ i j d before inside n one other.
        let first : HasParent state (get_or state.actors i d).number n = has_parent_of (get_or state.actors i d).kids (get_or state.actors i d).number n (all i d (omega arith)).kids one in
        let second : HasParent state (get_or state.actors j d).number n = has_parent_of (get_or state.actors j d).kids (get_or state.actors j d).number n (all j d inside).kids other in
        let less = rises_far number_of state.actors i j d rising before inside in
        let f : Some (get_or state.actors i d).number ≡ Some (get_or state.actors j d).number = sym first ∙ second in
        let same : (get_or state.actors i d).number ≡ (get_or state.actors j d).number = cc in
        omega arith in
        rise_of_pairs (child_numbers state.actors) listed
        (pairs_joined (λ (a : ActorRecord). kid_numbers a.kids) state.actors
        (recursion_from_All (λ (a : ActorRecord). EachPair (λ (x y : ℕ). x ≢ y) (kid_numbers a.kids)) state.actors own)
        (pairs_from (λ (a b : ActorRecord). (n : ℕ) → Contains (kid_numbers a.kids) n → Contains (kid_numbers b.kids) n → ⊥) state.actors cross))
        moved up
