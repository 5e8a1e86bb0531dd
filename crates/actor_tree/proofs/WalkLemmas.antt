-- A walk over an actor and all below it, in the order of their numbers.
use Rattle.std.proofs.Common.{◌≡◌, ◌⊎◌, inl, inr, ℕ, suc, zero, ◌+◌, ◌<◌, ◌≤◌, Bool, true, false, cond, ◌||◌, true≢false, List, [], ◌∷◌, ◌++◌, length, map, nat_eq, None, Option, Some, IfSome, IsSome, refl, sym, ap, ◌∙◌, subst, arith}
use Rattle.std.specs.Prelude.{count_by, AllPairs}
use Rattle.std.specs.declared.cmp.Ordering.{Ordering}
use Rattle.std.specs.declared.cmp.Ordering.TheVariants.{Less, Equal, Greater}
use Rattle.std.specs.BTreeSet.{insert_key}
use Rattle.std.specs.List.{AllByRecursion}
use Rattle.std.specs.Option.{option_and_then, option_map_or}
use Rattle.std.specs.Ordering.{match_ordering, nat_cmp}
use Rattle.std.proofs.lemmas.Bool.{eqb-true, eq-eqb}
use Rattle.std.proofs.lemmas.Cmp.{ranked}
use Rattle.std.proofs.lemmas.List.Elements.{recursion_from_All}
use Rattle.std.proofs.lemmas.List.Sums.{sum_by-cons}
use Rattle.office_types.specs.declared.office.ActorRecord.{ActorRecord}
use Rattle.office_types.specs.declared.office.OfficeState.{OfficeState}
use Rattle.office_types.specs.Definitions.{OfficeDefinitions}
use Rattle.office_types.specs.Ends.{is_among, subtree_of}
use Rattle.office_types.specs.Records.{actor_record}
use Rattle.office_types.specs.ValidOffice.{HasParent, IsActor, IsChildOf, is_kid}
use Rattle.office_books.specs.KeyIndex.{IsIn}
use Rattle.actor_tree.specs.Kids.{and_numbers, kids_of}
use Rattle.actor_tree.proofs.LookUpLemmas.{record_at}
use Rattle.actor_tree.proofs.PushLemmas.{all_push, all_so}
use Rattle.actor_tree.proofs.SubtreeLemmas.{among_first, among_has, among_last, among_push, below_cases, below_closed, below_rise, in_has, or_true, ParentIsSmaller, RecordsRise, Rise, rise_push, same_numbers, stay_below}

-- ---- a number that is put among others

module _ (k : ℕ) where
  pub insert_all : (P : ℕ → Type 0) (keys : List ℕ) → AllByRecursion P keys → P k → AllByRecursion P (insert_key nat_cmp keys k)
  insert_all P [] all is = (is, tt)
  insert_all P (first ∷ keys) all is = by_order (insert_all P keys all.1 is) (nat_cmp k first)
    where
      by_order : AllByRecursion P (insert_key nat_cmp keys k) → (o : Ordering) → AllByRecursion P (match_ordering o (k ∷ first ∷ keys) (first ∷ keys) (first ∷ insert_key nat_cmp keys k))
      by_order rest Less = (is, all)
      by_order rest Equal = all
      by_order rest Greater = (all.0, rest)

  pub insert_rises : (keys : List ℕ) → Rise keys → Rise (insert_key nat_cmp keys k)
  insert_rises [] rise = (tt, tt)
  insert_rises (first ∷ keys) rise = by_order (insert_rises keys rise.1) (λ less. insert_all (λ (m : ℕ). first < m) keys rise.0 less) (nat_cmp k first) refl
    where
      by_order : Rise (insert_key nat_cmp keys k) → (first < k → AllByRecursion (λ (m : ℕ). first < m) (insert_key nat_cmp keys k)) → (o : Ordering) → o ≡ nat_cmp k first
          → Rise (match_ordering o (k ∷ first ∷ keys) (first ∷ keys) (first ∷ insert_key nat_cmp keys k))
      by_order rest above Less is =
          let less : k < first = ranked k first Less is in
          ((less, all_so (λ (m : ℕ). first < m) (λ (m : ℕ). k < m) keys (λ m more. omega arith) rise.0), rise)
      by_order rest above Equal is = rise
      by_order rest above Greater is = let more : first < k = ranked k first Greater is in (above more, rest)

  pub insert_keeps : (keys : List ℕ) (n : ℕ) → is_among keys n ≡ true → is_among (insert_key nat_cmp keys k) n ≡ true
  insert_keeps [] n is = absurd (true≢false (sym is))
  insert_keeps (first ∷ keys) n is = by_order (insert_keeps keys n) (nat_cmp k first)
    where
      later : (is_among keys n ≡ true → is_among (insert_key nat_cmp keys k) n ≡ true) → (b : Bool) → (b || is_among keys n) ≡ true → (b || is_among (insert_key nat_cmp keys k) n) ≡ true
      later rest true is = refl
      later rest false is = rest is

      by_order : (is_among keys n ≡ true → is_among (insert_key nat_cmp keys k) n ≡ true) → (o : Ordering) → is_among (match_ordering o (k ∷ first ∷ keys) (first ∷ keys) (first ∷ insert_key nat_cmp keys k)) n ≡ true
      by_order rest Less = ap (λ (b : Bool). nat_eq n k || b) is ∙ or_true (nat_eq n k)
      by_order rest Equal = is
      by_order rest Greater = later rest (nat_eq n first) is

  pub insert_has : (keys : List ℕ) → is_among (insert_key nat_cmp keys k) k ≡ true
  insert_has [] = among_first k []
  insert_has (first ∷ keys) = by_order (insert_has keys) (nat_cmp k first) refl
    where
      by_order : is_among (insert_key nat_cmp keys k) k ≡ true → (o : Ordering) → o ≡ nat_cmp k first → is_among (match_ordering o (k ∷ first ∷ keys) (first ∷ keys) (first ∷ insert_key nat_cmp keys k)) k ≡ true
      by_order rest Less is = among_first k (first ∷ keys)
      by_order rest Equal is = let same : k ≡ first = ranked k first Equal is in ap (λ (b : Bool). b || is_among keys k) (eq-eqb k first same)
      by_order rest Greater is = ap (λ (b : Bool). nat_eq k first || b) rest ∙ or_true (nat_eq k first)

-- ---- numbers of children

pub and_all : (P : ℕ → Type 0) (kids : List (List ℕ × ℕ)) (keys : List ℕ) → AllByRecursion P keys → AllByRecursion (λ (kid : List ℕ × ℕ). P kid.1) kids → AllByRecursion P (and_numbers keys kids)
and_all P [] keys all fit = all
and_all P (kid ∷ kids) keys all fit = and_all P kids (insert_key nat_cmp keys kid.1) (insert_all kid.1 P keys all fit.0) fit.1

pub and_rises : (kids : List (List ℕ × ℕ)) (keys : List ℕ) → Rise keys → Rise (and_numbers keys kids)
and_rises [] keys rise = rise
and_rises (kid ∷ kids) keys rise = and_rises kids (insert_key nat_cmp keys kid.1) (insert_rises kid.1 keys rise)

pub and_keeps : (kids : List (List ℕ × ℕ)) (keys : List ℕ) (n : ℕ) → is_among keys n ≡ true → is_among (and_numbers keys kids) n ≡ true
and_keeps [] keys n is = is
and_keeps (kid ∷ kids) keys n is = and_keeps kids (insert_key nat_cmp keys kid.1) n (insert_keeps kid.1 keys n is)

pub and_has : (kids : List (List ℕ × ℕ)) (keys : List ℕ) → AllByRecursion (λ (kid : List ℕ × ℕ). is_among (and_numbers keys kids) kid.1 ≡ true) kids
and_has [] keys = tt
and_has (kid ∷ kids) keys = (and_keeps kids (insert_key nat_cmp keys kid.1) kid.1 (insert_has kid.1 keys), and_has kids (insert_key nat_cmp keys kid.1))

-- ---- how far the walk is

-- the number was looked at, or waits for it
abbrev pub Reached : List ℕ → List ℕ → ℕ → Type 0
Reached found pending n = (is_among found n ≡ true) ⊎ (is_among pending n ≡ true)

-- above all numbers of a walk
abbrev pub walk_bound : OfficeState → ℕ → ℕ
walk_bound state number = number + state.next_actor + 1

-- the number is one of those that the walk is to find
abbrev pub InTree : OfficeState → ℕ → ℕ → Type 0
InTree state number n = (is_among (subtree_of state number) n ≡ true) × (n < walk_bound state number)

-- those looked at come before those that wait, and the children of each of them were reached
pub record IsWalk (state : OfficeState) (number : ℕ) (found pending : List ℕ) : Type 0 where
  pub rises : Rise found
  pub pending_rises : Rise pending
  pub apart : AllByRecursion (λ (n : ℕ). AllByRecursion (λ (m : ℕ). n < m) pending) found
  pub begun : Reached found pending number
  pub sound : AllByRecursion (InTree state number) found
  pub pending_sound : AllByRecursion (InTree state number) pending
  pub closed : AllByRecursion (λ (n : ℕ). AllByRecursion (λ (kid : List ℕ × ℕ). Reached found pending kid.1) (kids_of state n)) found

pub found_in : (n : ℕ) (actors : List ActorRecord) (a : ActorRecord) → record_at n actors ≡ Some a → IsIn a actors × (a.number ≡ n)
found_in n [] a is = absurd (cc)
found_in n (first ∷ actors) a is = by_number (found_in n actors a) (nat_eq first.number n) refl is
  where
    by_number : (record_at n actors ≡ Some a → IsIn a actors × (a.number ≡ n)) → (b : Bool) → nat_eq first.number n ≡ b → cond b (Some first) (record_at n actors) ≡ Some a → IsIn a (first ∷ actors) × (a.number ≡ n)
    by_number rest true here is = let same : first ≡ a = cc in (inl same, ap (λ (z : ActorRecord). z.number) (sym same) ∙ eqb-true first.number n here)
    by_number rest false here is = let later = rest is in (inr later.0, later.1)

-- a child that is listed is one of those that all have something
listed_has : (P : ℕ → Type 0) (n : ℕ) (kids : List (List ℕ × ℕ)) → count_by (is_kid n) kids ≡ 1 → AllByRecursion (λ (kid : List ℕ × ℕ). P kid.1) kids → P n
listed_has P n [] one all = absurd (omega (arith, one))
listed_has P n (kid ∷ kids) one all =
    let whole : count_by (is_kid n) (kid ∷ kids) ≡ cond (is_kid n kid) 1 0 + count_by (is_kid n) kids = sum_by-cons (λ (kid : List ℕ × ℕ). cond (is_kid n kid) 1 0) kid kids in
    by_test (listed_has P n kids) (nat_eq kid.1 n) refl whole
  where
    by_test : (count_by (is_kid n) kids ≡ 1 → AllByRecursion (λ (kid : List ℕ × ℕ). P kid.1) kids → P n) → (b : Bool) → nat_eq kid.1 n ≡ b → count_by (is_kid n) (kid ∷ kids) ≡ cond b 1 0 + count_by (is_kid n) kids → P n
    by_test rest true is whole = subst P (eqb-true kid.1 n is) all.0
    by_test rest false is whole = rest (omega (arith, whole, one)) all.1

at_some : {X : Type 0} (P : X → Type 0) (o : Option X) (x : X) → IfSome o P → o ≡ Some x → P x
at_some P None x is e = absurd (cc)
at_some P (Some y) x is e = let same : y ≡ x = cc in subst P same is

chained : (o : Option ActorRecord) (p : ℕ) → option_and_then (λ (actor : ActorRecord). actor.parent) o ≡ Some p → (a : ActorRecord) × (o ≡ Some a) × (a.parent ≡ Some p)
chained None p is = absurd (cc)
chained (Some a) p is = (a, refl, is)

-- numbers that rise from one on are no more than there are up to a bound
rise_length : (numbers : List ℕ) (low bound : ℕ) → Rise numbers → AllByRecursion (λ (n : ℕ). low ≤ n) numbers → AllByRecursion (λ (n : ℕ). n < bound) numbers → low ≤ bound → length numbers + low ≤ bound
rise_length [] low bound rise from below within = omega (arith, within)
rise_length (first ∷ numbers) low bound rise from below within =
    let rest : length numbers + (first + 1) ≤ bound = rise_length numbers (first + 1) bound rise.1 (all_so (λ (n : ℕ). first < n) (λ (n : ℕ). first + 1 ≤ n) numbers (λ n less. omega arith) rise.0) below.1 (omega (arith, below.0)) in
    omega (arith, rest, from.0)

-- numbers that are less than those after them rise
pub valid_rise : (actors : List ActorRecord) → AllPairs (λ (m n : ℕ). m < n) (map (λ (actor : ActorRecord). actor.number) actors) → RecordsRise actors
valid_rise [] all = tt
valid_rise (first ∷ actors) all = (
  of_map actors (recursion_from_All (λ (n : ℕ). first.number < n) (map (λ (actor : ActorRecord). actor.number) actors) (λ k d within. all 0 (suc k) d (omega arith) (omega arith))),
  valid_rise actors (λ i j d before within. all (suc i) (suc j) d (omega arith) (omega arith)),
) where
  of_map : (actors : List ActorRecord) → AllByRecursion (λ (n : ℕ). first.number < n) (map (λ (actor : ActorRecord). actor.number) actors) → AllByRecursion (λ (actor : ActorRecord). first.number < actor.number) actors
  of_map [] all = tt
  of_map (other ∷ actors) all = (all.0, of_map actors all.1)

-- a set without a first number is empty
pub no_keys : (o : Option ℕ) (keys : List ℕ) → o ≡ None → (0 < length keys → IsSome o) → keys ≡ []
no_keys o [] none some = refl
no_keys o (key ∷ keys) none some = absurd (let is : IsSome o = some (omega arith) in none_some o none is)
  where
    none_some : (o : Option ℕ) → o ≡ None → IsSome o → ⊥
    none_some None e is = absurd (cc)
    none_some (Some n) e is = absurd (cc)

module _ (definitions : OfficeDefinitions) (state : OfficeState) (rise : RecordsRise state.actors) (each : AllByRecursion (IsActor definitions state) state.actors) where
  child_of : (a : ActorRecord) (p : ℕ) → IsActor definitions state a → a.parent ≡ Some p → IsChildOf state a p
  child_of a p is parent = at_some (IsChildOf state a) a.parent p is.parent parent

  smaller : AllByRecursion ParentIsSmaller state.actors
  smaller = all_so (IsActor definitions state) ParentIsSmaller state.actors (λ a is p parent. (child_of a p is parent).smaller) each

  -- the children of an actor have it as their parent
  kids_fit : (k : ℕ) → AllByRecursion (λ (kid : List ℕ × ℕ). HasParent state k kid.1) (kids_of state k)
  kids_fit k = by_record (actor_record state k) refl
    where
      by_record : (o : Option ActorRecord) → actor_record state k ≡ o → AllByRecursion (λ (kid : List ℕ × ℕ). HasParent state k kid.1) (option_map_or (λ (actor : ActorRecord). actor.kids) o [])
      by_record None is = tt
      by_record (Some a) is =
          let there = found_in k state.actors a is in
          let actor = in_has (IsActor definitions state) state.actors a each there.0 in
          subst (λ (n : ℕ). AllByRecursion (λ (kid : List ℕ × ℕ). HasParent state n kid.1) a.kids) there.1 (recursion_from_All (λ (kid : List ℕ × ℕ). HasParent state a.number kid.1) a.kids actor.kids)

  module _ (number : ℕ) where
    -- and stand below it
    kid_below : (k n : ℕ) → is_among (subtree_of state number) k ≡ true → HasParent state k n → InTree state number n × (k < n)
    unfolding subtree_of
    kid_below k n above has =
        let seen = chained (actor_record state n) k has in
        let there = found_in n state.actors seen.0 seen.1 in
        let actor = in_has (IsActor definitions state) state.actors seen.0 each there.0 in
        let same : seen.0.number ≡ n = there.1 in
        let child = child_of seen.0 k actor seen.2 in (
          (
            subst (λ (m : ℕ). is_among (subtree_of state number) m ≡ true) same (below_closed state.actors (number ∷ []) seen.0 k rise smaller there.0 seen.2 above),
            omega (arith, actor.number.1, same),
          ),
          omega (arith, child.smaller, same),
        )

    kids_below : (k : ℕ) → is_among (subtree_of state number) k ≡ true → AllByRecursion (λ (kid : List ℕ × ℕ). InTree state number kid.1 × (k < kid.1)) (kids_of state k)
    kids_below k above = all_so (λ (kid : List ℕ × ℕ). HasParent state k kid.1) (λ (kid : List ℕ × ℕ). InTree state number kid.1 × (k < kid.1)) (kids_of state k) (λ kid has. kid_below k kid.1 above has) (kids_fit k)

    pub walk_begins : IsWalk state number [] (number ∷ [])
    unfolding subtree_of
    walk_begins = record {
      rises = tt;
      pending_rises = (tt, tt);
      apart = tt;
      begun = inr (among_first number []);
      sound = tt;
      pending_sound = ((stay_below state.actors (number ∷ []) number (among_first number []), omega arith), tt);
      closed = tt;
    }

    goes_on : (found rest : List ℕ) (kids : List (List ℕ × ℕ)) (k n : ℕ) → Reached found (k ∷ rest) n → Reached (found ++ k ∷ []) (and_numbers rest kids) n
    goes_on found rest kids k n (inl is) = inl (among_push found k n is)
    goes_on found rest kids k n (inr is) = by_test (nat_eq n k) refl is
      where
        by_test : (b : Bool) → nat_eq n k ≡ b → (b || is_among rest n) ≡ true → Reached (found ++ k ∷ []) (and_numbers rest kids) n
        by_test true same is = inl (subst (λ (m : ℕ). is_among (found ++ k ∷ []) m ≡ true) (sym (eqb-true n k same)) (among_last found k))
        by_test false same is = inr (and_keeps kids rest n is)

    pub walk_on : (k : ℕ) (found rest : List ℕ) → IsWalk state number found (k ∷ rest) → IsWalk state number (found ++ k ∷ []) (and_numbers rest (kids_of state k))
    walk_on k found rest walk =
        let kids : List (List ℕ × ℕ) = kids_of state k in
        let fit = kids_below k walk.pending_sound.0.0 in
        let pending : List ℕ = and_numbers rest kids in
        record {
          rises = rise_push found k walk.rises (all_so (λ (n : ℕ). AllByRecursion (λ (m : ℕ). n < m) (k ∷ rest)) (λ (n : ℕ). n < k) found (λ n all. all.0) walk.apart);
          pending_rises = and_rises kids rest walk.pending_rises.1;
          apart = all_push (λ (n : ℕ). AllByRecursion (λ (m : ℕ). n < m) pending) found k
              (all_so (λ (n : ℕ). AllByRecursion (λ (m : ℕ). n < m) (k ∷ rest)) (λ (n : ℕ). AllByRecursion (λ (m : ℕ). n < m) pending) found
              (λ n all. and_all (λ (m : ℕ). n < m) kids rest all.1 (all_so (λ (kid : List ℕ × ℕ). InTree state number kid.1 × (k < kid.1)) (λ (kid : List ℕ × ℕ). n < kid.1) kids (λ kid is. omega (arith, all.0, is.1)) fit)) walk.apart)
              (and_all (λ (m : ℕ). k < m) kids rest walk.pending_rises.0 (all_so (λ (kid : List ℕ × ℕ). InTree state number kid.1 × (k < kid.1)) (λ (kid : List ℕ × ℕ). k < kid.1) kids (λ kid is. is.1) fit));
          begun = goes_on found rest kids k number walk.begun;
          sound = all_push (InTree state number) found k walk.sound walk.pending_sound.0;
          pending_sound = and_all (InTree state number) kids rest walk.pending_sound.1 (all_so (λ (kid : List ℕ × ℕ). InTree state number kid.1 × (k < kid.1)) (λ (kid : List ℕ × ℕ). InTree state number kid.1) kids (λ kid is. is.0) fit);
          closed = all_push (λ (n : ℕ). AllByRecursion (λ (kid : List ℕ × ℕ). Reached (found ++ k ∷ []) pending kid.1) (kids_of state n)) found k
              (all_so (λ (n : ℕ). AllByRecursion (λ (kid : List ℕ × ℕ). Reached found (k ∷ rest) kid.1) (kids_of state n)) (λ (n : ℕ). AllByRecursion (λ (kid : List ℕ × ℕ). Reached (found ++ k ∷ []) pending kid.1) (kids_of state n)) found
              (λ n all. all_so (λ (kid : List ℕ × ℕ). Reached found (k ∷ rest) kid.1) (λ (kid : List ℕ × ℕ). Reached (found ++ k ∷ []) pending kid.1) (kids_of state n) (λ kid is. goes_on found rest kids k kid.1 is) all) walk.closed)
              (all_so (λ (kid : List ℕ × ℕ). is_among pending kid.1 ≡ true) (λ (kid : List ℕ × ℕ). Reached (found ++ k ∷ []) pending kid.1) kids (λ kid is. inr is) (and_has kids rest));
        }

    -- fewer were looked at than there are below the bound
    pub walk_short : (k : ℕ) (found rest : List ℕ) → IsWalk state number found (k ∷ rest) → length found < walk_bound state number
    walk_short k found rest walk =
        let within : length found + 0 ≤ k = rise_length found 0 k walk.rises (all_so (InTree state number) (λ (n : ℕ). 0 ≤ n) found (λ n is. omega arith) walk.sound)
        (all_so (λ (n : ℕ). AllByRecursion (λ (m : ℕ). n < m) (k ∷ rest)) (λ (n : ℕ). n < k) found (λ n all. all.0) walk.apart) (omega arith) in
        omega (arith, within, walk.pending_sound.0.1)

    only_number : (n : ℕ) → is_among (number ∷ []) n ≡ true → n ≡ number
    only_number n is = by_test (nat_eq n number) refl is
      where
        by_test : (b : Bool) → nat_eq n number ≡ b → (b || false) ≡ true → n ≡ number
        by_test true same is = eqb-true n number same
        by_test false same is = absurd (true≢false (sym is))

    was_found : (found : List ℕ) (n : ℕ) → Reached found [] n → is_among found n ≡ true
    was_found found n (inl is) = is
    was_found found n (inr is) = absurd (true≢false (sym is))

    -- at its end all were found
    complete : (found : List ℕ) → IsWalk state number found [] → (fuel n : ℕ) → n < fuel → is_among (subtree_of state number) n ≡ true → is_among found n ≡ true
    unfolding subtree_of
    complete found walk zero n less is = absurd (omega (arith, less))
    complete found walk (suc fuel) n less is =
        elim (below_cases state.actors (number ∷ []) n is) [
          | inl first ↦ subst (λ (m : ℕ). is_among found m ≡ true) (sym (only_number n first)) (was_found found number walk.begun)
          | inr below ↦ (
              let actor = in_has (IsActor definitions state) state.actors below.actor each below.is_in in
              let child = child_of below.actor below.parent actor below.parent_is in
              let up = complete found walk fuel below.parent (omega (arith, child.smaller, below.number, less)) below.above in
              let kids = among_has (λ (n : ℕ). AllByRecursion (λ (kid : List ℕ × ℕ). Reached found [] kid.1) (kids_of state n)) found below.parent walk.closed up in
              let its : AllByRecursion (λ (kid : List ℕ × ℕ). Reached found [] kid.1) child.parent.kids =
              subst (λ (o : Option ActorRecord). AllByRecursion (λ (kid : List ℕ × ℕ). Reached found [] kid.1) (option_map_or (λ (actor : ActorRecord). actor.kids) o [])) child.record' kids in
              subst (λ (m : ℕ). is_among found m ≡ true) below.number (was_found found below.actor.number (listed_has (Reached found []) below.actor.number child.parent.kids child.listed its)))
        ]

    pub walk_done : (found : List ℕ) → IsWalk state number found [] → found ≡ subtree_of state number
    unfolding subtree_of
    walk_done found walk =
        same_numbers found (subtree_of state number) walk.rises
        (below_rise number state.actors (number ∷ []) rise smaller (tt, tt) (omega arith, tt) (inl refl, tt))
        (λ n is. (among_has (InTree state number) found n walk.sound is).0)
        (λ n is. complete found walk (n + 1) n (omega arith) is)
