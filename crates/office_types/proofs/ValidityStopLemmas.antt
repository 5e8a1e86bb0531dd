-- A child is removed with all below it, and what is left is a tree of actors.
use Rattle.std.proofs.Common.{◌≡◌, ◌≢◌, inl, inr, ℕ, ◌+◌, ◌<◌, ◌≤◌, Bool, true, false, cond, not, true≢false, List, [], ◌∷◌, map, refl, sym, ap, subst, ◌∙◌, arith}
use Rattle.std.specs.Prelude.{Option, None, Some, filter, count_by, nat_eq, if◌then◌else◌}
use Rattle.std.specs.List.{AllByRecursion}
use Rattle.std.specs.Map.{lookup}
use Rattle.std.specs.Option.{option_and_then, option_map}
use Rattle.std.specs.Str.{bytes_eq}
use Rattle.std.proofs.lemmas.Bool.{cases_Bool, eqb-true, eqb-false, eq-eqb, ne_eqb}
use Rattle.std.proofs.lemmas.List.Sums.{sum_by-cons}
use Rattle.std.proofs.lemmas.Slice.Eq.{bytes_eq-Decides}
use Rattle.office_types.specs.declared.office.ActorRecord.{ActorRecord}
use Rattle.office_types.specs.Effects.{without_kid}
use Rattle.office_types.specs.Ends.{is_among}
use Rattle.office_types.specs.Records.{is_active}
use Rattle.office_types.specs.ValidOffice.{IsGiven, is_kid}
use Rattle.office_types.proofs.ValidityListLemmas.{EachPair, change_at, at_number, at_same, count_passing, none_counted, each_both, each_filter, each_map, each_mono, each_passing, look_filter, look_map, look_number, pairs_filter, rises_at}
use Rattle.office_types.proofs.ValidityTreeLemmas.{ChildIn, ActorTree, among_itself, among_one, all_below, below_cases, below_closed, below_found, below_from, chained, mapped, number_of, parent_in, parent_smaller, parents_smaller, record_in, within_same}

-- ---- bytes

pub same_bytes : (a b : List ℕ) → bytes_eq a b ≡ true → a ≡ b
same_bytes a b is = (bytes_eq-Decides a b).0 is

pub bytes_same : (a b : List ℕ) → a ≡ b → bytes_eq a b ≡ true
bytes_same a b is = (bytes_eq-Decides a b).1 is

-- ---- the child with an id

-- the child that an id finds is listed under it
pub found_kid : (P : List ℕ × ℕ → Type 0) (id : List ℕ) (x : ℕ) (kids : List (List ℕ × ℕ)) → AllByRecursion P kids → lookup (bytes_eq id) kids ≡ Some x → (kid : List ℕ × ℕ) × P kid × (kid.0 ≡ id) × (kid.1 ≡ x)
found_kid P id x [] all found = absurd (cc)
found_kid P id x (kid ∷ kids) all found = by_test (found_kid P id x kids all.1) (bytes_eq id kid.0) refl found where
  by_test : (lookup (bytes_eq id) kids ≡ Some x → (kid : List ℕ × ℕ) × P kid × (kid.0 ≡ id) × (kid.1 ≡ x)) → (b : Bool) → bytes_eq id kid.0 ≡ b → cond b (Some kid.1) (lookup (bytes_eq id) kids) ≡ Some x
      → (kid : List ℕ × ℕ) × P kid × (kid.0 ≡ id) × (kid.1 ≡ x)
  by_test rest true is found = (kid, all.0, sym (same_bytes id kid.0 is), cc)
  by_test rest false is found = rest found

-- where ids differ, whoever has the id is the child that it finds
pub only_kid : (id : List ℕ) (x : ℕ) (kids : List (List ℕ × ℕ)) → EachPair (λ (a b : List ℕ × ℕ). a.0 ≢ b.0) kids → lookup (bytes_eq id) kids ≡ Some x
    → AllByRecursion (λ (kid : List ℕ × ℕ). bytes_eq kid.0 id ≡ true → kid.1 ≡ x) kids
only_kid id x [] differ found = tt
only_kid id x (kid ∷ kids) differ found = by_test (only_kid id x kids differ.1) (bytes_eq id kid.0) refl found where
  by_test : (lookup (bytes_eq id) kids ≡ Some x → AllByRecursion (λ (kid : List ℕ × ℕ). bytes_eq kid.0 id ≡ true → kid.1 ≡ x) kids) → (b : Bool) → bytes_eq id kid.0 ≡ b
      → cond b (Some kid.1) (lookup (bytes_eq id) kids) ≡ Some x → AllByRecursion (λ (kid : List ℕ × ℕ). bytes_eq kid.0 id ≡ true → kid.1 ≡ x) (kid ∷ kids)
  by_test rest true is found = (
    λ same. cc,
    each_mono (λ (other : List ℕ × ℕ). kid.0 ≢ other.0) (λ (other : List ℕ × ℕ). bytes_eq other.0 id ≡ true → other.1 ≡ x) kids
        (λ other differs same. absurd (differs (sym (same_bytes id kid.0 is) ∙ sym (same_bytes other.0 id same)))) differ.0,
  )
  by_test rest false is found = (λ same. absurd (true≢false (sym (bytes_same id kid.0 (sym (same_bytes kid.0 id same))) ∙ is)), rest found)

counts_found : (id : List ℕ) (x : ℕ) (kids : List (List ℕ × ℕ)) → lookup (bytes_eq id) kids ≡ Some x → 0 < count_by (is_kid x) kids
counts_found id x [] found = absurd (cc)
counts_found id x (kid ∷ kids) found = by_test (counts_found id x kids) (bytes_eq id kid.0) found where
  by_test : (lookup (bytes_eq id) kids ≡ Some x → 0 < count_by (is_kid x) kids) → (b : Bool) → cond b (Some kid.1) (lookup (bytes_eq id) kids) ≡ Some x → 0 < count_by (is_kid x) (kid ∷ kids)
  by_test rest true found =
      let same : kid.1 ≡ x = cc in
      omega (arith, sum_by-cons (λ (k : List ℕ × ℕ). cond (is_kid x k) 1 0) kid kids, ap {B = ℕ} (λ (b : Bool). cond b 1 0) (eq-eqb kid.1 x same))
  by_test rest false found = omega (arith, sum_by-cons (λ (k : List ℕ × ℕ). cond (is_kid x k) 1 0) kid kids, rest found)

-- where the child is listed once, it is so under the id that finds it
pub only_id : (id : List ℕ) (x : ℕ) (kids : List (List ℕ × ℕ)) → count_by (is_kid x) kids ≡ 1 → lookup (bytes_eq id) kids ≡ Some x
    → AllByRecursion (λ (kid : List ℕ × ℕ). kid.1 ≡ x → bytes_eq kid.0 id ≡ true) kids
only_id id x [] once found = tt
only_id id x (kid ∷ kids) once found =
    by_test (only_id id x kids) (sum_by-cons (λ (k : List ℕ × ℕ). cond (is_kid x k) 1 0) kid kids) (bytes_eq id kid.0) refl found (is_kid x kid) refl where
      by_test : (count_by (is_kid x) kids ≡ 1 → lookup (bytes_eq id) kids ≡ Some x → AllByRecursion (λ (kid : List ℕ × ℕ). kid.1 ≡ x → bytes_eq kid.0 id ≡ true) kids)
          → count_by (is_kid x) (kid ∷ kids) ≡ cond (is_kid x kid) 1 0 + count_by (is_kid x) kids
          → (b : Bool) → bytes_eq id kid.0 ≡ b → cond b (Some kid.1) (lookup (bytes_eq id) kids) ≡ Some x → (c : Bool) → is_kid x kid ≡ c
          → AllByRecursion (λ (kid : List ℕ × ℕ). kid.1 ≡ x → bytes_eq kid.0 id ≡ true) (kid ∷ kids)
      by_test rest whole true is found true counted = (
        λ same. bytes_same kid.0 id (sym (same_bytes id kid.0 is)),
        each_mono (λ (other : List ℕ × ℕ). is_kid x other ≡ false) (λ (other : List ℕ × ℕ). other.1 ≡ x → bytes_eq other.0 id ≡ true) kids (λ other none same. absurd (eqb-false other.1 x none same))
            (none_counted (is_kid x) kids (omega (arith, ap {B = ℕ} (λ (b : Bool). cond b 1 0) counted))),
      )
      by_test rest whole true is found false counted = let same : kid.1 ≡ x = cc in absurd (eqb-false kid.1 x counted same)
      by_test rest whole false is found true counted = absurd (omega (arith, counts_found id x kids found, ap {B = ℕ} (λ (b : Bool). cond b 1 0) counted))
      by_test rest whole false is found false counted =
          (λ same. absurd (eqb-false kid.1 x counted same), rest (omega (arith, ap {B = ℕ} (λ (b : Bool). cond b 1 0) counted)) found)

-- ---- the tree without the child

module _ (next : ℕ) (actors : List ActorRecord) (tree : ActorTree next actors) (n : ℕ) (parent : ActorRecord) (id : List ℕ) (x : ℕ) (seen : record_in actors n ≡ Some parent)
    (differ : EachPair (λ (a b : List ℕ × ℕ). a.0 ≢ b.0) parent.kids) (found : lookup (bytes_eq id) parent.kids ≡ Some x) where
  abbrev gone : List ℕ
  gone = all_below actors (x ∷ [])

  abbrev stays : ℕ → Bool
  stays m = not (is_among gone m)

  abbrev release : ActorRecord → ActorRecord
  release = change_at number_of n (without_kid id)

  abbrev pub without_child_in : List ActorRecord
  without_child_in = map release (filter (λ (actor : ActorRecord). not (is_among gone actor.number)) actors)

  same_number : (a : ActorRecord) → (release a).number ≡ a.number
  same_number a = at_number number_of n (without_kid id) (λ z. refl) a

  same_parent : (a : ActorRecord) → (release a).parent ≡ a.parent
  same_parent a = at_same number_of (λ (z : ActorRecord). z.parent) n (without_kid id) (λ z. refl) a

  same_active : (a : ActorRecord) → is_active (release a) ≡ is_active a
  same_active a = at_same number_of is_active n (without_kid id) (λ z. refl) a

  looks : (m : ℕ) → record_in without_child_in m ≡ option_map release (if stays m then record_in actors m else None)
  looks m = look_map number_of release same_number (filter (λ (actor : ActorRecord). not (is_among gone actor.number)) actors) m ∙ ap (option_map release) (look_filter number_of stays actors m)

  pub stopped_seen : (m : ℕ) (a : ActorRecord) → record_in actors m ≡ Some a → is_among gone m ≡ false → record_in without_child_in m ≡ Some (release a)
  stopped_seen m a there kept = looks m ∙ ap (λ (b : Bool). option_map release (if not b then record_in actors m else None)) kept ∙ ap (option_map release) there

  pub stopped_cases : (m : ℕ) (b : ActorRecord) → record_in without_child_in m ≡ Some b → (a : ActorRecord) × (record_in actors m ≡ Some a) × (is_among gone m ≡ false) × (release a ≡ b)
  stopped_cases m b there = by_test (is_among gone m) refl (sym (looks m) ∙ there) where
    by_test : (t : Bool) → is_among gone m ≡ t → option_map release (if not t then record_in actors m else None) ≡ Some b → (a : ActorRecord) × (record_in actors m ≡ Some a) × (is_among gone m ≡ false) × (release a ≡ b)
    by_test true is there = absurd (cc)
    by_test false is there = let before = mapped release (record_in actors m) b there in (before.0, before.1, is, before.2)

  pub stopped_parent : (m : ℕ) → is_among gone m ≡ false → parent_in without_child_in m ≡ parent_in actors m
  stopped_parent m kept =
      ap (option_and_then (λ (z : ActorRecord). z.parent)) (looks m ∙ ap (λ (b : Bool). option_map release (if not b then record_in actors m else None)) kept) ∙ by_record (record_in actors m) where
        by_record : (o : Option ActorRecord) → option_and_then (λ (z : ActorRecord). z.parent) (option_map release o) ≡ option_and_then (λ (z : ActorRecord). z.parent) o
        by_record None = refl
        by_record (Some a) = same_parent a

  -- the parent of one that stays stays
  up_stays : (m : ℕ) (a : ActorRecord) (p : ℕ) → record_in actors m ≡ Some a → a.parent ≡ Some p → is_among gone m ≡ false → is_among gone p ≡ false
  up_stays m a p there its_parent kept = elim (cases_Bool (is_among gone p)) [
    | inl is ↦ absurd (true≢false (sym (below_closed actors (x ∷ []) m p a tree.rise (parents_smaller next actors tree) there its_parent is) ∙ kept))
    | inr is ↦ is
  ]

  -- a child of one that stays does so too, unless it is the one that is stopped
  down_stays : (m c : ℕ) → parent_in actors c ≡ Some m → is_among gone m ≡ false → c ≢ x → is_among gone c ≡ false
  down_stays m c its_parent kept other = elim (cases_Bool (is_among gone c)) [
    | inl is ↦ elim (below_cases actors (x ∷ []) c tree.rise is) [
      | inl first ↦ absurd (other (among_one x c first))
      | inr (a, p, there, up, among) ↦ absurd (
          let same : Some m ≡ Some p = sym its_parent ∙ ap (option_and_then (λ (z : ActorRecord). z.parent)) there ∙ up in
          let same_p : m ≡ p = cc in
          true≢false (sym among ∙ ap (is_among gone) (sym same_p) ∙ kept))
    ]
    | inr is ↦ is
  ]

  child_parent : parent_in actors x ≡ Some n
  child_parent =
      let kid = found_kid (λ (k : List ℕ × ℕ). parent_in actors k.1 ≡ Some n) id x parent.kids (tree.kids n parent seen) found in
      ap (parent_in actors) (sym kid.3) ∙ kid.1

  pub parent_stays : is_among gone n ≡ false
  parent_stays = elim (cases_Bool (is_among gone n)) [
    | inl is ↦ absurd (
        let less : n < x = parent_smaller next actors tree x n child_parent in
        let from : x ≤ n = below_from actors (x ∷ []) x (parents_smaller next actors tree) (λ m first. (let same : m ≡ x = among_one x m first in omega arith)) n is in
        omega arith)
    | inr is ↦ is
  ]

  child_gone : is_among gone x ≡ true
  child_gone = below_found actors (x ∷ []) x (among_itself x)

  listed_once : count_by (is_kid x) parent.kids ≡ 1
  listed_once =
      let up = chained (λ (z : ActorRecord). z.parent) (record_in actors x) n child_parent in
      let child = tree.parents x up.0 n up.1 up.2 in
      let same_record : Some child.above ≡ Some parent = sym child.seen ∙ seen in
      let same : child.above ≡ parent = cc in
      ap (λ (z : ActorRecord). count_by (is_kid x) z.kids) (sym same) ∙ ap (λ (m : ℕ). count_by (is_kid m) child.above.kids) (sym (look_number number_of actors x up.0 up.1)) ∙ child.listed

  turned : (b : Bool) → not b ≡ false → b ≡ true
  turned true is = refl
  turned false is = sym is

  passing : (b : Bool) → not b ≡ true → b ≡ false
  passing true is = sym is
  passing false is = refl

  listed : (a : ActorRecord) (p c : ℕ) → record_in actors p ≡ Some a → is_among gone c ≡ false → count_by (is_kid c) (release a).kids ≡ count_by (is_kid c) a.kids
  listed a p c there kept = by_test (nat_eq a.number n) refl where
    by_test : (b : Bool) → nat_eq a.number n ≡ b → count_by (is_kid c) (if b then without_kid id a else a).kids ≡ count_by (is_kid c) a.kids
    by_test true is =
        let at_n : p ≡ n = sym (look_number number_of actors p a there) ∙ eqb-true a.number n is in
        let same_record : Some a ≡ Some parent = sym there ∙ ap (record_in actors) at_n ∙ seen in
        let same : a ≡ parent = cc in
        let whose : AllByRecursion (λ (kid : List ℕ × ℕ). bytes_eq kid.0 id ≡ true → kid.1 ≡ x) a.kids =
        subst (λ (z : ActorRecord). AllByRecursion (λ (kid : List ℕ × ℕ). bytes_eq kid.0 id ≡ true → kid.1 ≡ x) z.kids) (sym same) (only_kid id x parent.kids differ found) in
        count_passing (is_kid c) (λ (kid : List ℕ × ℕ). not (bytes_eq kid.0 id)) a.kids
        (each_mono (λ (kid : List ℕ × ℕ). bytes_eq kid.0 id ≡ true → kid.1 ≡ x) (λ (kid : List ℕ × ℕ). not (bytes_eq kid.0 id) ≡ false → is_kid c kid ≡ false) a.kids
        (λ kid whose left. ne_eqb kid.1 c (λ e. true≢false (sym child_gone ∙ ap (is_among gone) (sym (whose (turned (bytes_eq kid.0 id) left)) ∙ e) ∙ kept))) whose)
    by_test false is = refl

  kids_stay : (m : ℕ) (a : ActorRecord) → record_in actors m ≡ Some a → is_among gone m ≡ false → AllByRecursion (λ (kid : List ℕ × ℕ). parent_in without_child_in kid.1 ≡ Some m) (release a).kids
  kids_stay m a there kept = by_test (nat_eq a.number n) refl where
    by_test : (b : Bool) → nat_eq a.number n ≡ b → AllByRecursion (λ (kid : List ℕ × ℕ). parent_in without_child_in kid.1 ≡ Some m) (if b then without_kid id a else a).kids
    by_test true is =
        let at_n : m ≡ n = sym (look_number number_of actors m a there) ∙ eqb-true a.number n is in
        let same_record : Some a ≡ Some parent = sym there ∙ ap (record_in actors) at_n ∙ seen in
        let same : a ≡ parent = cc in
        let whose : AllByRecursion (λ (kid : List ℕ × ℕ). kid.1 ≡ x → bytes_eq kid.0 id ≡ true) a.kids =
        subst (λ (z : ActorRecord). AllByRecursion (λ (kid : List ℕ × ℕ). kid.1 ≡ x → bytes_eq kid.0 id ≡ true) z.kids) (sym same) (only_id id x parent.kids listed_once found) in
        each_passing (λ (kid : List ℕ × ℕ). (parent_in actors kid.1 ≡ Some m) × (kid.1 ≡ x → bytes_eq kid.0 id ≡ true)) (λ (kid : List ℕ × ℕ). parent_in without_child_in kid.1 ≡ Some m)
        (λ (kid : List ℕ × ℕ). not (bytes_eq kid.0 id)) a.kids
        (λ kid facts left. stopped_parent kid.1 (down_stays m kid.1 facts.0 kept (λ e. true≢false (sym (facts.1 e) ∙ passing (bytes_eq kid.0 id) left))) ∙ facts.0)
        (each_both (λ (kid : List ℕ × ℕ). parent_in actors kid.1 ≡ Some m) (λ (kid : List ℕ × ℕ). kid.1 ≡ x → bytes_eq kid.0 id ≡ true) a.kids (tree.kids m a there) whose)
    by_test false is =
        each_mono (λ (kid : List ℕ × ℕ). parent_in actors kid.1 ≡ Some m) (λ (kid : List ℕ × ℕ). parent_in without_child_in kid.1 ≡ Some m) a.kids
        (λ kid up. stopped_parent kid.1 (down_stays m kid.1 up kept (λ e. (
        let both : Some n ≡ Some m = sym child_parent ∙ ap (parent_in actors) (sym e) ∙ up in
        let same : n ≡ m = cc in
        eqb-false a.number n is (look_number number_of actors m a there ∙ sym same)))) ∙ up)
        (tree.kids m a there)

  above : (m : ℕ) (a : ActorRecord) (p : ℕ) → record_in actors m ≡ Some a → is_among gone m ≡ false → a.parent ≡ Some p → ChildIn without_child_in (release a) p
  above m a p there kept up =
      let child = tree.parents m a p there up in
      let at_m : a.number ≡ m = look_number number_of actors m a there in
      record {
        above = release child.above;
        seen = stopped_seen p child.above child.seen (up_stays m a p there up kept);
        smaller = omega (arith, child.smaller, same_number a);
        listed = ap (λ (c : ℕ). count_by (is_kid c) (release child.above).kids) (same_number a) ∙ listed child.above p a.number child.seen (ap (is_among gone) at_m ∙ kept) ∙ child.listed;
        active = λ is. same_active child.above ∙ child.active (sym (same_active a) ∙ is);
      }

  -- what is left is a tree
  pub tree_stop : ActorTree next without_child_in
  tree_stop = record {
    rise = rises_at number_of n (without_kid id) (filter (λ (actor : ActorRecord). not (is_among gone actor.number)) actors) (λ z. refl)
        (pairs_filter (λ (y z : ActorRecord). y.number < z.number) (λ (actor : ActorRecord). not (is_among gone actor.number)) actors tree.rise);
    given = each_map (λ (z : ActorRecord). IsGiven next z.number) release (filter (λ (actor : ActorRecord). not (is_among gone actor.number)) actors)
        (each_mono (λ (z : ActorRecord). IsGiven next z.number) (λ (z : ActorRecord). IsGiven next (release z).number) (filter (λ (actor : ActorRecord). not (is_among gone actor.number)) actors)
        (λ z given. (omega (arith, given.0, same_number z), omega (arith, given.1, same_number z)))
        (each_filter (λ (z : ActorRecord). IsGiven next z.number) (λ (actor : ActorRecord). not (is_among gone actor.number)) actors tree.given));
    parents = λ m b p there up. (
        let before = stopped_cases m b there in
        subst (λ (z : ActorRecord). ChildIn without_child_in z p) before.3 (above m before.0 p before.1 before.2 (sym (same_parent before.0) ∙ ap (λ (z : ActorRecord). z.parent) before.3 ∙ up)));
    kids = λ m b there. (
        let before = stopped_cases m b there in
        subst (λ (z : ActorRecord). AllByRecursion (λ (kid : List ℕ × ℕ). parent_in without_child_in kid.1 ≡ Some m) z.kids) before.3 (kids_stay m before.0 before.1 before.2));
    levels = λ m b there. (
        let before = stopped_cases m b there in
        within_same (λ (k : ℕ). is_among gone k ≡ false) actors without_child_in
        (λ k p kept up. (let a = chained (λ (z : ActorRecord). z.parent) (record_in actors k) p up in up_stays k a.0 p a.1 a.2 kept)) stopped_parent 16 m before.2
        ∙ tree.levels m before.0 before.1);
  }
