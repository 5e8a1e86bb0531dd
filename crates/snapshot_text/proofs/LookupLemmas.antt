-- What a search by halves finds among records that rise by number.
use Rattle.std.proofs.Common.{◌≡◌, ℕ, zero, suc, ◌<◌, ◌+◌, Bool, true, false, List, [], ◌∷◌, length, get_or, map, None, Some, nat_eq, Err, inl, inr, refl, sym, ap, subst, ◌∙◌, arith}
use Rattle.std.specs.Prelude.{find}
use Rattle.std.specs.declared.cmp.Ordering.TheVariants.{Less, Equal, Greater}
use Rattle.std.specs.Ordering.{is_lt, nat_cmp}
use Rattle.std.specs.List.Sorted.{IsBinarySearchResult, IsSortedBy, IsStrictlyIncreasing}
use Rattle.std.proofs.lemmas.Bool.{cases_lt, ne_eqb, eq-eqb}
use Rattle.std.proofs.lemmas.Cmp.{nat_cmp_total, ranked}
use Rattle.std.proofs.lemmas.List.Sorted.{searchable_from_sorted}
use Rattle.office_types.specs.declared.office.ActorRecord.{ActorRecord}
use Rattle.office_types.specs.declared.office.OfficeState.{OfficeState}
use Rattle.office_types.specs.Effects.{is_within_levels}
use Rattle.office_types.specs.Records.{actor_record, parent_actor}
use Rattle.snapshot_text.specs.Validity.{RecordsRise}
use Rattle.snapshot_text.proofs.OrderLemmas.{rises_far}

-- the first that passes
pub find_at : {X : Type 0} (p : X → Bool) (xs : List X) (i : ℕ) (d : X) → i < length xs → p (get_or xs i d) ≡ true → ((k : ℕ) → k < i → p (get_or xs k d) ≡ false) → find p xs ≡ Some (get_or xs i d)
find_at p [] i d inside passes before = absurd (omega arith)
find_at p (x ∷ xs) zero d inside passes before = rw passes refl
find_at p (x ∷ xs) (suc i) d inside passes before =
    rw (before 0 (omega arith)) (find_at p xs i d (omega arith) passes (λ k less. before (suc k) (omega arith)))

pub find_none : {X : Type 0} (p : X → Bool) (xs : List X) → ((k : ℕ) (d : X) → k < length xs → p (get_or xs k d) ≡ false) → find p xs ≡ None
find_none p [] none = refl
find_none p (x ∷ xs) none = rw (none 0 x (omega arith)) (find_none p xs (λ k d inside. none (suc k) d (omega arith)))

less_is : (a b : ℕ) → nat_cmp a b ≡ Less → a < b
less_is a b is = grind (arith, ranked a b Less (sym is))

equal_is : (a b : ℕ) → nat_cmp a b ≡ Equal → a ≡ b
equal_is a b is = grind (arith, ranked a b Equal (sym is))

greater_is : (a b : ℕ) → nat_cmp a b ≡ Greater → b < a
greater_is a b is = grind (arith, ranked a b Greater (sym is))

not_less : (a b : ℕ) → b < a → is_lt (nat_cmp a b) ≡ false
not_less a b less = grind arith

module _ {X : Type 0} (f : X → ℕ) (xs : List X) (n : ℕ) (rising : IsStrictlyIncreasing (map f xs)) where
  pub found_place : (i : ℕ) (d : X) → i < length xs → nat_cmp (f (get_or xs i d)) n ≡ Equal → find (λ (x : X). nat_eq (f x) n) xs ≡ Some (get_or xs i d)
  found_place i d inside equal =
      let here : f (get_or xs i d) ≡ n = equal_is (f (get_or xs i d)) n equal in
      find_at (λ (x : X). nat_eq (f x) n) xs i d inside (eq-eqb (f (get_or xs i d)) n here)
      (λ k less. ne_eqb (f (get_or xs k d)) n (λ same. let lt = rises_far f xs k i d rising less inside in omega arith))

  sorted : IsSortedBy (λ (a b : X). is_lt (nat_cmp (f a) (f b))) xs
  sorted = λ k d low high. not_less (f (get_or xs (k + 1) d)) (f (get_or xs k d)) (rises_far f xs k (k + 1) d rising (omega arith) high)

  pub found_nothing : (i : ℕ) → IsBinarySearchResult (λ (x : X). nat_cmp (f x) n) xs (Err i) → find (λ (x : X). nat_eq (f x) n) xs ≡ None
  found_nothing i parted =
      let parts = parted (searchable_from_sorted nat_cmp_total f xs n sorted) in
      find_none (λ (x : X). nat_eq (f x) n) xs (λ k d inside. ne_eqb (f (get_or xs k d)) n (λ same. elim (cases_lt k i) [
        | inl before ↦ (let less = less_is (f (get_or xs k d)) n (parts.0 k d (omega arith) before) in omega arith)
        | inr from ↦ (let more = greater_is (f (get_or xs k d)) n (parts.1 k d from inside) in omega arith)
      ]))

-- ---- the record of a number

pub record_found : (state : OfficeState) (number : ℕ) (actors : List ActorRecord) → actors ≡ state.actors → RecordsRise state.actors → (place : ℕ) (actor : ActorRecord) → place < length actors
    → actor ≡ get_or actors place actor → ((d : ActorRecord) → nat_cmp (get_or actors place d).number number ≡ Equal) → Some actor ≡ actor_record state number
record_found state number actors same rising place actor inside is equal =
    let rise : RecordsRise actors = subst RecordsRise (sym same) rising in
    ap Some is
    ∙ sym (found_place (λ (actor : ActorRecord). actor.number) actors number rise place actor inside (equal actor))
    ∙ ap (λ (xs : List ActorRecord). find (λ (actor : ActorRecord). nat_eq actor.number number) xs) same

pub record_absent : (state : OfficeState) (number : ℕ) (actors : List ActorRecord) → actors ≡ state.actors → RecordsRise state.actors → (place : ℕ)
    → IsBinarySearchResult (λ (actor : ActorRecord). nat_cmp actor.number number) actors (Err place) → None ≡ actor_record state number
record_absent state number actors same rising place parted =
    let rise : RecordsRise actors = subst RecordsRise (sym same) rising in
    sym (found_nothing (λ (actor : ActorRecord). actor.number) actors number rise place parted)
    ∙ ap (λ (xs : List ActorRecord). find (λ (actor : ActorRecord). nat_eq actor.number number) xs) same

-- ---- levels

pub no_level : (state : OfficeState) (number : ℕ) → is_within_levels state 0 number ≡ false
unfolding is_within_levels
no_level state number = refl

pub top_level : (state : OfficeState) (left number : ℕ) → 0 < left → parent_actor state number ≡ None → is_within_levels state left number ≡ true
unfolding is_within_levels
top_level state zero number some none = absurd (omega arith)
top_level state (suc left) number some none = rw none refl

up_one : (state : OfficeState) (next number parent : ℕ) → parent_actor state number ≡ Some parent → is_within_levels state (suc next) number ≡ is_within_levels state next parent
unfolding is_within_levels
up_one state next number parent is = rw is refl

pub level_up : (state : OfficeState) (left next number parent : ℕ) → next + 1 ≡ left → parent_actor state number ≡ Some parent → is_within_levels state left number ≡ is_within_levels state next parent
level_up state left next number parent step is = let e : left ≡ suc next = omega arith in rw e (up_one state next number parent is)
