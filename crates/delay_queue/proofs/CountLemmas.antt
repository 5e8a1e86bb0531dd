-- How many timers an owner has, as two searches by owner tell.
use Rattle.std.proofs.Common.{◌≡◌, ℕ, zero, suc, ◌+◌, ◌-◌, ◌<◌, ◌≤◌, Bool, true, false, cond, ◌||◌, true≢false, List, [], ◌∷◌, filter, length, get_or, map, nat_eq, nat_lt, Option, refl, sym, ap, ◌∙◌, subst, inl, inr, arith}
use Rattle.std.specs.Prelude.{nat_le}
use Rattle.std.specs.declared.cmp.Ordering.{Ordering}
use Rattle.std.specs.declared.cmp.Ordering.TheVariants.{Less, Equal, Greater}
use Rattle.std.specs.List.{AllByRecursion, AllWithin, IsDistinct, list_any}
use Rattle.std.specs.List.Sorted.{IsPartitionedBy, IsSortedBy, IsStrictlySortedBy}
use Rattle.std.specs.Option.{option_map_or}
use Rattle.std.specs.Ordering.{is_lt, nat_cmp, ordering_index}
use Rattle.std.proofs.lemmas.Bool.{eqb-true, eq-eqb, leb-true, le-leb, lt-leb, lt-ltb, le-ltb, ltb-true, ne_eqb}
use Rattle.std.proofs.lemmas.Cmp.{nat_cmp_total, nat_eq_equiv, nat_list_cmp_total, ranked, tied_itself}
use Rattle.std.proofs.lemmas.List.Sorted.{searchable_from_sorted}
use Rattle.std.proofs.lemmas.Map.Made.{length-from_same_keys}
use Rattle.xs_model.specs.Rising.{key_cmp}
use Rattle.office_types.specs.declared.office.Timer.{Timer}
use Rattle.office_books.specs.KeyIndex.{IsIn, IsKeyIndex, text_of_number}
use Rattle.office_books.specs.Sorted.{RisesBy}
use Rattle.delay_queue.specs.Queue.{is_owned}
use Rattle.delay_queue.specs.TimerKeys.{keyed, owner_in, owner_key_in, owner_key_of, OwnerKeysRise}
use Rattle.delay_queue.proofs.OwnerLemmas.{owners_sorted}
use Rattle.delay_queue.proofs.QueueLemmas.{found_in, from_keyed, keyed_in}

-- ---- places as counts

-- a test that holds of just those before a place holds of as many
pub counted_to : (p : ℕ → Bool) (numbers : List ℕ) (place : ℕ) → place ≤ length numbers → AllWithin (λ n. p n ≡ true) numbers 0 place → AllWithin (λ n. p n ≡ false) numbers place (length numbers) → length (filter p numbers) ≡ place
counted_to p [] place within before after = omega (arith, within)
counted_to p (n ∷ numbers) zero within before after =
    let this : p n ≡ false = after 0 0 (omega arith) (omega arith) in
    let rest : length (filter p numbers) ≡ 0 = counted_to p numbers zero (omega arith) (λ k d low high. absurd (omega (arith, high))) (λ k d low high. after (suc k) d (omega arith) (omega (arith, high))) in
    rw this rest
counted_to p (n ∷ numbers) (suc place) within before after =
    let this : p n ≡ true = before 0 0 (omega arith) (omega arith) in
    let rest : length (filter p numbers) ≡ place = counted_to p numbers place (omega (arith, within)) (λ k d low high. before (suc k) d (omega arith) (omega (arith, high))) (λ k d low high. after (suc k) d (omega (arith, low)) (omega (arith, high))) in
    rw this (omega (arith, rest))

not_greater : (m n : ℕ) → ordering_index (nat_cmp m n) ≤ ordering_index (nat_cmp n n) → m ≤ n
not_greater m n index = cases (nat_cmp m n) refl (subst (λ (o : Ordering). ordering_index (nat_cmp m n) ≤ ordering_index o) (tied_itself nat_cmp_total n) index)
  where
    cases : (o : Ordering) → o ≡ nat_cmp m n → ordering_index (nat_cmp m n) ≤ 1 → m ≤ n
    cases Less is index = let less : m < n = ranked m n Less is in omega arith
    cases Equal is index = let same : m ≡ n = ranked m n Equal is in omega arith
    cases Greater is index = absurd (let two : ordering_index (nat_cmp m n) ≡ 2 = ap ordering_index (sym is) in omega (arith, two, index))

module _ (timers : List Timer) (numbers : List ℕ) (rise : OwnerKeysRise timers numbers) where
  owners_rise : (i j d : ℕ) → i ≤ j → j < length numbers → owner_in timers (get_or numbers i d) ≤ owner_in timers (get_or numbers j d)
  owners_rise i j d low high =
      not_greater _ _ (searchable_from_sorted nat_cmp_total (owner_in timers) numbers (owner_in timers (get_or numbers j d)) (owners_sorted timers numbers rise) i j d low high)

  pub below_first : (owner : ℕ) → IsPartitionedBy (λ (n : ℕ). nat_lt (owner_in timers n) owner) numbers
  below_first owner i j d low high is =
      let up = owners_rise i j d low high in
      lt-ltb _ owner (omega (arith, up, ltb-true (owner_in timers (get_or numbers j d)) owner is))

  pub up_to_first : (owner : ℕ) → IsPartitionedBy (λ (n : ℕ). nat_le (owner_in timers n) owner) numbers
  up_to_first owner i j d low high is =
      let up = owners_rise i j d low high in
      le-leb _ owner (omega (arith, up, leb-true (owner_in timers (get_or numbers j d)) owner is))

abbrev SplitCount : ℕ → List ℕ → List ℕ → List ℕ → Bool → Bool → Bool → Type 0
SplitCount n up_to below own a b c = length (cond a (n ∷ up_to) up_to) ≡ length (cond b (n ∷ below) below) + length (cond c (n ∷ own) own)

-- those up to an owner are those below it and its own
pub split_count : (key : ℕ → ℕ) (owner : ℕ) (numbers : List ℕ) → length (filter (λ (n : ℕ). nat_le (key n) owner) numbers) ≡ length (filter (λ (n : ℕ). nat_lt (key n) owner) numbers) + length (filter (λ (n : ℕ). nat_eq (key n) owner) numbers)
split_count key owner [] = refl
split_count key owner (n ∷ numbers) = cases (split_count key owner numbers) (nat_cmp (key n) owner) refl
  where
    cases : length (filter (λ (n : ℕ). nat_le (key n) owner) numbers) ≡ length (filter (λ (n : ℕ). nat_lt (key n) owner) numbers) + length (filter (λ (n : ℕ). nat_eq (key n) owner) numbers)
        → (o : Ordering) → o ≡ nat_cmp (key n) owner → SplitCount n (filter (λ (n : ℕ). nat_le (key n) owner) numbers) (filter (λ (n : ℕ). nat_lt (key n) owner) numbers) (filter (λ (n : ℕ). nat_eq (key n) owner) numbers) (nat_le (key n) owner) (nat_lt (key n) owner) (nat_eq (key n) owner)
    cases rest Less is = let less : key n < owner = ranked (key n) owner Less is in rw (le-leb (key n) owner (omega arith), lt-ltb (key n) owner less, ne_eqb (key n) owner (λ e. omega arith)) (omega (arith, rest))
    cases rest Equal is = let same : key n ≡ owner = ranked (key n) owner Equal is in rw (le-leb (key n) owner (omega arith), le-ltb (key n) owner (omega arith), eq-eqb (key n) owner same) (omega (arith, rest))
    cases rest Greater is = let more : owner < key n = ranked (key n) owner Greater is in rw (lt-leb (key n) owner more, le-ltb (key n) owner (omega arith), ne_eqb (key n) owner (λ e. omega arith)) rest

-- ---- as many numbers as timers

true_both : (a b : Bool) → (a ≡ true → b ≡ true) → (b ≡ true → a ≡ true) → a ≡ b
true_both true b to from = sym (to refl)
true_both false true to from = from refl
true_both false false to from = refl

or_true : (b : Bool) → (b || true) ≡ true
or_true true = refl
or_true false = refl

member : (numbers : List ℕ) (n : ℕ) → IsIn n numbers → list_any (nat_eq n) numbers ≡ true
member [] n is = absurd is
member (m ∷ numbers) n (inl e) = ap (λ (b : Bool). b || list_any (nat_eq n) numbers) (eq-eqb n m (sym e))
member (m ∷ numbers) n (inr is) = ap (λ (b : Bool). nat_eq n m || b) (member numbers n is) ∙ or_true (nat_eq n m)

is_member : (numbers : List ℕ) (n : ℕ) → list_any (nat_eq n) numbers ≡ true → IsIn n numbers
is_member [] n is = absurd (true≢false (sym is))
is_member (m ∷ numbers) n is = by_test (is_member numbers n) (nat_eq n m) refl is
  where
    by_test : (list_any (nat_eq n) numbers ≡ true → IsIn n numbers) → (b : Bool) → nat_eq n m ≡ b → (b || list_any (nat_eq n) numbers) ≡ true → IsIn n (m ∷ numbers)
    by_test rest true e is = inl (sym (eqb-true n m e))
    by_test rest false e is = inr (rest is)

in_filter : {X : Type 0} (p : X → Bool) (xs : List X) (x : X) → IsIn x xs → p x ≡ true → IsIn x (filter p xs)
in_filter p [] x is passes = absurd is
in_filter p (y ∷ xs) x (inl e) passes = let this : p y ≡ true = ap p e ∙ passes in rw this (inl e)
in_filter p (y ∷ xs) x (inr is) passes = by_test (in_filter p xs x is passes) (p y)
  where
    by_test : IsIn x (filter p xs) → (b : Bool) → IsIn x (cond b (y ∷ filter p xs) (filter p xs))
    by_test rest true = inr rest
    by_test rest false = rest

from_filter : {X : Type 0} (p : X → Bool) (xs : List X) (x : X) → IsIn x (filter p xs) → IsIn x xs × (p x ≡ true)
from_filter p [] x is = absurd is
from_filter p (y ∷ xs) x is = by_test (from_filter p xs x) (p y) refl is
  where
    by_test : (IsIn x (filter p xs) → IsIn x xs × (p x ≡ true)) → (b : Bool) → p y ≡ b → IsIn x (cond b (y ∷ filter p xs) (filter p xs)) → IsIn x (y ∷ xs) × (p x ≡ true)
    by_test rest true e (inl same) = (inl same, ap p (sym same) ∙ e)
    by_test rest true e (inr is) = let later = rest is in (inr later.0, later.1)
    by_test rest false e is = let later = rest is in (inr later.0, later.1)

in_map : {X Y : Type 0} (f : X → Y) (xs : List X) (x : X) → IsIn x xs → IsIn (f x) (map f xs)
in_map f [] x is = absurd is
in_map f (y ∷ xs) x (inl e) = inl (ap f e)
in_map f (y ∷ xs) x (inr is) = inr (in_map f xs x is)

from_map : {X Y : Type 0} (f : X → Y) (xs : List X) (y : Y) → IsIn y (map f xs) → (x : X) × IsIn x xs × (f x ≡ y)
from_map f [] y is = absurd is
from_map f (x ∷ xs) y (inl e) = (x, inl refl, e)
from_map f (x ∷ xs) y (inr is) = let rest = from_map f xs y is in (rest.0, inr rest.1, rest.2)

length_map : {X Y : Type 0} (f : X → Y) (xs : List X) → length (map f xs) ≡ length xs
length_map f [] = refl
length_map f (x ∷ xs) = ap suc (length_map f xs)

all_kept : {X : Type 0} (P : X → Type 0) (p : X → Bool) (xs : List X) → AllByRecursion P xs → AllByRecursion P (filter p xs)
all_kept P p [] all = tt
all_kept P p (x ∷ xs) all = by_test (all_kept P p xs all.1) (p x)
  where
    by_test : AllByRecursion P (filter p xs) → (b : Bool) → AllByRecursion P (cond b (x ∷ filter p xs) (filter p xs))
    by_test rest true = (all.0, rest)
    by_test rest false = rest

-- numbers whose keys rise differ
apart_keys : (key : ℕ → List ℕ) (n : ℕ) (numbers : List ℕ) → AllByRecursion (λ k. key_cmp (key n) k ≡ Less) (map key numbers) → ((m : ℕ) → key_cmp (key n) (key m) ≡ Less → nat_eq n m ≡ false) → AllByRecursion (λ m. nat_eq n m ≡ false) numbers
apart_keys key n [] above so = tt
apart_keys key n (m ∷ numbers) above so = (so m above.0, apart_keys key n numbers above.1 so)

distinct_filter : (p : ℕ → Bool) (numbers : List ℕ) → IsDistinct nat_eq numbers → IsDistinct nat_eq (filter p numbers)
unfolding IsDistinct
distinct_filter p [] apart = tt
distinct_filter p (n ∷ numbers) apart = by_test (distinct_filter p numbers apart.1) (all_kept (λ (m : ℕ). nat_eq n m ≡ false) p numbers apart.0) (p n)
  where
    by_test : IsDistinct nat_eq (filter p numbers) → AllByRecursion (λ (m : ℕ). nat_eq n m ≡ false) (filter p numbers) → (b : Bool) → IsDistinct nat_eq (cond b (n ∷ filter p numbers) (filter p numbers))
    by_test rest first true = (first, rest)
    by_test rest first false = rest

distinct_keys : (key : ℕ → List ℕ) (numbers : List ℕ) → RisesBy key_cmp key numbers → IsDistinct nat_eq numbers
unfolding IsDistinct IsStrictlySortedBy
distinct_keys key [] rise = tt
distinct_keys key (n ∷ numbers) rise = (apart_keys key n numbers rise.0 (λ m less. other m less (nat_eq n m) refl), distinct_keys key numbers rise.1)
  where
    other : (m : ℕ) → key_cmp (key n) (key m) ≡ Less → (b : Bool) → nat_eq n m ≡ b → b ≡ false
    other m less false is = refl
    other m less true is =
        let same : n ≡ m = eqb-true n m is in
        let tied : key_cmp (key n) (key m) ≡ Equal = subst (λ (k : ℕ). key_cmp (key n) (key k) ≡ Equal) same (tied_itself nat_list_cmp_total (key n)) in
        absurd (cc)

orders_apart : (key : Timer → List ℕ) (p : Timer → Bool) (n : ℕ) (timers : List Timer) → AllByRecursion (λ l. nat_cmp n l ≡ Less) (map (λ (pair : List ℕ × ℕ). pair.1) (keyed key timers))
    → AllByRecursion (λ (m : ℕ). nat_eq n m ≡ false) (map (λ (timer : Timer). timer.order) (filter p timers))
orders_apart key p n [] above = tt
orders_apart key p n (timer ∷ timers) above = by_test (orders_apart key p n timers above.1) (p timer)
  where
    by_test : AllByRecursion (λ (m : ℕ). nat_eq n m ≡ false) (map (λ (timer : Timer). timer.order) (filter p timers)) → (b : Bool)
        → AllByRecursion (λ (m : ℕ). nat_eq n m ≡ false) (map (λ (timer : Timer). timer.order) (cond b (timer ∷ filter p timers) (filter p timers)))
    by_test rest true = let less : n < timer.order = ranked n timer.order Less (sym above.0) in (ne_eqb n timer.order (λ e. omega arith), rest)
    by_test rest false = rest

distinct_orders : (key : Timer → List ℕ) (p : Timer → Bool) (timers : List Timer) → RisesBy nat_cmp (λ (pair : List ℕ × ℕ). pair.1) (keyed key timers) → IsDistinct nat_eq (map (λ (timer : Timer). timer.order) (filter p timers))
unfolding IsDistinct IsStrictlySortedBy
distinct_orders key p [] rise = tt
distinct_orders key p (timer ∷ timers) rise = by_test (distinct_orders key p timers rise.1) (orders_apart key p timer.order timers rise.0) (p timer)
  where
    by_test : IsDistinct nat_eq (map (λ (timer : Timer). timer.order) (filter p timers)) → AllByRecursion (λ (m : ℕ). nat_eq timer.order m ≡ false) (map (λ (timer : Timer). timer.order) (filter p timers)) → (b : Bool)
        → IsDistinct nat_eq (map (λ (timer : Timer). timer.order) (cond b (timer ∷ filter p timers) (filter p timers)))
    by_test rest first true = (first, rest)
    by_test rest first false = rest

module _ (timers : List Timer) (numbers : List ℕ) (index : IsKeyIndex (keyed owner_key_of timers) numbers) (owner : ℕ) where
  its_owner : (timer : Timer) → IsIn timer timers → owner_in timers timer.order ≡ timer.owner
  its_owner timer is_in = ap (λ (o : Option Timer). option_map_or (λ (t : Timer). t.owner) o 0) (found_in owner_key_of timers timer index.numbers_rise is_in)

  numbers_owned : (n : ℕ) → IsIn n (filter (λ (n : ℕ). nat_eq (owner_in timers n) owner) numbers) → IsIn n (map (λ (timer : Timer). timer.order) (filter (is_owned owner) timers))
  numbers_owned n is =
      let here = from_filter (λ (n : ℕ). nat_eq (owner_in timers n) owner) numbers n is in
      let this = from_keyed owner_key_of timers (owner_key_in timers n, n) (index.has_only n here.0) in
      let same : this.0.order ≡ n = this.2 in
      let owned : nat_eq this.0.owner owner ≡ true = ap (λ (m : ℕ). nat_eq m owner) (sym (its_owner this.0 this.1) ∙ ap (owner_in timers) same) ∙ here.1 in
      subst (λ (m : ℕ). IsIn m (map (λ (timer : Timer). timer.order) (filter (is_owned owner) timers))) same
      (in_map (λ (timer : Timer). timer.order) (filter (is_owned owner) timers) this.0 (in_filter (is_owned owner) timers this.0 this.1 owned))

  owned_numbers : (n : ℕ) → IsIn n (map (λ (timer : Timer). timer.order) (filter (is_owned owner) timers)) → IsIn n (filter (λ (n : ℕ). nat_eq (owner_in timers n) owner) numbers)
  owned_numbers n is =
      let this = from_map (λ (timer : Timer). timer.order) (filter (is_owned owner) timers) n is in
      let here = from_filter (is_owned owner) timers this.0 this.1 in
      let owned : nat_eq (owner_in timers this.0.order) owner ≡ true = ap (λ (m : ℕ). nat_eq m owner) (its_owner this.0 here.0) ∙ here.1 in
      subst (λ (m : ℕ). IsIn m (filter (λ (n : ℕ). nat_eq (owner_in timers n) owner) numbers)) this.2
      (in_filter (λ (n : ℕ). nat_eq (owner_in timers n) owner) numbers this.0.order (index.has_each (owner_key_of this.0, this.0.order) (keyed_in owner_key_of timers this.0 here.0)) owned)

  pub as_many : length (filter (λ (n : ℕ). nat_eq (owner_in timers n) owner) numbers) ≡ length (filter (is_owned owner) timers)
  as_many =
      let theirs : List ℕ = filter (λ (n : ℕ). nat_eq (owner_in timers n) owner) numbers in
      let orders : List ℕ = map (λ (timer : Timer). timer.order) (filter (is_owned owner) timers) in
      length-from_same_keys nat_eq_equiv theirs orders
      (distinct_filter (λ (n : ℕ). nat_eq (owner_in timers n) owner) numbers (distinct_keys (text_of_number (keyed owner_key_of timers)) numbers index.keys_rise))
      (distinct_orders owner_key_of (is_owned owner) timers index.numbers_rise)
      (λ n. true_both (list_any (nat_eq n) theirs) (list_any (nat_eq n) orders) (λ is. member orders n (numbers_owned n (is_member theirs n is))) (λ is. member theirs n (owned_numbers n (is_member orders n is))))
      ∙ length_map (λ (timer : Timer). timer.order) (filter (is_owned owner) timers)
