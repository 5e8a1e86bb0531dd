-- The first of several faults.
use Rattle.std.proofs.Common.{◌≡◌, ◌⊎◌, ℕ, ◌<◌, ◌≤◌, Bool, true, false, ◌&&◌, ◌||◌, List, [], ◌∷◌, ◌++◌, Some, None, Option, refl, ap, sym, ◌∙◌, arith, inl, inr, nat_eq, nat_lt, nat_le, ◌+◌, length, subst}
use Rattle.std.specs.Prelude.{Contains, slice_get, if◌then◌else◌}
use Rattle.std.proofs.lemmas.Bool.{ltb-false, ltb-true}
use Rattle.std.proofs.lemmas.Bool.Decides.{nat_tests}
use Rattle.std.proofs.lemmas.Option.{slice_get_within}
use Rattle.step_sets.proofs.ListLemmas.{Contains-cons_cases, Contains-here, Contains-there}
use Rattle.machine_json.specs.declared.fault.MachineFault.{MachineFault}
use Rattle.machine_json.specs.FirstFaults.{IsFirst}
use Rattle.machine_json.specs.FirstPass.{TellsFirst, comes_first, earlier, earliest}
use Rattle.machine_json.specs.MachineFaults.{machine_fault_number, machine_fault_place}

-- ---- by place, and then by number

-- whether a place and a number stand before another place and number, or at them
abbrev stands_before : ℕ → ℕ → ℕ → ℕ → Bool
stands_before p m q n = nat_lt p q || (nat_eq p q && nat_le m n)

before_trans : (p m q n r o : ℕ) → stands_before p m q n ≡ true → stands_before q n r o ≡ true → stands_before p m r o ≡ true
before_trans p m q n r o first second = grind (arith, nat_tests)

after_trans : (p m q n r o : ℕ) → stands_before p m q n ≡ false → stands_before q n r o ≡ false → stands_before p m r o ≡ false
after_trans p m q n r o first second = grind (arith, nat_tests)

place_before : (p m q n : ℕ) → stands_before p m q n ≡ true → p ≤ q
place_before p m q n first = grind (arith, nat_tests)

number_before : (p m q n : ℕ) → stands_before p m q n ≡ true → q ≡ p → m ≤ n
number_before p m q n first same = grind (arith, nat_tests)

place_after : (p m q n : ℕ) → stands_before p m q n ≡ false → q ≤ p
place_after p m q n first = grind (arith, nat_tests)

number_after : (p m q n : ℕ) → stands_before p m q n ≡ false → p ≡ q → n ≤ m
number_after p m q n first same = grind (arith, nat_tests)

first_trans : (x y z : MachineFault) → comes_first x y ≡ true → comes_first y z ≡ true → comes_first x z ≡ true
first_trans x y z = before_trans (machine_fault_place x) (machine_fault_number x) (machine_fault_place y) (machine_fault_number y) (machine_fault_place z) (machine_fault_number z)

later_trans : (x y z : MachineFault) → comes_first x y ≡ false → comes_first y z ≡ false → comes_first x z ≡ false
later_trans x y z = after_trans (machine_fault_place x) (machine_fault_number x) (machine_fault_place y) (machine_fault_number y) (machine_fault_place z) (machine_fault_number z)

-- ---- the earlier of two

pub earlier-None : (a : Option MachineFault) → earlier a None ≡ a
earlier-None None = refl
earlier-None (Some x) = refl

-- a choice among three, by tests that agree
chosen : (x y z : MachineFault) (xy yz xz : Bool) → comes_first x y ≡ xy → comes_first y z ≡ yz → comes_first x z ≡ xz
    → (xy ≡ true → yz ≡ true → xz ≡ true) → (xy ≡ false → yz ≡ false → xz ≡ false)
    → earlier (if xy then Some x else Some y) (Some z) ≡ earlier (Some x) (if yz then Some y else Some z)
chosen x y z true true xz is_xy is_yz is_xz up down = rw (is_xz, is_xy, up refl refl) refl
chosen x y z true false xz is_xy is_yz is_xz up down = refl
chosen x y z false true xz is_xy is_yz is_xz up down = rw (is_xy, is_yz) refl
chosen x y z false false xz is_xy is_yz is_xz up down = rw (is_yz, is_xz, down refl refl) refl

pub earlier_assoc : (a b c : Option MachineFault) → earlier (earlier a b) c ≡ earlier a (earlier b c)
earlier_assoc None b c = refl
earlier_assoc (Some x) None c = refl
earlier_assoc (Some x) (Some y) None = earlier-None (earlier (Some x) (Some y))
earlier_assoc (Some x) (Some y) (Some z) =
    chosen x y z (comes_first x y) (comes_first y z) (comes_first x z) refl refl refl (first_trans x y z) (later_trans x y z)

pub earliest-append : (xs ys : List MachineFault) → earliest (xs ++ ys) ≡ earlier (earliest xs) (earliest ys)
earliest-append [] ys = refl
earliest-append (x ∷ xs) ys =
    ap (earlier (Some x)) (earliest-append xs ys) ∙ sym (earlier_assoc (Some x) (earliest xs) (earliest ys))

pub ruleset first_of_lists = (earliest-append, earlier-None)

-- ---- the first of those that there are

-- of a set alone
pub none_there : (IsThere : MachineFault → Type 0) → ((fault : MachineFault) → IsThere fault → ⊥) → TellsFirst None IsThere
none_there IsThere none = none

-- of two first ones the earlier
first_of_two : (x y : MachineFault) (P Q : MachineFault → Type 0)
    → IsFirst machine_fault_place machine_fault_number P x → IsFirst machine_fault_place machine_fault_number Q y
    → comes_first x y ≡ true → IsFirst machine_fault_place machine_fault_number (λ f. P f ⊎ Q f) x
first_of_two x y P Q first second before = record {
  there = inl first.there;
  no_earlier = λ other is. elim is [
    | inl p ↦ first.no_earlier other p
    | inr q ↦
        let low : machine_fault_place x ≤ machine_fault_place y = place_before (machine_fault_place x) (machine_fault_number x) (machine_fault_place y) (machine_fault_number y) before in
        let high = second.no_earlier other q in omega arith
  ];
  least_number = λ other is same. elim is [
    | inl p ↦ first.least_number other p same
    | inr q ↦
        let low : machine_fault_place x ≤ machine_fault_place y = place_before (machine_fault_place x) (machine_fault_number x) (machine_fault_place y) (machine_fault_number y) before in
        let high : machine_fault_place y ≤ machine_fault_place other = second.no_earlier other q in
        let here : machine_fault_place y ≡ machine_fault_place x = omega arith in
        let there : machine_fault_place other ≡ machine_fault_place y = omega arith in
        let number : machine_fault_number x ≤ machine_fault_number y = number_before (machine_fault_place x) (machine_fault_number x) (machine_fault_place y) (machine_fault_number y) before here in
        let least : machine_fault_number y ≤ machine_fault_number other = second.least_number other q there in
        omega arith
  ];
}

second_of_two : (x y : MachineFault) (P Q : MachineFault → Type 0)
    → IsFirst machine_fault_place machine_fault_number P x → IsFirst machine_fault_place machine_fault_number Q y
    → comes_first x y ≡ false → IsFirst machine_fault_place machine_fault_number (λ f. P f ⊎ Q f) y
second_of_two x y P Q first second after = record {
  there = inr second.there;
  no_earlier = λ other is. elim is [
    | inl p ↦
        let low : machine_fault_place y ≤ machine_fault_place x = place_after (machine_fault_place x) (machine_fault_number x) (machine_fault_place y) (machine_fault_number y) after in
        let high = first.no_earlier other p in omega arith
    | inr q ↦ second.no_earlier other q
  ];
  least_number = λ other is same. elim is [
    | inl p ↦
        let low : machine_fault_place y ≤ machine_fault_place x = place_after (machine_fault_place x) (machine_fault_number x) (machine_fault_place y) (machine_fault_number y) after in
        let high : machine_fault_place x ≤ machine_fault_place other = first.no_earlier other p in
        let here : machine_fault_place x ≡ machine_fault_place y = omega arith in
        let there : machine_fault_place other ≡ machine_fault_place x = omega arith in
        let number : machine_fault_number y ≤ machine_fault_number x = number_after (machine_fault_place x) (machine_fault_number x) (machine_fault_place y) (machine_fault_number y) after here in
        let least : machine_fault_number x ≤ machine_fault_number other = first.least_number other p there in
        omega arith
    | inr q ↦ second.least_number other q same
  ];
}

by_test : (x y : MachineFault) (P Q : MachineFault → Type 0) (before : Bool) → comes_first x y ≡ before
    → IsFirst machine_fault_place machine_fault_number P x → IsFirst machine_fault_place machine_fault_number Q y
    → TellsFirst (if before then Some x else Some y) (λ f. P f ⊎ Q f)
by_test x y P Q true is first second = first_of_two x y P Q first second is
by_test x y P Q false is first second = second_of_two x y P Q first second is

-- the first of two sets, from the first of each
pub both : (a b : Option MachineFault) (P Q : MachineFault → Type 0) → TellsFirst a P → TellsFirst b Q → TellsFirst (earlier a b) (λ f. P f ⊎ Q f)
both None None P Q first second = λ fault is. elim is [ inl p ↦ first fault p | inr q ↦ second fault q ]
both None (Some y) P Q first second = record {
  there = inr second.there;
  no_earlier = λ other is. elim is [ inl p ↦ absurd (first other p) | inr q ↦ second.no_earlier other q ];
  least_number = λ other is same. elim is [ inl p ↦ absurd (first other p) | inr q ↦ second.least_number other q same ];
}
both (Some x) None P Q first second = record {
  there = inl first.there;
  no_earlier = λ other is. elim is [ inl p ↦ first.no_earlier other p | inr q ↦ absurd (second other q) ];
  least_number = λ other is same. elim is [ inl p ↦ first.least_number other p same | inr q ↦ absurd (second other q) ];
}
both (Some x) (Some y) P Q first second = by_test x y P Q (comes_first x y) refl first second

-- the first of a set is that of an equal one
pub as_set : (a : Option MachineFault) (P Q : MachineFault → Type 0) → ((f : MachineFault) → P f → Q f) → ((f : MachineFault) → Q f → P f) → TellsFirst a P → TellsFirst a Q
as_set None P Q into from none = λ fault q. none fault (from fault q)
as_set (Some x) P Q into from first = record {
  there = into x first.there;
  no_earlier = λ other q. first.no_earlier other (from other q);
  least_number = λ other q same. first.least_number other (from other q) same;
}

-- the first of one fault
pub single : (x : MachineFault) → TellsFirst (Some x) (λ f. x ≡ f)
single x = record {
  there = refl;
  no_earlier = λ other is. let same : machine_fault_place x ≡ machine_fault_place other = ap machine_fault_place is in omega arith;
  least_number = λ other is same. let number : machine_fault_number x ≡ machine_fault_number other = ap machine_fault_number is in omega arith;
}

-- the first of a list
pub of_list : (xs : List MachineFault) → TellsFirst (earliest xs) (Contains xs)
of_list [] = λ fault is. absurd (omega (arith, is.1))
of_list (x ∷ xs) =
    as_set (earlier (Some x) (earliest xs)) (λ f. (x ≡ f) ⊎ Contains xs f) (Contains (x ∷ xs))
    (λ f is. elim is [ inl same ↦ (let P : MachineFault → Type 0 = λ y. Contains (x ∷ xs) y in subst P same (Contains-here x xs)) | inr among ↦ Contains-there f x xs among ])
    (λ f is. Contains-cons_cases f x xs is)
    (both (Some x) (earliest xs) (λ f. x ≡ f) (Contains xs) (single x) (of_list xs))

-- ---- one after another

-- a place below the next one is below this one or is it
lt_or_eq : (k i : ℕ) → k < i + 1 → (k < i) ⊎ (k ≡ i)
lt_or_eq k i below =
    elim (nat_lt k i) as (λ b. nat_lt k i ≡ b → (k < i) ⊎ (k ≡ i)) [ true ↦ λ is. inl (ltb-true k i is) | false ↦ λ is. let high : i ≤ k = ltb-false k i is in inr (omega arith) ] refl

-- a fault of one of the first so many
abbrev pub Among : {X : Type 0} → (X → MachineFault → Type 0) → List X → ℕ → MachineFault → Type 0
Among {X} Has xs n fault = (k : ℕ) × (x : X) × (k < n) × (slice_get xs k ≡ Some x) × Has x fault

-- a fault of one of them
abbrev pub AmongAll : {X : Type 0} → (X → MachineFault → Type 0) → List X → MachineFault → Type 0
AmongAll {X} Has xs fault = (k : ℕ) × (x : X) × (slice_get xs k ≡ Some x) × Has x fault

pub among_none : {X : Type 0} (Has : X → MachineFault → Type 0) (xs : List X) → TellsFirst None (Among Has xs 0)
among_none Has xs = λ fault is. absurd (omega (arith, is.2))

pub among_more : {X : Type 0} (Has : X → MachineFault → Type 0) (xs : List X) (i : ℕ) (x : X) (a b : Option MachineFault)
    → slice_get xs i ≡ Some x → TellsFirst a (Among Has xs i) → TellsFirst b (Has x) → TellsFirst (earlier a b) (Among Has xs (i + 1))
among_more {X} Has xs i x a b at first next =
    as_set (earlier a b) (λ f. Among Has xs i f ⊎ Has x f) (Among Has xs (i + 1))
    (λ f is. elim is [
      | inl before ↦ (before.0, before.1, omega (arith, before.2), before.3, before.4)
      | inr here ↦ (i, x, omega arith, at, here)
    ])
    (λ f is. elim (lt_or_eq is.0 i is.2) [
      | inl before ↦ inl (is.0, is.1, before, is.3, is.4)
      | inr same ↦
          let found : Some is.1 ≡ Some x = sym is.3 ∙ ap (slice_get xs) same ∙ at in
          let item : is.1 ≡ x = cc in
          let P : X → Type 0 = λ y. Has y f in inr (subst P item is.4)
    ])
    (both a b (Among Has xs i) (Has x) first next)

pub among_all : {X : Type 0} (Has : X → MachineFault → Type 0) (xs : List X) (n : ℕ) (a : Option MachineFault)
    → length xs ≤ n → TellsFirst a (Among Has xs n) → TellsFirst a (AmongAll Has xs)
among_all Has xs n a past first =
    as_set a (Among Has xs n) (AmongAll Has xs)
    (λ f is. (is.0, is.1, is.3, is.4))
    (λ f is. let within : is.0 < length xs = slice_get_within xs is.0 is.1 is.2 in (is.0, is.1, omega arith, is.2, is.3))
    first
