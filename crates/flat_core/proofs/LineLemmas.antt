-- Lemmas on the parts of a line.
use Rattle.std.proofs.Common.{◌≡◌, ◌≢◌, ℕ, ◌+◌, ◌-◌, ◌^◌, ◌<◌, ◌≤◌, suc, zero, List, [], ◌∷◌, ◌++◌, length, get_or, take, drop, drop-cons, add-one, Bool, true, false, not, ◌&&◌, ◌||◌, ◌==◌, refl, sym, ap, subst, ◌∙◌, inl, inr, arith, rules, lit<}
use Rattle.std.specs.Prelude.{Result, Ok, Err, Some, None, All, IsUtf8, decimal, nat_lt}
use Rattle.std.specs.List.{list_all, AllByRecursion, position, prefix_len}
use Rattle.std.specs.Str.{IsAscii, bytes_eq}
use Rattle.std.specs.Str.Parse.{ParsesUnsigned, digits_value}
use Rattle.std.specs.Cmp.Derive.{both_true}
use Rattle.std.proofs.lemmas.Bool.Decides.{eqb_tells, nat_tests}
use Rattle.std.proofs.lemmas.Bool.{eqb-true}
use Rattle.std.proofs.lemmas.Grind.{common_steps}
use Rattle.std.proofs.lemmas.List.{take-append-drop}
use Rattle.std.proofs.lemmas.List.Folds.{list_all-append}
use Rattle.std.proofs.lemmas.List.Quantifiers.{position-Some}
use Rattle.std.proofs.lemmas.List.Sums.{list_all-from_AllPass, prefix_len_passes}
use Rattle.std.proofs.lemmas.List.Elements.{recursion_from_All}
use Rattle.std.proofs.lemmas.Slice.Eq.{bytes_eq-Decides}
use Rattle.std.proofs.lemmas.Str.{IsUtf8-from_ascii}
use Rattle.std.proofs.lemmas.Str.Parse.{IsNumeralModel, IsDigitsTest, numerals_by_value, parse_plain}
use Rattle.std.proofs.lemmas.Fmt.{IsAscii-decimal, digits_decimal, decimal-digits_value, decimal_digit, decimal_nonempty, first_decimal, parse-decimal}
use Rattle.std.specs.Char.{is_ascii_digit, is_ascii_lowercase}
use Rattle.xs_data.specs.Ascii.{space, hyphen}
use Rattle.flat_core.specs.declared.request_line.TheConstants.{MAX_CALLER}
use Rattle.flat_core.specs.RequestLine.{is_caller, is_caller_byte}
use Rattle.flat_core.specs.LineParts.{is_spaceless, IsCut, IsNumber, begins_number}

pub and_both : (a b : Bool) → (a && b) ≡ true → (a ≡ true) × (b ≡ true)
and_both true b h = (refl, h)
and_both false b h = absurd cc

-- bytes that `==` finds equal to a text, by either test
pub same_as : (a b text : List ℕ) (r : Bool) → r ≡ bytes_eq a b → b ≡ text → r ≡ true → a ≡ text
same_as a b text r e is passes = (bytes_eq-Decides a b).0 (sym e ∙ passes) ∙ is

pub differs_from : (a b text : List ℕ) (r : Bool) → r ≡ bytes_eq a b → b ≡ text → r ≡ false → a ≢ text
differs_from a b text r e is fails = λ same. let equal : bytes_eq a b ≡ true = (bytes_eq-Decides a b).1 (same ∙ sym is) in cc

not_back : (b : Bool) → not (not b) ≡ b
not_back true = refl
not_back false = refl

pub not_of : (r b : Bool) → r ≡ not b → not r ≡ b
not_of r b e = ap not e ∙ not_back b

-- a byte that passes a test that a space doesn't pass is no space
apart : (p : ℕ → Bool) → p space ≡ false → (b : ℕ) → p b ≡ true → (b == space) ≡ false
apart p fails b passes = elim (eqb_tells b space) [ inl e ↦ absurd (let q : p space ≡ true = ap p (sym e.1) ∙ passes in cc) | inr e ↦ e.0 ]

-- no space is among bytes that pass a test that a space doesn't pass
pub spaceless_from : (p : ℕ → Bool) → p space ≡ false → (bs : List ℕ) → list_all p bs ≡ true → is_spaceless bs ≡ true
spaceless_from p fails [] h = refl
spaceless_from p fails (b ∷ bs) h =
    let both = and_both (p b) (list_all p bs) h in
    both_true (ap not (apart p fails b both.0)) (spaceless_from p fails bs both.1)

-- a list is cut at its first space in one way
cut_once : (a b c d : List ℕ) → is_spaceless a ≡ true → is_spaceless c ≡ true → a ++ space ∷ b ≡ c ++ space ∷ d → (a ≡ c) × (b ≡ d)
cut_once [] b [] d sa sc e = (refl, cc)
cut_once [] b (y ∷ c) d sa sc e =
    let head : space ≡ y = cc in
    let P : ℕ → Type 0 = λ n. not (n == space) ≡ true in
    let bad : false ≡ true = subst P (sym head) (and_both (not (y == space)) (is_spaceless c) sc).0 in
    absurd cc
cut_once (x ∷ a) b [] d sa sc e =
    let head : space ≡ x = cc in
    let P : ℕ → Type 0 = λ n. not (n == space) ≡ true in
    let bad : false ≡ true = subst P (sym head) (and_both (not (x == space)) (is_spaceless a) sa).0 in
    absurd cc
cut_once (x ∷ a) b (y ∷ c) d sa sc e =
    let tails : a ++ space ∷ b ≡ c ++ space ∷ d = cc in
    let same = cut_once a b c d (and_both (not (x == space)) (is_spaceless a) sa).1 (and_both (not (y == space)) (is_spaceless c) sc).1 tails in
    (cc, same.1)

pub IsCut-unique : (bytes a b c d : List ℕ) → IsCut bytes a b → IsCut bytes c d → (a ≡ c) × (b ≡ d)
IsCut-unique bytes a b c d one other = cut_once a b c d one.spaceless other.spaceless (sym one.joined ∙ other.joined)

-- bytes with no space aren't cut
pub no_cut : (bytes a b : List ℕ) → is_spaceless bytes ≡ true → IsCut bytes a b → ⊥
no_cut bytes a b whole cut =
    let joined : is_spaceless (a ++ space ∷ b) ≡ true = ap is_spaceless (sym cut.joined) ∙ whole in
    let both : (is_spaceless a && is_spaceless (space ∷ b)) ≡ true = sym (list_all-append (λ x. not (x == space)) a (space ∷ b)) ∙ joined in
    let bad : false ≡ true = (and_both (is_spaceless a) (is_spaceless (space ∷ b)) both).1 in
    cc

-- where no space is found there is none
pub spaceless_unfound : (bs : List ℕ) → position (λ b. b == space) bs ≡ None → is_spaceless bs ≡ true
spaceless_unfound bs h =
    let none : length bs ≤ prefix_len (λ b. not (b == space)) bs = grind (arith, nat_tests) in
    list_all-from_AllPass (λ b. not (b == space)) bs (λ k d in_it. prefix_len_passes (λ b. not (b == space)) bs k d (omega arith))

take_rest : (bs : List ℕ) (k : ℕ) → take (length bs - k) (drop k bs) ≡ drop k bs
take_rest bs k = grind (arith, common_steps)

-- bytes are cut where the first space is found
pub cut_found : (bs : List ℕ) (i : ℕ) → position (λ b. b == space) bs ≡ Some i → IsCut bs (take i bs) (take (length bs - (i + 1)) (drop (i + 1) bs))
cut_found bs i h =
    let found = position-Some (λ b. b == space) bs i 0 h in
    let within : i < length bs = found.0 in
    let is_space : get_or bs i 0 ≡ space = eqb-true (get_or bs i 0) space found.1 in
    let head : drop i bs ≡ space ∷ drop (i + 1) bs = drop-cons bs i 0 within ∙ cc (is_space, add-one i) in
    record {
      joined = sym (take-append-drop i bs) ∙ ap (λ l. take i bs ++ l) (head ∙ ap (λ l. space ∷ l) (sym (take_rest bs (i + 1))));
      spaceless = list_all-from_AllPass (λ b. not (b == space)) (take i bs) (λ k d in_it.
          let before : k < i = grind (arith, common_steps) in
          let other = (position-Some (λ b. b == space) bs i d h).2 k before in
          let same : get_or (take i bs) k d ≡ get_or bs k d = grind (arith, common_steps) in
          ap (λ x. not (x == space)) same ∙ ap not other);
    }

-- each byte of a caller is one of its bytes
caller_bytes : (bs : List ℕ) → is_caller bs ≡ true → list_all is_caller_byte bs ≡ true
caller_bytes [] h = refl
caller_bytes (b ∷ bs) h =
    let first = and_both (is_ascii_lowercase b) (nat_lt (length bs) MAX_CALLER && list_all is_caller_byte bs) h in
    let others = and_both (nat_lt (length bs) MAX_CALLER) (list_all is_caller_byte bs) first.1 in
    both_true (ap (λ t. t || (is_ascii_digit b || (b == hyphen))) first.0) others.1

pub spaceless_caller : (bs : List ℕ) → is_caller bs ≡ true → is_spaceless bs ≡ true
spaceless_caller bs h = spaceless_from is_caller_byte refl bs (caller_bytes bs h)

small_byte : (b : ℕ) → is_caller_byte b ≡ true → b < 128
small_byte b h = grind (arith, nat_tests)

ascii_from : (p : ℕ → Bool) → ((b : ℕ) → p b ≡ true → b < 128) → (bs : List ℕ) → list_all p bs ≡ true → IsAscii bs
ascii_from p small [] h i = lit< tt
ascii_from p small (b ∷ bs) h zero = small b (and_both (p b) (list_all p bs) h).0
ascii_from p small (b ∷ bs) h (suc i) = ascii_from p small bs (and_both (p b) (list_all p bs) h).1 i

-- a caller is text
pub IsUtf8-caller : (bs : List ℕ) → is_caller bs ≡ true → IsUtf8 bs
IsUtf8-caller bs h = IsUtf8-from_ascii bs (ascii_from is_caller_byte small_byte bs (caller_bytes bs h))

visible_spaceless : (bs : List ℕ) → AllByRecursion (λ b. space < b) bs → is_spaceless bs ≡ true
visible_spaceless [] h = refl
visible_spaceless (b ∷ bs) h =
    let above : space < b = h.0 in
    let other : (b == space) ≡ false = grind (arith, nat_tests) in
    both_true (ap not other) (visible_spaceless bs h.1)

-- no space is among bytes above it
pub spaceless_visible : (bs : List ℕ) → All (λ b. space < b) bs → is_spaceless bs ≡ true
spaceless_visible bs h = visible_spaceless bs (recursion_from_All (λ b. space < b) bs h)

-- the words of std's lemmas on digits
digits_test : IsDigitsTest (λ ds. list_all is_ascii_digit ds ≡ true)
digits_test = search rules

own : IsNumeralModel (λ ds. list_all is_ascii_digit ds ≡ true) (digits_value 10)
own = numerals_by_value _ digits_test

pub spaceless_decimal : (n : ℕ) → n < 2 ^ 64 → is_spaceless (decimal n) ≡ true
spaceless_decimal n small = spaceless_from is_ascii_digit refl (decimal n) (digits_decimal own n small)

begins_from : (ds : List ℕ) → 0 < length ds → list_all is_ascii_digit ds ≡ true → 48 < get_or ds 0 0 → begins_number ds ≡ true
begins_from [] some digits first = absurd (omega arith)
begins_from (b ∷ []) some digits first = (and_both (is_ascii_digit b) true digits).0
begins_from (b ∷ c ∷ bs) some digits first =
    let digit = (and_both (is_ascii_digit b) _ digits).0 in
    grind (arith, nat_tests)

begins_decimal : (n : ℕ) → n < 2 ^ 64 → begins_number (decimal n) ≡ true
begins_decimal zero small = ap begins_number (decimal_digit 0 (lit< tt))
begins_decimal (suc n) small = begins_from (decimal (suc n)) (decimal_nonempty (suc n) small) (digits_decimal own (suc n) small) (first_decimal (suc n) (omega arith) small)

no_plus : (bs : List ℕ) → begins_number bs ≡ true → get_or bs 0 0 ≢ 43
no_plus [] h e = cc
no_plus (b ∷ []) h e = let is : b ≡ 43 = e in grind (arith, nat_tests)
no_plus (b ∷ c ∷ bs) h e = let is : b ≡ 43 = e in grind (arith, nat_tests)

one_zero : (bs : List ℕ) → begins_number bs ≡ true → get_or bs 0 0 ≡ 48 → length bs ≡ 1
one_zero [] h e = absurd cc
one_zero (b ∷ []) h e = refl
one_zero (b ∷ c ∷ bs) h e = let is : b ≡ 48 = e in absurd (grind (arith, nat_tests))

-- what isn't begun like a number spells none
pub begins : (bytes : List ℕ) (n : ℕ) → IsNumber bytes n → begins_number bytes ≡ true
begins bytes n is = ap begins_number is.1 ∙ begins_decimal n is.0

-- a number is text
pub IsUtf8-number : (bytes : List ℕ) (n : ℕ) → IsNumber bytes n → IsUtf8 bytes
IsUtf8-number bytes n is = subst IsUtf8 (sym is.1) (IsUtf8-from_ascii (decimal n) (IsAscii-decimal n is.0))

-- what is parsed and begun like a number spells it
pub IsNumber-parsed : {E : Type 0} (bytes digits : List ℕ) (n : ℕ) (r : Result ℕ E) → ParsesUnsigned 64 10 digits r → r ≡ Ok n → digits ≡ bytes → begins_number bytes ≡ true → IsNumber bytes n
IsNumber-parsed {E = E} bytes digits n (Err e) parsed is same begun = absurd cc
IsNumber-parsed {E = E} bytes digits n (Ok m) parsed is same begun =
    let number : m ≡ n = cc in
    let plain = parse_plain own {E = E} 64 bytes (Ok m) (subst (λ (ds : List ℕ). ParsesUnsigned {E = E} 64 10 ds (Ok m)) same parsed) (no_plus bytes begun) in
    let spelled = decimal-digits_value own bytes plain.0.0 plain.0.1 (one_zero bytes begun) plain.0.2 in
    let value : n ≡ digits_value 10 bytes = sym number ∙ plain.1 in
    (rw value plain.0.2, sym (rw value spelled))

-- what isn't parsed spells no number
pub no_number : {E : Type 0} (bytes digits : List ℕ) (n : ℕ) (r : Result ℕ E) (e : E) → ParsesUnsigned 64 10 digits r → r ≡ Err e → digits ≡ bytes → IsNumber bytes n → ⊥
no_number bytes digits n r e parsed is_err same is = let bad = parse-decimal 64 n digits r is.0 is.0 (same ∙ is.1) parsed in cc
