-- Keys as places in decimal, and paths as keys.
use Rattle.std.proofs.Common.{unwrap_or, Bor, option_and_then, bytes_eq, not, add-zero, ◌≡◌, ◌≢◌, ℕ, zero, suc, ◌+◌, ◌<◌, ◌≤◌, ◌^◌, ◌==◌, Bool, true, false, cond, List, [], ◌∷◌, length, get_or, take, drop, Option, Some, None, Result, Ok, Err, MatchOption, decimal, refl, sym, ap, ◌∙◌, subst, arith, rules}
use Rattle.std.specs.List.{slice_split, onto_first, before_first, after_first, position_or_len, slice_get}
use Rattle.std.proofs.lemmas.Bool.{false_from_ne_true}
use Rattle.std.proofs.lemmas.Slice.Eq.{bytes_eq-Decides}
use Rattle.std.proofs.lemmas.Str.Pattern.{IsSplitOnceResult, split_once_first}
use Rattle.xs_model.specs.Paths.{member_at, path_step, walk}
use Rattle.xs_model.specs.declared.value.Value.{Value, the_lemmas}
use Rattle.xs_model.specs.declared.value.Value.TheVariants as value
use Rattle.std.specs.Result.{result_ok}
use Rattle.std.proofs.Math.Numerals.{one-add}
use Rattle.std.proofs.Math.Nat.{suc-add}
use Rattle.std.specs.Str.Parse.{AllDigits, digits_value, ParsesUnsigned}
use Rattle.std.proofs.lemmas.Fmt.{decimal_nonempty, first_decimal, digits_decimal, digits_value-decimal, decimal-digits_value, decimal_digit, decimal_injective}
use Rattle.std.proofs.lemmas.Str.Parse.{IsNumeralModel, numerals_by_value, tells_digits, parse_plain, not_in_digits}

-- no place below 2 ^ 63 is written so
abbrev pub IsNoPlace : List ℕ → Type 0
IsNoPlace key = (n : ℕ) → n < 2 ^ 63 → decimal n ≢ key

none_is_some : {x : ℕ} → ◌≡◌ {A = Option ℕ} None (Some x) → ⊥
none_is_some e = cc

own : IsNumeralModel (AllDigits 10) (digits_value 10)
own = numerals_by_value (AllDigits 10) tells_digits

pub no_place-empty : (key : List ℕ) → length key ≡ 0 → IsNoPlace key
no_place-empty key empty n small same =
    let some = decimal_nonempty n (omega (arith, small)) in
    let none : length (decimal n) ≡ 0 = ap length same ∙ empty in
    omega arith

pub no_place-plus : (key : List ℕ) → 0 < length key → get_or key 0 0 ≡ 43 → IsNoPlace key
no_place-plus key some plus n small same =
    let fits : n < 2 ^ 64 = omega (arith, small) in
    not_in_digits own (decimal n) 43 (digits_decimal own n fits) (λ h. omega (arith, h)) 0 (decimal_nonempty n fits) (ap (λ ds. get_or ds 0 0) same ∙ plus)

pub no_place-zero : (key : List ℕ) → get_or key 0 0 ≡ 48 → 1 < length key → IsNoPlace key
no_place-zero key first long zero small same =
    let one : length (decimal 0) ≡ 1 = ap length (decimal_digit 0 (omega arith)) in
    let long' : 1 < length (decimal 0) = rw same long in
    omega arith
no_place-zero key first long (suc n) small same =
    let above = first_decimal (suc n) (omega arith) (omega (arith, small)) in
    let is : get_or (decimal (suc n)) 0 0 ≡ 48 = ap (λ ds. get_or ds 0 0) same ∙ first in
    omega arith

-- what `parse` gives for a key without a plus and without leading zeros
pub parsed : {E : Type 0} (key : List ℕ) (r : Result ℕ E) → ParsesUnsigned 64 10 key r → get_or key 0 0 ≢ 43 → (get_or key 0 0 ≡ 48 → length key ≡ 1) → MatchOption (result_ok r) (IsNoPlace key) (λ n. (decimal n ≡ key) × (n < 2 ^ 64))
parsed {E = E} key (Ok n) parses no_plus alone =
    let h = parse_plain own {E = E} 64 key (Ok n) parses no_plus in
    rw h.1 (decimal-digits_value own key h.0.0 h.0.1 alone h.0.2, h.0.2)
parsed {E = E} key (Err e) parses no_plus alone = λ n small same.
    let h = parse_plain own {E = E} 64 key (Err e) parses no_plus in
    let fits : n < 2 ^ 64 = omega (arith, small) in
    let is : digits_value 10 key ≡ n = ap (digits_value 10) (sym same) ∙ digits_value-decimal own n fits in
    h (subst (AllDigits 10) same (digits_decimal own n fits), subst (λ ds. 0 < length ds) same (decimal_nonempty n fits), rw is fits)

pub first_is : (xs : List ℕ) (b : ℕ) → Some b ≡ slice_get xs 0 → (get_or xs 0 0 ≡ b) × (0 < length xs)
first_is [] b e = absurd (none_is_some (sym e))
first_is (x ∷ xs) b e = (ap (λ o. unwrap_or o x) (sym e), omega arith)

pub no_first : (xs : List ℕ) → None ≡ slice_get xs 0 → length xs ≡ 0
no_first [] e = refl
no_first (x ∷ xs) e = absurd (none_is_some e)

-- ---- members of lists

pub member_at-none : (key : List ℕ) (place : ℕ) (members : List Value) → place + length members ≤ 2 ^ 63 → IsNoPlace key → member_at key place members ≡ None
member_at-none key place [] fits none = refl
member_at-none key place (m ∷ members) fits none =
    let other : bytes_eq key (decimal place) ≡ false = false_from_ne_true _ (λ same. none place (omega (arith, fits)) (sym ((bytes_eq-Decides key (decimal place)).0 same))) in
    rw other (member_at-none key (suc place) members (omega (arith, fits)) none)

pub member_at-some : (key : List ℕ) (place later : ℕ) (members : List Value) → place + length members ≤ 2 ^ 63 → place + later < 2 ^ 64 → decimal (place + later) ≡ key → member_at key place members ≡ slice_get members later
member_at-some key place later [] fits below is = refl
member_at-some key place zero (m ∷ members) fits below is =
    let here : bytes_eq key (decimal place) ≡ true = (bytes_eq-Decides key (decimal place)).1 (sym is ∙ ap decimal (add-zero place)) in
    rw here refl
member_at-some key place (suc later) (m ∷ members) fits below is =
    let other : bytes_eq key (decimal place) ≡ false = false_from_ne_true _ (λ same.
    let twice = decimal_injective (place + suc later) place below (omega (arith, fits)) (is ∙ (bytes_eq-Decides key (decimal place)).0 same) in omega (arith, twice)) in
    rw other (member_at-some key (suc place) later members (omega (arith, fits)) (omega (arith, below)) (ap decimal (let e : suc place + later ≡ place + suc later = omega arith in e) ∙ is))

-- ---- keys between dots

module _ (p : ℕ → Bool) where
  pub split-none : (xs : List ℕ) → position_or_len p xs ≡ length xs → slice_split p xs ≡ xs ∷ []
  split-none [] whole = refl
  split-none (x ∷ xs) whole = cases (split-none xs) (p x) refl whole
    where
      cases : (position_or_len p xs ≡ length xs → slice_split p xs ≡ xs ∷ []) → (b : Bool) → p x ≡ b → cond (not b) (1 + position_or_len p xs) 0 ≡ suc (length xs)
          → cond b ([] ∷ slice_split p xs) (onto_first x (slice_split p xs)) ≡ (x ∷ xs) ∷ []
      cases rest true is whole = absurd (omega (arith, whole))
      cases rest false is whole = rw (rest (omega (arith, whole))) refl

  pub split-some : (xs : List ℕ) → position_or_len p xs < length xs → slice_split p xs ≡ before_first p xs ∷ slice_split p (after_first p xs)
  split-some [] within = absurd (omega (arith, within))
  split-some (x ∷ xs) within = cases (split-some xs) (p x) within
    where
      cases : (position_or_len p xs < length xs → slice_split p xs ≡ before_first p xs ∷ slice_split p (after_first p xs)) → (b : Bool) → cond (not b) (1 + position_or_len p xs) 0 < suc (length xs)
          → cond b ([] ∷ slice_split p xs) (onto_first x (slice_split p xs))
          ≡ take (cond (not b) (1 + position_or_len p xs) 0) (x ∷ xs) ∷ slice_split p (drop (cond (not b) (1 + position_or_len p xs) 0 + 1) (x ∷ xs))
      cases rest true within = refl
      cases rest false within = rw (rest (omega (arith, within)), one-add (position_or_len p xs), suc-add (position_or_len p xs) 1) refl

-- ---- one path_step

pub path_step-List : (key : List ℕ) (members : List Value) → path_step key (value.List members) ≡ member_at key 0 members
path_step-List key members = search (rules, the_lemmas)

-- ---- the keys of a path, one at a time

abbrev is_dot : ℕ → Bool
is_dot c = c == 46

pub cut_once : (text : List ℕ) (r : Option (Bor (List ℕ) × Bor (List ℕ))) (key later : Bor (List ℕ)) → IsSplitOnceResult 46 text r → r ≡ Some (key, later) → slice_split is_dot text ≡ key.now ∷ slice_split is_dot later.now
cut_once text r key later result is =
    let cut : (position_or_len is_dot text < length text) × (key.now ≡ before_first is_dot text) × (later.now ≡ after_first is_dot text)
    = subst (λ r. MatchOption r (position_or_len is_dot text ≡ length text) (λ x. (position_or_len is_dot text < length text) × (x.0.now ≡ before_first is_dot text) × (x.1.now ≡ after_first is_dot text))) is
    (split_once_first 46 text r result (omega arith)) in
    rw (cut.1, cut.2) (split-some is_dot text cut.0)

pub uncut : (text : List ℕ) (r : Option (Bor (List ℕ) × Bor (List ℕ))) → IsSplitOnceResult 46 text r → r ≡ None → slice_split is_dot text ≡ text ∷ []
uncut text r result is =
    split-none is_dot text (subst (λ r. MatchOption r (position_or_len is_dot text ≡ length text) (λ x. (position_or_len is_dot text < length text) × (x.0.now ≡ before_first is_dot text) × (x.1.now ≡ after_first is_dot text))) is
    (split_once_first 46 text r result (omega arith)))

pub walk-missing : (key : List ℕ) (keys : List (List ℕ)) (v : Value) → None ≡ path_step key v → walk (key ∷ keys) v ≡ None
walk-missing key keys v e = ap (option_and_then (walk keys)) (sym e)

pub walk-found : (key : List ℕ) (keys : List (List ℕ)) (v w : Value) → Some w ≡ path_step key v → walk (key ∷ keys) v ≡ walk keys w
walk-found key keys v w e = ap (option_and_then (walk keys)) (sym e)

pub walk-last : (key : List ℕ) (v : Value) → walk (key ∷ []) v ≡ path_step key v
walk-last key v = same (path_step key v)
  where
    same : (o : Option Value) → option_and_then (λ w. Some w) o ≡ o
    same None = refl
    same (Some w) = refl
