-- Where a number or a quoted text ends in a text that goes on.
use Rattle.std.proofs.Common.{◌≡◌, ℕ, suc, ◌≤◌, List, [], ◌∷◌, ◌++◌, ℤ, pos, negsuc, Option, Some, FitsSigned, w64, decimal, refl, sym, ap, ◌∙◌, arith, append_assoc}
use Rattle.std.specs.Prelude.{⊤}
use Rattle.std.specs.Char.{digit_value}
use Rattle.std.specs.Fmt.{signed_decimal}
use Rattle.std.specs.Str.Parse.{AllDigits, IsNumeral}
use Rattle.std.proofs.lemmas.Fmt.{decimal_is_IsNumeral, signed_decimal_injective}
use Rattle.std.proofs.lemmas.List.{append_cancel_left}
use Rattle.json.proofs.Printed.Strings.{content-escape}
use Rattle.json.specs.Print.{escape, quoted}
use Rattle.json.specs.Text.{content, plain}

-- what follows doesn't go on with a digit
abbrev pub EndsNumber : List ℕ → Type 0
EndsNumber [] = ⊤
EndsNumber (c ∷ rest) = 10 ≤ digit_value c

pub digits_end : (ds es r s : List ℕ) → AllDigits 10 ds → AllDigits 10 es → EndsNumber r → EndsNumber s → ds ++ r ≡ es ++ s → (ds ≡ es) × (r ≡ s)
digits_end [] [] r s d e p q same = (refl, same)
digits_end [] (c ∷ es) [] s d e p q same = absurd cc
digits_end [] (c ∷ es) (x ∷ r) s d e p q same = let here : x ≡ c = cc in absurd (omega (arith, ap digit_value here, e.0))
digits_end (c ∷ ds) [] r [] d e p q same = absurd cc
digits_end (c ∷ ds) [] r (x ∷ s) d e p q same = let here : x ≡ c = cc in absurd (omega (arith, ap digit_value here, d.0))
digits_end (c ∷ ds) (x ∷ es) r s d e p q same =
    let here : c ≡ x = cc in
    let after : ds ++ r ≡ es ++ s = cc in
    let rest = digits_end ds es r s d.1 e.1 p q after in
    (λ i. here i ∷ rest.0 i, rest.1)

-- a number begins with a digit
no_minus : (ds r s : List ℕ) → IsNumeral 10 ds → ds ++ r ≡ 45 ∷ s → ⊥
no_minus [] r s numeral e = omega (arith, numeral.0)
no_minus (c ∷ ds) r s numeral e = let here : c ≡ 45 = cc in omega (arith, ap digit_value here, numeral.1.0)

pub numbers_end : (m n : ℤ) (r s : List ℕ) → FitsSigned w64 m → FitsSigned w64 n → EndsNumber r → EndsNumber s → signed_decimal m ++ r ≡ signed_decimal n ++ s → (m ≡ n) × (r ≡ s)
numbers_end (pos m) (pos n) r s fm fn p q e =
    let parts = digits_end (decimal m) (decimal n) r s (decimal_is_IsNumeral m (omega arith)).0.1 (decimal_is_IsNumeral n (omega arith)).0.1 p q e in
    (signed_decimal_injective (pos m) (pos n) (omega arith) (omega arith) parts.0, parts.1)
numbers_end (pos m) (negsuc n) r s fm fn p q e = absurd (no_minus (decimal m) r _ (decimal_is_IsNumeral m (omega arith)).0 e)
numbers_end (negsuc m) (pos n) r s fm fn p q e = absurd (no_minus (decimal n) s _ (decimal_is_IsNumeral n (omega arith)).0 (sym e))
numbers_end (negsuc m) (negsuc n) r s fm fn p q e =
    let after : decimal (suc m) ++ r ≡ decimal (suc n) ++ s = cc in
    let parts = digits_end (decimal (suc m)) (decimal (suc n)) r s (decimal_is_IsNumeral (suc m) (omega arith)).0.1 (decimal_is_IsNumeral (suc n) (omega arith)).0.1 p q after in
    (signed_decimal_injective (negsuc m) (negsuc n) (omega arith) (omega arith) (ap (λ ds. 45 ∷ ds) parts.0), parts.1)

Some_injective : (s t : List ℕ) → ◌≡◌ {A = Option (List ℕ)} (Some s) (Some t) → s ≡ t
Some_injective s t e = cc

-- a quoted text is read back up to its closing quote
pub quoted_end : (s t r q : List ℕ) → quoted s ++ r ≡ quoted t ++ q → (s ≡ t) × (r ≡ q)
quoted_end s t r q e =
    let after : (escape s ++ 34 ∷ []) ++ r ≡ (escape t ++ 34 ∷ []) ++ q = cc in
    let opened : escape s ++ 34 ∷ r ≡ escape t ++ 34 ∷ q = sym (append_assoc (escape s) (34 ∷ []) r) ∙ after ∙ append_assoc (escape t) (34 ∷ []) q in
    let same : s ≡ t = Some_injective s t (sym (content-escape s r) ∙ ap (content plain) opened ∙ content-escape t q) in
    let closed : 34 ∷ r ≡ 34 ∷ q = append_cancel_left (escape s) (34 ∷ r) (34 ∷ q) (opened ∙ ap (λ u. escape u ++ 34 ∷ q) (sym same)) in
    (same, cc)
