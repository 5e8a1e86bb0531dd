-- Lengths of compact texts.
use Rattle.std.proofs.Common.{◌<◌, ◌≤◌, decimal, ◌/◌, ◌^◌, ◌∙◌, ap, ◌≡◌, ℕ, ◌+◌, List, length, Bool, true, false, cond, nat_lt, sum_by, refl, arith, length-append}
use Rattle.std.proofs.lemmas.List.Concat.{length-flat_map}
use Rattle.std.proofs.lemmas.Fmt.{decimal_digit, decimal_step}
use Rattle.json.specs.Print.{escape_byte, escape_letter, quoted}

length-choice : (short control : Bool) (a b c : List ℕ) (i j k : ℕ) → length a ≡ i → length b ≡ j → length c ≡ k → length (cond short a (cond control b c)) ≡ cond short i (cond control j k)
length-choice true control a b c i j k p q r = p
length-choice false true a b c i j k p q r = q
length-choice false false a b c i j k p q r = r

-- two bytes for a short escape, six for another control byte, and one for any other byte
pub length-escape_byte : (x : ℕ) → length (escape_byte x) ≡ cond (nat_lt 0 (escape_letter x)) 2 (cond (nat_lt x 32) 6 1)
unfolding escape_byte
length-escape_byte x = length-choice (nat_lt 0 (escape_letter x)) (nat_lt x 32) _ _ _ 2 6 1 refl refl refl

-- the quotes and what stands between them
pub length-quoted : (text : List ℕ) → length (quoted text) ≡ 2 + sum_by (λ b. length (escape_byte b)) text
length-quoted text = grind (arith, length-append, length-flat_map)

pub length-decimal_digit : (n : ℕ) → n < 10 → length (decimal n) ≡ 1
length-decimal_digit n small = ap length (decimal_digit n small)

pub length-decimal_step : (n : ℕ) → 10 ≤ n → n < 2 ^ 64 → length (decimal n) ≡ length (decimal (n / 10)) + 1
length-decimal_step n large fits = ap length (decimal_step n large fits) ∙ length-append (decimal (n / 10)) _
