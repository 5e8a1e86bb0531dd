-- The characters of a string, back from what the reader makes of their bytes.
use Rattle.std.proofs.Common.{◌≡◌, [], ◌∷◌, ◌++◌, ℕ, ◌+◌, ◌*◌, ◌/◌, ◌%◌, ◌≤◌, ◌<◌, Bool, true, false, cond, ◌&&◌, ◌==◌, ◌⊎◌, inl, inr, List, refl, ap, sym, ◌∙◌, arith, subst, append_assoc}
use Rattle.std.specs.Bool.{⊤}
use Rattle.std.specs.Prelude.{encode_utf8, nat_le, nat_lt, not}
use Rattle.std.specs.Char.{digit_value, is_digit, IsScalar}
use Rattle.std.proofs.lemmas.Bool.Decides.{nat_tests}
use lib.Utf8.{scalar, encode}
use Rattle.ordered_json.specs.declared.mode.Spelled.{Spelled}
use Rattle.ordered_json.specs.declared.mode.Spelled.TheVariants as spelled
use Rattle.ordered_json.specs.declared.mode.Spelling.{Spelling}
use Rattle.ordered_json.specs.declared.mode.Spelling.TheVariants as at
use Rattle.ordered_json.specs.Grammar.{Char, plain, escaped, coded, paired, CodeUnit, are_hex, is_high_surrogate, is_low_surrogate, escape_value, IsChar, print_char}
use Rattle.ordered_json.specs.Meaning.{char_value, pair_value}
use Rattle.ordered_json.specs.declared.mode.Unit.{Unit as HexUnit}
use Rattle.ordered_json.specs.Spell.{spell, is_no_low, char_of, two_bytes, three_bytes, four_bytes, is_second, is_tail, is_lead, hex_unit, hex_value, unit_end, pair_end, after_second, after_third}
use Rattle.ordered_json.proofs.StringLemmas.{is_below, is_above, below, above, and_true, digit_below, encode_one, encode_two, encode_three, encode_four, scalar_char, unit_scalar, pair_scalar}

-- the bytes that are read of a character
abbrev pub unit_bytes : HexUnit → List ℕ
unit_bytes u = 92 ∷ 117 ∷ u.first ∷ u.second ∷ u.third ∷ u.fourth ∷ []

abbrev pub spelled_bytes : Spelling → List ℕ
spelled_bytes at.Between = []
spelled_bytes at.Backslash = 92 ∷ []
spelled_bytes at.Hex0 = 92 ∷ 117 ∷ []
spelled_bytes (at.Hex1 a) = 92 ∷ 117 ∷ a ∷ []
spelled_bytes (at.Hex2 a b) = 92 ∷ 117 ∷ a ∷ b ∷ []
spelled_bytes (at.Hex3 a b c) = 92 ∷ 117 ∷ a ∷ b ∷ c ∷ []
spelled_bytes (at.High u) = unit_bytes u
spelled_bytes (at.HighBackslash u) = unit_bytes u ++ 92 ∷ []
spelled_bytes (at.Low0 u) = unit_bytes u ++ 92 ∷ 117 ∷ []
spelled_bytes (at.Low1 u a) = unit_bytes u ++ 92 ∷ 117 ∷ a ∷ []
spelled_bytes (at.Low2 u a b) = unit_bytes u ++ 92 ∷ 117 ∷ a ∷ b ∷ []
spelled_bytes (at.Low3 u a b c) = unit_bytes u ++ 92 ∷ 117 ∷ a ∷ b ∷ c ∷ []
spelled_bytes (at.Lead1 a) = a ∷ []
spelled_bytes (at.Lead2 a b) = a ∷ b ∷ []
spelled_bytes (at.Lead3 a b c) = a ∷ b ∷ c ∷ []

abbrev pub unit_of : HexUnit → CodeUnit
unit_of u = record { first = u.first; second = u.second; third = u.third; fourth = u.fourth }

abbrev pub IsHigh : HexUnit → Type 0
IsHigh u = (are_hex (unit_of u) ≡ true) × (is_high_surrogate (hex_value u) ≡ true)

-- the bytes are right so far
abbrev pub IsSpelling : Spelling → Type 0
IsSpelling at.Between = ⊤
IsSpelling at.Backslash = ⊤
IsSpelling at.Hex0 = ⊤
IsSpelling (at.Hex1 a) = is_digit a 16 ≡ true
IsSpelling (at.Hex2 a b) = (is_digit a 16 ≡ true) × (is_no_low a b ≡ true)
IsSpelling (at.Hex3 a b c) = (is_digit a 16 ≡ true) × (is_no_low a b ≡ true) × (is_digit c 16 ≡ true)
IsSpelling (at.High u) = IsHigh u
IsSpelling (at.HighBackslash u) = IsHigh u
IsSpelling (at.Low0 u) = IsHigh u
IsSpelling (at.Low1 u a) = IsHigh u × (digit_value a == 13 ≡ true)
IsSpelling (at.Low2 u a b) = IsHigh u × (digit_value a == 13 ≡ true) × (is_digit b 16 && nat_le 12 (digit_value b) ≡ true)
IsSpelling (at.Low3 u a b c) = IsHigh u × (digit_value a == 13 ≡ true) × (is_digit b 16 && nat_le 12 (digit_value b) ≡ true) × (is_digit c 16 ≡ true)
IsSpelling (at.Lead1 a) = is_lead a ≡ true
IsSpelling (at.Lead2 a b) = (is_lead a ≡ true) × (is_second a b ≡ true) × (nat_lt a 0xE0 ≡ false)
IsSpelling (at.Lead3 a b c) = (is_lead a ≡ true) × (is_second a b ≡ true) × (is_tail c ≡ true) × (nat_lt a 0xF0 ≡ false)

-- a character that these bytes spell
abbrev pub SpellsChar : List ℕ → ℕ → Type 0
SpellsChar bytes v = (c : Char) × IsChar c × (char_value c ≡ v) × (print_char c ≡ bytes)

-- what the reader makes of a byte is right
abbrev pub IsRight : Spelling → ℕ → Spelled → Type 0
IsRight s b (spelled.More t) = IsSpelling t × (spelled_bytes t ≡ spelled_bytes s ++ b ∷ [])
IsRight s b (spelled.Char v) = SpellsChar (spelled_bytes s ++ b ∷ []) v
IsRight s b spelled.End = (spelled_bytes s ≡ []) × (b ≡ 34)
IsRight s b spelled.Bad = ⊤

test_right : (s : Spelling) (b : ℕ) (x y : Spelled) (t : Bool) → (t ≡ true → IsRight s b x) → (t ≡ false → IsRight s b y) → IsRight s b (cond t x y)
test_right s b x y true h k = h refl
test_right s b x y false h k = k refl

-- ---- UTF-8
lead_facts : (a : ℕ) → is_lead a ≡ true → (194 ≤ a) × (a < 245)
lead_facts a h = (grind (arith, nat_tests), grind (arith, nat_tests))

tail_facts : (b : ℕ) → is_tail b ≡ true → (128 ≤ b) × (b < 192)
tail_facts b h = (grind (arith, nat_tests), grind (arith, nat_tests))

second_facts : (a b : ℕ) → is_second a b ≡ true → (128 ≤ b) × (b < 192)
second_facts a b h = (grind (arith, nat_tests), grind (arith, nat_tests))

-- what the second byte's range depends on
three_low : (a b : ℕ) → is_second a b ≡ true → 224 ≤ a → (225 ≤ a) ⊎ (160 ≤ b)
three_low a b h l = grind (arith, nat_tests)

three_high : (a b : ℕ) → is_second a b ≡ true → (a < 237) ⊎ ((238 ≤ a) ⊎ (b < 160))
three_high a b h = grind (arith, nat_tests)

four_low : (a b : ℕ) → is_second a b ≡ true → 240 ≤ a → (241 ≤ a) ⊎ (144 ≤ b)
four_low a b h l = grind (arith, nat_tests)

four_high : (a b : ℕ) → is_second a b ≡ true → a < 245 → (a < 244) ⊎ (b < 144)
four_high a b h l = grind (arith, nat_tests)

cons-eq : (a b : ℕ) (xs ys : List ℕ) → a ≡ b → xs ≡ ys → a ∷ xs ≡ b ∷ ys
cons-eq a b xs ys e f = cc

two_encoded : (a b : ℕ) → 194 ≤ a → a < 224 → 128 ≤ b → b < 192 → encode_utf8 (two_bytes a b) ≡ a ∷ b ∷ []
two_encoded a b al ah bl bh =
    let v = two_bytes a b in
    let vl : 128 ≤ two_bytes a b = omega arith in
    let vh : two_bytes a b < 2048 = omega arith in
    encode_two v (is_above v 128 vl) (is_below v 2048 vh)
    ∙ cons-eq (192 + v / 64) a ((128 + v % 64) ∷ []) (b ∷ []) (omega arith) (cons-eq (128 + v % 64) b [] [] (omega arith) refl)

three_encoded : (a b c : ℕ) → 224 ≤ a → a < 240 → 128 ≤ b → b < 192 → (225 ≤ a) ⊎ (160 ≤ b) → 128 ≤ c → c < 192 → encode_utf8 (three_bytes a b c) ≡ a ∷ b ∷ c ∷ []
three_encoded a b c al ah bl bh low cl ch =
    let v = three_bytes a b c in
    let vl : 2048 ≤ three_bytes a b c = omega arith in
    let vh : three_bytes a b c < 65536 = omega arith in
    encode_three v (is_above v 128 (omega arith)) (is_above v 2048 vl) (is_below v 65536 vh)
    ∙ cons-eq (224 + v / 4096) a ((128 + v / 64 % 64) ∷ (128 + v % 64) ∷ []) (b ∷ c ∷ []) (omega arith)
    (cons-eq (128 + v / 64 % 64) b ((128 + v % 64) ∷ []) (c ∷ []) (omega arith) (cons-eq (128 + v % 64) c [] [] (omega arith) refl))

four_encoded : (a b c d : ℕ) → 240 ≤ a → a < 245 → 128 ≤ b → b < 192 → (241 ≤ a) ⊎ (144 ≤ b) → (a < 244) ⊎ (b < 144) → 128 ≤ c → c < 192 → 128 ≤ d → d < 192 → encode_utf8 (four_bytes a b c d) ≡ a ∷ b ∷ c ∷ d ∷ []
four_encoded a b c d al ah bl bh low high cl ch dl dh =
    let v = four_bytes a b c d in
    let vl : 65536 ≤ four_bytes a b c d = omega arith in
    encode_four v (is_above v 128 (omega arith)) (is_above v 2048 (omega arith)) (is_above v 65536 vl)
    ∙ cons-eq (240 + v / 262144) a ((128 + v / 4096 % 64) ∷ (128 + v / 64 % 64) ∷ (128 + v % 64) ∷ []) (b ∷ c ∷ d ∷ []) (omega arith)
    (cons-eq (128 + v / 4096 % 64) b ((128 + v / 64 % 64) ∷ (128 + v % 64) ∷ []) (c ∷ d ∷ []) (omega arith)
    (cons-eq (128 + v / 64 % 64) c ((128 + v % 64) ∷ []) (d ∷ []) (omega arith) (cons-eq (128 + v % 64) d [] [] (omega arith) refl)))

is_scalar_in : (c : ℕ) → (c < 55296) ⊎ ((57344 ≤ c) × (c < 1114112)) → IsScalar c
is_scalar_in c (inl h) = grind (arith, nat_tests)
is_scalar_in c (inr h) = grind (arith, nat_tests)

two_scalar : (a b : ℕ) → 194 ≤ a → a < 224 → 128 ≤ b → b < 192 → IsScalar (two_bytes a b)
two_scalar a b al ah bl bh = is_scalar_in (two_bytes a b) (inl (omega arith))

three_scalar : (a b c : ℕ) → 224 ≤ a → a < 240 → 128 ≤ b → b < 192 → (a < 237) ⊎ ((238 ≤ a) ⊎ (b < 160)) → 128 ≤ c → c < 192 → IsScalar (three_bytes a b c)
three_scalar a b c al ah bl bh (inl l) cl ch = is_scalar_in (three_bytes a b c) (inl (omega arith))
three_scalar a b c al ah bl bh (inr (inl l)) cl ch = is_scalar_in (three_bytes a b c) (inr (omega arith, omega arith))
three_scalar a b c al ah bl bh (inr (inr l)) cl ch = below_238 (split a)
  where
    split : (n : ℕ) → (n < 238) ⊎ (238 ≤ n)
    split n = grind arith

    below_238 : (a < 238) ⊎ (238 ≤ a) → IsScalar (three_bytes a b c)
    below_238 (inl m) = is_scalar_in (three_bytes a b c) (inl (omega arith))
    below_238 (inr m) = is_scalar_in (three_bytes a b c) (inr (omega arith, omega arith))

four_scalar : (a b c d : ℕ) → 240 ≤ a → a < 245 → 128 ≤ b → b < 192 → (241 ≤ a) ⊎ (144 ≤ b) → (a < 244) ⊎ (b < 144) → 128 ≤ c → c < 192 → 128 ≤ d → d < 192 → IsScalar (four_bytes a b c d)
four_scalar a b c d al ah bl bh low high cl ch dl dh = is_scalar_in (four_bytes a b c d) (inr (omega arith, omega arith))

plain_high : (v : ℕ) → IsScalar v → 128 ≤ v → IsChar (plain v)
plain_high v s h = (s, omega arith, grind (arith, nat_tests), grind (arith, nat_tests))

low_is_scalar : (v : ℕ) → v < 128 → IsScalar v
low_is_scalar v h = is_scalar_in v (inl (omega arith))

pub eq_at : (a b : ℕ) → a == b ≡ true → a ≡ b
eq_at a b h = grind (arith, nat_tests)

-- ---- code units
no_low_back : (a b c d : ℕ) → a < 16 → b < 16 → c < 16 → d < 16 → not ((a == 13) && nat_le 12 b) ≡ true → is_low_surrogate (((a * 16 + b) * 16 + c) * 16 + d) ≡ false
no_low_back a b c d ha hb hc hd h = grind (arith, nat_tests)

low_from : (a b c d : ℕ) → a == 13 ≡ true → b < 16 → nat_le 12 b ≡ true → c < 16 → d < 16 → is_low_surrogate (((a * 16 + b) * 16 + c) * 16 + d) ≡ true
low_from a b c d ha hb hl hc hd = grind (arith, nat_tests)

both : (x y : Bool) → x ≡ true → y ≡ true → (x && y) ≡ true
both x y e f = rw (e, f) refl

thirteen_digit : (n : ℕ) → n == 13 ≡ true → nat_lt n 16 ≡ true
thirteen_digit n h = grind (arith, nat_tests)

hex_of : (a b c d : ℕ) → is_digit a 16 ≡ true → is_digit b 16 ≡ true → is_digit c 16 ≡ true → is_digit d 16 ≡ true → are_hex (unit_of (hex_unit a b c d)) ≡ true
hex_of a b c d ha hb hc hd = both (is_digit a 16 && is_digit b 16) (is_digit c 16 && is_digit d 16) (both (is_digit a 16) (is_digit b 16) ha hb) (both (is_digit c 16) (is_digit d 16) hc hd)

unit_right : (a b c d : ℕ) → IsSpelling (at.Hex3 a b c) → is_digit d 16 ≡ true → IsRight (at.Hex3 a b c) d (unit_end (hex_unit a b c d))
unit_right a b c d s h =
    let u = hex_unit a b c d in
    let second = and_true (is_digit b 16) (not ((digit_value a == 13) && nat_le 12 (digit_value b))) s.1 in
    let hex = hex_of a b c d s.0 second.0 s.2 h in
    let low = no_low_back (digit_value a) (digit_value b) (digit_value c) (digit_value d) (digit_below a s.0) (digit_below b second.0) (digit_below c s.2) (digit_below d h) second.1 in
    test_right (at.Hex3 a b c) d (spelled.More (at.High u)) (char_of (hex_value u)) (is_high_surrogate (hex_value u)) (λ e. ((hex, e), refl))
    (λ e. test_right (at.Hex3 a b c) d (spelled.Char (hex_value u)) spelled.Bad (scalar (hex_value u)) (λ f. (coded (unit_of u), (hex, e, low), refl, refl)) (λ f. tt))

pair_right : (u : HexUnit) (a b c d : ℕ) → IsSpelling (at.Low3 u a b c) → is_digit d 16 ≡ true → IsRight (at.Low3 u a b c) d (pair_end u (hex_unit a b c d))
pair_right u a b c d s h =
    let w = hex_unit a b c d in
    let second = and_true (is_digit b 16) (nat_le 12 (digit_value b)) s.2 in
    let hex = hex_of a b c d (thirteen_digit (digit_value a) s.1) second.0 s.3 h in
    test_right (at.Low3 u a b c) d (char_of (pair_value (hex_value u) (hex_value w))) spelled.Bad (is_high_surrogate (hex_value u) && is_low_surrogate (hex_value w))
    (λ e. test_right (at.Low3 u a b c) d (spelled.Char (pair_value (hex_value u) (hex_value w))) spelled.Bad (scalar (pair_value (hex_value u) (hex_value w)))
    (λ f. let halves = and_true (is_high_surrogate (hex_value u)) (is_low_surrogate (hex_value w)) e in (paired (unit_of u) (unit_of w), (s.0.0, hex, halves.0, halves.1), refl, refl)) (λ f. tt))
    (λ e. tt)

-- ---- every byte
second_right : (a b : ℕ) → is_lead a ≡ true → is_second a b ≡ true → IsRight (at.Lead1 a) b (after_second a b)
second_right a b l s =
    let la = lead_facts a l in
    let lb = second_facts a b s in
    test_right (at.Lead1 a) b (char_of (two_bytes a b)) (spelled.More (at.Lead2 a b)) (nat_lt a 0xE0)
    (λ e. let small : a < 224 = below a 224 e in
    test_right (at.Lead1 a) b (spelled.Char (two_bytes a b)) spelled.Bad (scalar (two_bytes a b))
    (λ f. (plain (two_bytes a b), plain_high (two_bytes a b) f (omega arith), refl, two_encoded a b la.0 small lb.0 lb.1)) (λ f. tt))
    (λ e. ((l, s, e), refl))

third_right : (a b c : ℕ) → IsSpelling (at.Lead2 a b) → is_tail c ≡ true → IsRight (at.Lead2 a b) c (after_third a b c)
third_right a b c s t =
    let la = lead_facts a s.0 in
    let lb = second_facts a b s.1 in
    let lc = tail_facts c t in
    let over : 224 ≤ a = above a 224 s.2 in
    test_right (at.Lead2 a b) c (char_of (three_bytes a b c)) (spelled.More (at.Lead3 a b c)) (nat_lt a 0xF0)
    (λ e. let small : a < 240 = below a 240 e in
    let v = three_bytes a b c in
    let low : (225 ≤ a) ⊎ (160 ≤ b) = three_low a b s.1 over in
    let big : 128 ≤ three_bytes a b c = omega arith in
    test_right (at.Lead2 a b) c (spelled.Char v) spelled.Bad (scalar v)
    (λ f. (plain v, plain_high v f big, refl, three_encoded a b c over small lb.0 lb.1 low lc.0 lc.1)) (λ f. tt))
    (λ e. ((s.0, s.1, t, e), refl))

fourth_right : (a b c d : ℕ) → IsSpelling (at.Lead3 a b c) → is_tail d ≡ true → IsRight (at.Lead3 a b c) d (char_of (four_bytes a b c d))
fourth_right a b c d s t =
    let la = lead_facts a s.0 in
    let lb = second_facts a b s.1 in
    let lc = tail_facts c s.2 in
    let ld = tail_facts d t in
    let over : 240 ≤ a = above a 240 s.3 in
    let v = four_bytes a b c d in
    let low : (241 ≤ a) ⊎ (144 ≤ b) = four_low a b s.1 over in
    let high : (a < 244) ⊎ (b < 144) = four_high a b s.1 la.1 in
    let big : 128 ≤ four_bytes a b c d = omega arith in
    test_right (at.Lead3 a b c) d (spelled.Char v) spelled.Bad (scalar v)
    (λ f. (plain v, plain_high v f big, refl, four_encoded a b c d over la.1 lb.0 lb.1 low high lc.0 lc.1 ld.0 ld.1)) (λ f. tt)

between_right : (b : ℕ) → IsRight at.Between b (spell at.Between b)
between_right b =
    test_right at.Between b spelled.End (cond (b == 92) (spelled.More at.Backslash) (cond (nat_lt b 32) spelled.Bad (cond (nat_lt b 128) (spelled.Char b) (cond (is_lead b) (spelled.More (at.Lead1 b)) spelled.Bad)))) (b == 34)
    (λ e. (refl, eq_at b 34 e))
    (λ q. test_right at.Between b (spelled.More at.Backslash) (cond (nat_lt b 32) spelled.Bad (cond (nat_lt b 128) (spelled.Char b) (cond (is_lead b) (spelled.More (at.Lead1 b)) spelled.Bad))) (b == 92)
    (λ e. (tt, cons-eq 92 b [] [] (sym (eq_at b 92 e)) refl))
    (λ s. test_right at.Between b spelled.Bad (cond (nat_lt b 128) (spelled.Char b) (cond (is_lead b) (spelled.More (at.Lead1 b)) spelled.Bad)) (nat_lt b 32)
    (λ e. tt)
    (λ l. test_right at.Between b (spelled.Char b) (cond (is_lead b) (spelled.More (at.Lead1 b)) spelled.Bad) (nat_lt b 128)
    (λ e. (plain b, (low_is_scalar b (below b 128 e), above b 32 l, q, s), refl, encode_one b e))
    (λ e. test_right at.Between b (spelled.More (at.Lead1 b)) spelled.Bad (is_lead b) (λ f. (f, refl)) (λ f. tt)))))

pub spell_right : (s : Spelling) (b : ℕ) → IsSpelling s → IsRight s b (spell s b)
spell_right at.Between b s = between_right b
spell_right at.Backslash b s =
    test_right at.Backslash b (spelled.More at.Hex0) (cond (escape_value b == 0) spelled.Bad (spelled.Char (escape_value b))) (b == 117)
    (λ e. (tt, cons-eq 92 92 (117 ∷ []) (b ∷ []) refl (cons-eq 117 b [] [] (sym (eq_at b 117 e)) refl)))
    (λ e. test_right at.Backslash b spelled.Bad (spelled.Char (escape_value b)) (escape_value b == 0) (λ f. tt) (λ f. (escaped b, f, refl, refl)))
spell_right at.Hex0 b s = test_right at.Hex0 b (spelled.More (at.Hex1 b)) spelled.Bad (is_digit b 16) (λ e. (e, refl)) (λ e. tt)
spell_right (at.Hex1 a) b s = test_right (at.Hex1 a) b (spelled.More (at.Hex2 a b)) spelled.Bad (is_no_low a b) (λ e. ((s, e), refl)) (λ e. tt)
spell_right (at.Hex2 a b) c s = test_right (at.Hex2 a b) c (spelled.More (at.Hex3 a b c)) spelled.Bad (is_digit c 16) (λ e. ((s.0, s.1, e), refl)) (λ e. tt)
spell_right (at.Hex3 a b c) d s = test_right (at.Hex3 a b c) d (unit_end (hex_unit a b c d)) spelled.Bad (is_digit d 16) (λ e. unit_right a b c d s e) (λ e. tt)
spell_right (at.High u) b s = test_right (at.High u) b (spelled.More (at.HighBackslash u)) spelled.Bad (b == 92) (λ e. (s, ap (λ n. unit_bytes u ++ n ∷ []) (sym (eq_at b 92 e)))) (λ e. tt)
spell_right (at.HighBackslash u) b s = test_right (at.HighBackslash u) b (spelled.More (at.Low0 u)) spelled.Bad (b == 117) (λ e. (s, ap (λ n. unit_bytes u ++ 92 ∷ n ∷ []) (sym (eq_at b 117 e)))) (λ e. tt)
spell_right (at.Low0 u) b s = test_right (at.Low0 u) b (spelled.More (at.Low1 u b)) spelled.Bad (digit_value b == 13) (λ e. ((s, e), refl)) (λ e. tt)
spell_right (at.Low1 u a) b s = test_right (at.Low1 u a) b (spelled.More (at.Low2 u a b)) spelled.Bad (is_digit b 16 && nat_le 12 (digit_value b)) (λ e. ((s.0, s.1, e), refl)) (λ e. tt)
spell_right (at.Low2 u a b) c s = test_right (at.Low2 u a b) c (spelled.More (at.Low3 u a b c)) spelled.Bad (is_digit c 16) (λ e. ((s.0, s.1, s.2, e), refl)) (λ e. tt)
spell_right (at.Low3 u a b c) d s = test_right (at.Low3 u a b c) d (pair_end u (hex_unit a b c d)) spelled.Bad (is_digit d 16) (λ e. pair_right u a b c d s e) (λ e. tt)
spell_right (at.Lead1 a) b s = test_right (at.Lead1 a) b (after_second a b) spelled.Bad (is_second a b) (λ e. second_right a b s e) (λ e. tt)
spell_right (at.Lead2 a b) c s = test_right (at.Lead2 a b) c (after_third a b c) spelled.Bad (is_tail c) (λ e. third_right a b c s e) (λ e. tt)
spell_right (at.Lead3 a b c) d s = test_right (at.Lead3 a b c) d (char_of (four_bytes a b c d)) spelled.Bad (is_tail d) (λ e. fourth_right a b c d s e) (λ e. tt)

-- ---- each beginning of a character goes on to one
pub record CanSpell (s : Spelling) : Type 0 where
  pub char : Char
  pub more : List ℕ
  pub is_char : IsChar char
  pub printed : print_char char ≡ spelled_bytes s ++ more

ends_at : (s : Spelling) (b v : ℕ) → IsSpelling s → spell s b ≡ spelled.Char v → CanSpell s
ends_at s b v h e =
    let right : IsRight s b (spelled.Char v) = subst (IsRight s b) e (spell_right s b h) in
    record { char = right.0; more = b ∷ []; is_char = right.1; printed = right.3 }

goes_to : (s : Spelling) (b : ℕ) (t : Spelling) → IsSpelling s → spell s b ≡ spelled.More t → (IsSpelling t → CanSpell t) → CanSpell s
goes_to s b t h e k =
    let right : IsRight s b (spelled.More t) = subst (IsRight s b) e (spell_right s b h) in
    let rest = k right.0 in
    record { char = rest.char; more = b ∷ rest.more; is_char = rest.is_char; printed = rest.printed ∙ (ap (λ w. w ++ rest.more) right.1 ∙ append_assoc (spelled_bytes s) (b ∷ []) rest.more) }

low3_spells : (u : HexUnit) (a b c : ℕ) → IsSpelling (at.Low3 u a b c) → CanSpell (at.Low3 u a b c)
low3_spells u a b c s =
    let w = hex_unit a b c 48 in
    let second = and_true (is_digit b 16) (nat_le 12 (digit_value b)) s.2 in
    let low = low_from (digit_value a) (digit_value b) (digit_value c) 0 s.1 (digit_below b second.0) second.1 (digit_below c s.3) (omega arith) in
    ends_at (at.Low3 u a b c) 48 (pair_value (hex_value u) (hex_value w)) s (rw (s.0.1, low) (scalar_char (pair_value (hex_value u) (hex_value w)) (pair_value (hex_value u) (hex_value w)) (pair_scalar (hex_value u) (hex_value w) s.0.1 low) refl))

low0_spells : (u : HexUnit) → IsHigh u → CanSpell (at.Low0 u)
low0_spells u s =
    goes_to (at.Low0 u) 68 (at.Low1 u 68) s refl
    (λ t. goes_to (at.Low1 u 68) 67 (at.Low2 u 68 67) t refl
    (λ v. goes_to (at.Low2 u 68 67) 48 (at.Low3 u 68 67 48) v refl (λ w. low3_spells u 68 67 48 w)))

high_spells : (u : HexUnit) → IsHigh u → CanSpell (at.High u)
high_spells u s = goes_to (at.High u) 92 (at.HighBackslash u) s refl (λ t. goes_to (at.HighBackslash u) 117 (at.Low0 u) t refl (λ v. low0_spells u v))

hex3_spells : (a b c : ℕ) → IsSpelling (at.Hex3 a b c) → CanSpell (at.Hex3 a b c)
hex3_spells a b c s = by (is_high_surrogate (hex_value u)) refl
  where
    u : HexUnit
    u = hex_unit a b c 48

    by : (x : Bool) → is_high_surrogate (hex_value (hex_unit a b c 48)) ≡ x → CanSpell (at.Hex3 a b c)
    by true e = goes_to (at.Hex3 a b c) 48 (at.High (hex_unit a b c 48)) s (rw e refl) (λ t. high_spells (hex_unit a b c 48) t)
    by false e =
        let second = and_true (is_digit b 16) (not ((digit_value a == 13) && nat_le 12 (digit_value b))) s.1 in
        let low = no_low_back (digit_value a) (digit_value b) (digit_value c) 0 (digit_below a s.0) (digit_below b second.0) (digit_below c s.2) (omega arith) second.1 in
        let ok = unit_scalar (digit_value a) (digit_value b) (digit_value c) 0 (digit_below a s.0) (digit_below b second.0) (digit_below c s.2) (omega arith) e low in
        ends_at (at.Hex3 a b c) 48 (hex_value (hex_unit a b c 48)) s (rw e (scalar_char (hex_value (hex_unit a b c 48)) (hex_value (hex_unit a b c 48)) ok refl))

zero_no_low : (a : ℕ) → is_no_low a 48 ≡ true
zero_no_low a = by (digit_value a == 13)
  where
    by : (x : Bool) → not (x && false) ≡ true
    by true = refl
    by false = refl

lead3_spells : (a b c : ℕ) → IsSpelling (at.Lead3 a b c) → CanSpell (at.Lead3 a b c)
lead3_spells a b c s =
    let la = lead_facts a s.0 in
    let lb = second_facts a b s.1 in
    let lc = tail_facts c s.2 in
    let over : 240 ≤ a = above a 240 s.3 in
    let ok = four_scalar a b c 128 over la.1 lb.0 lb.1 (four_low a b s.1 over) (four_high a b s.1 la.1) lc.0 lc.1 (omega arith) (omega arith) in
    ends_at (at.Lead3 a b c) 128 (four_bytes a b c 128) s (scalar_char (four_bytes a b c 128) (four_bytes a b c 128) ok refl)

lead2_spells : (a b : ℕ) → IsSpelling (at.Lead2 a b) → CanSpell (at.Lead2 a b)
lead2_spells a b s = by (nat_lt a 0xF0) refl
  where
    by : (x : Bool) → nat_lt a 0xF0 ≡ x → CanSpell (at.Lead2 a b)
    by true e =
        let lb = second_facts a b s.1 in
        let ok = three_scalar a b 128 (above a 224 s.2) (below a 240 e) lb.0 lb.1 (three_high a b s.1) (omega arith) (omega arith) in
        ends_at (at.Lead2 a b) 128 (three_bytes a b 128) s (rw e (scalar_char (three_bytes a b 128) (three_bytes a b 128) ok refl))
    by false e = goes_to (at.Lead2 a b) 128 (at.Lead3 a b 128) s (rw e refl) (λ t. lead3_spells a b 128 t)

-- some second byte
second_of : (a : ℕ) → (b : ℕ) × (is_second a b ≡ true)
second_of a = by (a == 0xE0) refl (a == 0xF0) refl
  where
    by : (x : Bool) → a == 0xE0 ≡ x → (y : Bool) → a == 0xF0 ≡ y → (b : ℕ) × (is_second a b ≡ true)
    by true e y f = (0xA0, grind (arith, nat_tests))
    by false e true f = (0x90, grind (arith, nat_tests))
    by false e false f = (0x80, grind (arith, nat_tests))

lead1_spells : (a : ℕ) → is_lead a ≡ true → CanSpell (at.Lead1 a)
lead1_spells a s = by (nat_lt a 0xE0) refl (second_of a)
  where
    by : (x : Bool) → nat_lt a 0xE0 ≡ x → (b : ℕ) × (is_second a b ≡ true) → CanSpell (at.Lead1 a)
    by true e second =
        let b = second.0 in
        let lb = second_facts a b second.1 in
        let ok = two_scalar a b (lead_facts a s).0 (below a 224 e) lb.0 lb.1 in
        ends_at (at.Lead1 a) b (two_bytes a b) s (rw (second.1, e) (scalar_char (two_bytes a b) (two_bytes a b) ok refl))
    by false e second = goes_to (at.Lead1 a) second.0 (at.Lead2 a second.0) s (rw (second.1, e) refl) (λ t. lead2_spells a second.0 t)

pub can_spell : (s : Spelling) → IsSpelling s → (s ≡ at.Between) ⊎ CanSpell s
can_spell at.Between s = inl refl
can_spell at.Backslash s = inr (ends_at at.Backslash 110 10 s refl)
can_spell at.Hex0 s = inr (goes_to at.Hex0 48 (at.Hex1 48) s refl (λ t. goes_to (at.Hex1 48) 48 (at.Hex2 48 48) t refl (λ v. goes_to (at.Hex2 48 48) 48 (at.Hex3 48 48 48) v refl (λ w. hex3_spells 48 48 48 w))))
can_spell (at.Hex1 a) s = inr (goes_to (at.Hex1 a) 48 (at.Hex2 a 48) s (rw (zero_no_low a) refl) (λ v. goes_to (at.Hex2 a 48) 48 (at.Hex3 a 48 48) v refl (λ w. hex3_spells a 48 48 w)))
can_spell (at.Hex2 a b) s = inr (goes_to (at.Hex2 a b) 48 (at.Hex3 a b 48) s refl (λ w. hex3_spells a b 48 w))
can_spell (at.Hex3 a b c) s = inr (hex3_spells a b c s)
can_spell (at.High u) s = inr (high_spells u s)
can_spell (at.HighBackslash u) s = inr (goes_to (at.HighBackslash u) 117 (at.Low0 u) s refl (λ v. low0_spells u v))
can_spell (at.Low0 u) s = inr (low0_spells u s)
can_spell (at.Low1 u a) s = inr (goes_to (at.Low1 u a) 67 (at.Low2 u a 67) s refl (λ v. goes_to (at.Low2 u a 67) 48 (at.Low3 u a 67 48) v refl (λ w. low3_spells u a 67 48 w)))
can_spell (at.Low2 u a b) s = inr (goes_to (at.Low2 u a b) 48 (at.Low3 u a b 48) s refl (λ w. low3_spells u a b 48 w))
can_spell (at.Low3 u a b c) s = inr (low3_spells u a b c s)
can_spell (at.Lead1 a) s = inr (lead1_spells a s)
can_spell (at.Lead2 a b) s = inr (lead2_spells a b s)
can_spell (at.Lead3 a b c) s = inr (lead3_spells a b c s)
