-- The reader goes over the characters of a string.
use Rattle.std.proofs.Common.{◌≡◌, [], ◌∷◌, ◌++◌, ℕ, ◌+◌, ◌*◌, ◌/◌, ◌%◌, ◌≤◌, ◌<◌, Bool, true, false, ◌&&◌, ◌==◌, ◌⊎◌, List, length, Option, Ok, refl, ap, sym, arith, subst, append_assoc, append-nil, length-append}
use Rattle.std.specs.Prelude.{encode_utf8, nat_le, nat_lt, not}
use Rattle.std.specs.Char.{digit_value, is_digit, IsScalar}
use Rattle.std.proofs.lemmas.Bool.Decides.{nat_tests}
use lib.Utf8.{encode, scalar_cases}
use Rattle.ordered_json.specs.declared.json.OrderedJson.{OrderedJson}
use Rattle.ordered_json.specs.declared.level.Level.{Level}
use Rattle.ordered_json.specs.declared.mode.Mode.TheVariants as mode
use Rattle.ordered_json.specs.declared.mode.Spelled.TheVariants as spelled
use Rattle.ordered_json.specs.declared.mode.Spelling.{Spelling}
use Rattle.ordered_json.specs.declared.mode.Spelling.TheVariants as at
use Rattle.ordered_json.specs.declared.reader.Reader.{Reader}
use Rattle.ordered_json.specs.Grammar.{Char, plain, escaped, coded, paired, CodeUnit, are_hex, unit_value, is_high_surrogate, is_low_surrogate, escape_value, IsChar, AreChars, print_char, print_chars, print_unit}
use Rattle.ordered_json.specs.Meaning.{char_value, string_content, pair_value}
use Rattle.ordered_json.specs.Steps.{take_byte, in_text, open_text}
use Rattle.ordered_json.specs.Spell.{spell, char_of, two_bytes, three_bytes, four_bytes, is_second, is_tail, is_lead, hex_unit}
use Rattle.ordered_json.proofs.RunLemmas.{Answers, by_step, by_same, by_place, by_bytes}
use Rattle.ordered_json.proofs.LiteralLemmas.{Answer}

-- a string is being read
abbrev pub text_state : ℕ → Bool → Spelling → List Level → Option OrderedJson → List ℕ → Reader
text_state p k s ls o c = record { levels = ls; mode = mode.Text (open_text p k s); content = c; root = o }

pub more_step : (place b p : ℕ) (k : Bool) (s t : Spelling) (ls : List Level) (o : Option OrderedJson) (c : List ℕ) → spell s b ≡ spelled.More t → take_byte place b (text_state p k s ls o c) ≡ Ok (text_state p k t ls o c)
unfolding take_byte in_text
more_step place b p k s t ls o c h = rw h refl

pub char_step : (place b p : ℕ) (k : Bool) (s : Spelling) (v : ℕ) (ls : List Level) (o : Option OrderedJson) (c : List ℕ) → spell s b ≡ spelled.Char v → take_byte place b (text_state p k s ls o c) ≡ Ok (text_state p k at.Between ls o (c ++ encode_utf8 v))
unfolding take_byte in_text
char_step place b p k s v ls o c h = rw h refl

-- from here these bytes spell the character
pub data Spells : Spelling → List ℕ → ℕ → Type 0 where
  last : {s : Spelling} {b v : ℕ} → spell s b ≡ spelled.Char v → Spells s (b ∷ []) v
  then : {s : Spelling} {b v : ℕ} {bs : List ℕ} (t : Spelling) → spell s b ≡ spelled.More t → Spells t bs v → Spells s (b ∷ bs) v

pub spells_read : {s : Spelling} {bs : List ℕ} {v : ℕ} → Spells s bs v → {p q : ℕ} {k : Bool} {rest : List ℕ} {ls : List Level} {o : Option OrderedJson} {c : List ℕ} {x : Answer} → Answers (p + length bs) rest (Ok (text_state q k at.Between ls o (c ++ encode_utf8 v))) x → Answers p (bs ++ rest) (Ok (text_state q k s ls o c)) x
spells_read {s} (last {b = b} {v = v} h) {p} {q} {k} {ls = ls} {o = o} {c = c} a = by_step (char_step p b q k s v ls o c h) a
spells_read {s} (then {b = b} {bs = bs} t h r) {p} {q} {k} {ls = ls} {o = o} {c = c} a = by_step (more_step p b q k s t ls o c h) (spells_read r (by_place {q = p + length (b ∷ bs)} (omega arith) a))

-- ---- a character as it is
plain_one : (c : ℕ) → (32 ≤ c) → c == 34 ≡ false → c == 92 ≡ false → nat_lt c 128 ≡ true → spell at.Between c ≡ spelled.Char c
plain_one c low q s h =
    let above : nat_lt c 32 ≡ false = grind (arith, nat_tests) in
    rw (q, s, above, h) refl

pub lead_step : (a : ℕ) → is_lead a ≡ true → spell at.Between a ≡ spelled.More (at.Lead1 a)
lead_step a h =
    let q : a == 34 ≡ false = grind (arith, nat_tests) in
    let s : a == 92 ≡ false = grind (arith, nat_tests) in
    let above : nat_lt a 32 ≡ false = grind (arith, nat_tests) in
    let over : nat_lt a 128 ≡ false = grind (arith, nat_tests) in
    rw (q, s, above, over, h) refl

pub scalar_char : (c d : ℕ) → IsScalar c → d ≡ c → char_of d ≡ spelled.Char c
scalar_char c d h e = rw e (rw h refl)

-- ---- code units, over the values of their digits
no_low : (a b c d : ℕ) → a < 16 → b < 16 → c < 16 → d < 16 → is_low_surrogate (((a * 16 + b) * 16 + c) * 16 + d) ≡ false → not ((a == 13) && nat_le 12 b) ≡ true
no_low a b c d ha hb hc hd h = grind (arith, nat_tests)

not_both : (n : ℕ) → is_high_surrogate n ≡ true → is_low_surrogate n ≡ false
not_both n h = grind (arith, nat_tests)

pub unit_scalar : (a b c d : ℕ) → a < 16 → b < 16 → c < 16 → d < 16 → is_high_surrogate (((a * 16 + b) * 16 + c) * 16 + d) ≡ false → is_low_surrogate (((a * 16 + b) * 16 + c) * 16 + d) ≡ false → IsScalar (((a * 16 + b) * 16 + c) * 16 + d)
unit_scalar a b c d ha hb hc hd h l = grind (arith, nat_tests)

low_digits : (a b c d : ℕ) → a < 16 → b < 16 → c < 16 → d < 16 → is_low_surrogate (((a * 16 + b) * 16 + c) * 16 + d) ≡ true → (a == 13 ≡ true) × (nat_le 12 b ≡ true)
low_digits a b c d ha hb hc hd h = (grind (arith, nat_tests), grind (arith, nat_tests))

pub pair_scalar : (h l : ℕ) → is_high_surrogate h ≡ true → is_low_surrogate l ≡ true → IsScalar (pair_value h l)
pair_scalar h l hh hl = grind (arith, nat_tests)

-- ---- UTF-8
pub encode_one : (c : ℕ) → nat_lt c 128 ≡ true → encode_utf8 c ≡ c ∷ []
unfolding encode
encode_one c h = rw h refl

pub encode_two : (c : ℕ) → nat_lt c 128 ≡ false → nat_lt c 2048 ≡ true → encode_utf8 c ≡ (192 + c / 64) ∷ (128 + c % 64) ∷ []
unfolding encode
encode_two c h i = rw (h, i) refl

pub encode_three : (c : ℕ) → nat_lt c 128 ≡ false → nat_lt c 2048 ≡ false → nat_lt c 65536 ≡ true → encode_utf8 c ≡ (224 + c / 4096) ∷ (128 + c / 64 % 64) ∷ (128 + c % 64) ∷ []
unfolding encode
encode_three c h i j = rw (h, i, j) refl

pub encode_four : (c : ℕ) → nat_lt c 128 ≡ false → nat_lt c 2048 ≡ false → nat_lt c 65536 ≡ false → encode_utf8 c ≡ (240 + c / 262144) ∷ (128 + c / 4096 % 64) ∷ (128 + c / 64 % 64) ∷ (128 + c % 64) ∷ []
unfolding encode
encode_four c h i j = rw (h, i, j) refl

two_back : (c : ℕ) → c < 2048 → two_bytes (192 + c / 64) (128 + c % 64) ≡ c
two_back c h = omega arith

three_back : (c : ℕ) → c < 65536 → three_bytes (224 + c / 4096) (128 + c / 64 % 64) (128 + c % 64) ≡ c
three_back c h = omega arith

four_back : (c : ℕ) → c < 1114112 → four_bytes (240 + c / 262144) (128 + c / 4096 % 64) (128 + c / 64 % 64) (128 + c % 64) ≡ c
four_back c h = omega arith

two_second : (c : ℕ) → nat_lt c 2048 ≡ true → is_second (192 + c / 64) (128 + c % 64) ≡ true
two_second c h =
    let below : c / 64 < 32 = grind (arith, nat_tests) in
    let low : c % 64 < 64 = omega arith in
    second_plain (192 + c / 64) (128 + c % 64) (omega arith) (omega arith) (omega arith)
  where
    second_plain : (a b : ℕ) → a < 224 → 128 ≤ b → b < 192 → is_second a b ≡ true
    second_plain a b ha hb hc = grind (arith, nat_tests)

second_three : (a b : ℕ) → 224 ≤ a → a < 240 → 128 ≤ b → b < 192 → (a ≡ 224 → 160 ≤ b) → (a ≡ 237 → b < 160) → is_second a b ≡ true
second_three a b ha hb hc hd e f = grind (arith, nat_tests)

second_four : (a b : ℕ) → 240 ≤ a → a < 245 → 128 ≤ b → b < 192 → (a ≡ 240 → 144 ≤ b) → (a ≡ 244 → b < 144) → is_second a b ≡ true
second_four a b ha hb hc hd e f = grind (arith, nat_tests)

three_second : (c : ℕ) → IsScalar c → 2048 ≤ c → c < 65536 → is_second (224 + c / 4096) (128 + c / 64 % 64) ≡ true
three_second c s h i =
    let apart : (c < 55296) ⊎ ((57344 ≤ c) × (c < 1114112)) = scalar_cases c s in
    second_three (224 + c / 4096) (128 + c / 64 % 64) (omega arith) (omega arith) (omega arith) (omega arith) (λ e. omega arith) (λ e. omega arith)

four_second : (c : ℕ) → 65536 ≤ c → c < 1114112 → is_second (240 + c / 262144) (128 + c / 4096 % 64) ≡ true
four_second c h i =
    second_four (240 + c / 262144) (128 + c / 4096 % 64) (omega arith) (omega arith) (omega arith) (omega arith) (λ e. omega arith) (λ e. omega arith)

tail_true : (n : ℕ) → is_tail (128 + n % 64) ≡ true
tail_true n = tail_in (128 + n % 64) (omega arith) (omega arith)
  where
    tail_in : (b : ℕ) → 128 ≤ b → b < 192 → is_tail b ≡ true
    tail_in b l h = grind (arith, nat_tests)

pub is_below : (a b : ℕ) → a < b → nat_lt a b ≡ true
is_below a b h = grind (arith, nat_tests)

pub is_above : (a b : ℕ) → b ≤ a → nat_lt a b ≡ false
is_above a b h = grind (arith, nat_tests)

pub below : (a b : ℕ) → nat_lt a b ≡ true → a < b
below a b h = grind (arith, nat_tests)

pub above : (a b : ℕ) → nat_lt a b ≡ false → b ≤ a
above a b h = grind (arith, nat_tests)

pub is_lead_between : (a : ℕ) → 194 ≤ a → a < 245 → is_lead a ≡ true
is_lead_between a l h = grind (arith, nat_tests)

spell_two : (c : ℕ) → IsScalar c → 128 ≤ c → c < 2048 → Spells at.Between ((192 + c / 64) ∷ (128 + c % 64) ∷ []) c
spell_two c s l h =
    then (at.Lead1 (192 + c / 64)) (lead_step (192 + c / 64) (is_lead_between (192 + c / 64) (omega arith) (omega arith)))
    (last (rw (two_second c (is_below c 2048 h), is_below (192 + c / 64) 224 (omega arith)) (scalar_char c (two_bytes (192 + c / 64) (128 + c % 64)) s (two_back c h))))

spell_three : (c : ℕ) → IsScalar c → 2048 ≤ c → c < 65536 → Spells at.Between ((224 + c / 4096) ∷ (128 + c / 64 % 64) ∷ (128 + c % 64) ∷ []) c
spell_three c s l h =
    let a = 224 + c / 4096 in
    let b = 128 + c / 64 % 64 in
    then (at.Lead1 a) (lead_step a (is_lead_between a (omega arith) (omega arith)))
    (then (at.Lead2 a b) (rw (three_second c s l h, is_above a 224 (omega arith)) refl)
    (last (rw (tail_true c, is_below a 240 (omega arith)) (scalar_char c (three_bytes a b (128 + c % 64)) s (three_back c h)))))

spell_four : (c : ℕ) → IsScalar c → 65536 ≤ c → c < 1114112 → Spells at.Between ((240 + c / 262144) ∷ (128 + c / 4096 % 64) ∷ (128 + c / 64 % 64) ∷ (128 + c % 64) ∷ []) c
spell_four c s l h =
    let a = 240 + c / 262144 in
    let b = 128 + c / 4096 % 64 in
    let d = 128 + c / 64 % 64 in
    then (at.Lead1 a) (lead_step a (is_lead_between a (omega arith) (omega arith)))
    (then (at.Lead2 a b) (rw (four_second c l h, is_above a 224 (omega arith)) refl)
    (then (at.Lead3 a b d) (rw (tail_true (c / 64), is_above a 240 (omega arith)) refl)
    (last (rw (tail_true c) (scalar_char c (four_bytes a b d (128 + c % 64)) s (four_back c h))))))

scalar_top : (c : ℕ) → IsScalar c → c < 1114112
scalar_top c s = let apart : (c < 55296) ⊎ ((57344 ≤ c) × (c < 1114112)) = scalar_cases c s in omega arith

plain_spells : (c : ℕ) → IsChar (plain c) → Spells at.Between (encode_utf8 c) c
plain_spells c h = one (nat_lt c 128) refl
  where
    three : (x : Bool) → nat_lt c 65536 ≡ x → nat_lt c 128 ≡ false → nat_lt c 2048 ≡ false → Spells at.Between (encode_utf8 c) c
    three true e i j = subst (λ bs. Spells at.Between bs c) (sym (encode_three c i j e)) (spell_three c h.0 (above c 2048 j) (below c 65536 e))
    three false e i j = subst (λ bs. Spells at.Between bs c) (sym (encode_four c i j e)) (spell_four c h.0 (above c 65536 e) (scalar_top c h.0))

    two : (x : Bool) → nat_lt c 2048 ≡ x → nat_lt c 128 ≡ false → Spells at.Between (encode_utf8 c) c
    two true e i = subst (λ bs. Spells at.Between bs c) (sym (encode_two c i e)) (spell_two c h.0 (above c 128 i) (below c 2048 e))
    two false e i = three (nat_lt c 65536) refl i e

    one : (x : Bool) → nat_lt c 128 ≡ x → Spells at.Between (encode_utf8 c) c
    one true e = subst (λ bs. Spells at.Between bs c) (sym (encode_one c e)) (last (plain_one c h.1 h.2 h.3 e))
    one false e = two (nat_lt c 2048) refl e

-- ---- escapes
no_u : (b : ℕ) → escape_value b == 0 ≡ false → b == 117 ≡ false
no_u b h = by (b == 117) refl
  where
    by : (x : Bool) → b == 117 ≡ x → b == 117 ≡ false
    by false e = e
    by true e = absurd (let f : b ≡ 117 = grind (arith, nat_tests) in let g : escape_value 117 == 0 ≡ false = subst (λ n. escape_value n == 0 ≡ false) f h in let t : true ≡ false = g in cc)

escaped_spells : (b : ℕ) → IsChar (escaped b) → Spells at.Between (92 ∷ b ∷ []) (escape_value b)
escaped_spells b h = then at.Backslash refl (last (rw (no_u b h, h) refl))

pub and_true : (x y : Bool) → (x && y) ≡ true → (x ≡ true) × (y ≡ true)
and_true true y e = (refl, e)
and_true false y e = cc

-- a digit's value is below 16
pub digit_below : (b : ℕ) → is_digit b 16 ≡ true → digit_value b < 16
digit_below b h = below (digit_value b) 16 h

-- the four digits
record Digits (u : CodeUnit) : Type 0 where
  one : is_digit u.first 16 ≡ true
  two : is_digit u.second 16 ≡ true
  three : is_digit u.third 16 ≡ true
  four : is_digit u.fourth 16 ≡ true

digits_of : (u : CodeUnit) → are_hex u ≡ true → Digits u
digits_of u h =
    let both = and_true (is_digit u.first 16 && is_digit u.second 16) (is_digit u.third 16 && is_digit u.fourth 16) h in
    let front = and_true (is_digit u.first 16) (is_digit u.second 16) both.0 in
    let back = and_true (is_digit u.third 16) (is_digit u.fourth 16) both.1 in
    record { one = front.0; two = front.1; three = back.0; four = back.1 }

coded_spells : (u : CodeUnit) → IsChar (coded u) → Spells at.Between (print_unit u) (unit_value u)
coded_spells u h =
    let d = digits_of u h.0 in
    let low = no_low (digit_value u.first) (digit_value u.second) (digit_value u.third) (digit_value u.fourth) (digit_below u.first d.one) (digit_below u.second d.two) (digit_below u.third d.three) (digit_below u.fourth d.four) h.2 in
    let ok = unit_scalar (digit_value u.first) (digit_value u.second) (digit_value u.third) (digit_value u.fourth) (digit_below u.first d.one) (digit_below u.second d.two) (digit_below u.third d.three) (digit_below u.fourth d.four) h.1 h.2 in
    then at.Backslash refl
    (then at.Hex0 refl
    (then (at.Hex1 u.first) (rw (d.one) refl)
    (then (at.Hex2 u.first u.second) (rw (d.two, low) refl)
    (then (at.Hex3 u.first u.second u.third) (rw (d.three) refl)
    (last (rw (d.four, h.1) (scalar_char (unit_value u) (unit_value u) ok refl)))))))

-- a surrogate pair
paired_spells : (u v : CodeUnit) → IsChar (paired u v) → Spells at.Between (print_unit u ++ print_unit v) (pair_value (unit_value u) (unit_value v))
paired_spells u v h =
    let d = digits_of u h.0 in
    let e = digits_of v h.1 in
    let low = no_low (digit_value u.first) (digit_value u.second) (digit_value u.third) (digit_value u.fourth) (digit_below u.first d.one) (digit_below u.second d.two) (digit_below u.third d.three) (digit_below u.fourth d.four) (not_both (unit_value u) h.2) in
    let begins = low_digits (digit_value v.first) (digit_value v.second) (digit_value v.third) (digit_value v.fourth) (digit_below v.first e.one) (digit_below v.second e.two) (digit_below v.third e.three) (digit_below v.fourth e.four) h.3 in
    let ok = pair_scalar (unit_value u) (unit_value v) h.2 h.3 in
    let w = hex_unit u.first u.second u.third u.fourth in
    then at.Backslash refl
    (then at.Hex0 refl
    (then (at.Hex1 u.first) (rw (d.one) refl)
    (then (at.Hex2 u.first u.second) (rw (d.two, low) refl)
    (then (at.Hex3 u.first u.second u.third) (rw (d.three) refl)
    (then (at.High w) (rw (d.four, h.2) refl)
    (then (at.HighBackslash w) refl
    (then (at.Low0 w) refl
    (then (at.Low1 w v.first) (rw (begins.0) refl)
    (then (at.Low2 w v.first v.second) (rw (e.two, begins.1) refl)
    (then (at.Low3 w v.first v.second v.third) (rw (e.three) refl)
    (last (rw (e.four, h.2, h.3) (scalar_char (pair_value (unit_value u) (unit_value v)) (pair_value (unit_value u) (unit_value v)) ok refl)))))))))))))

char_spells : (c : Char) → IsChar c → Spells at.Between (print_char c) (char_value c)
char_spells (plain c) h = plain_spells c h
char_spells (escaped b) h = escaped_spells b h
char_spells (coded u) h = coded_spells u h
char_spells (paired u v) h = paired_spells u v h

pub chars_read : (cs : List Char) → AreChars cs → {p q : ℕ} {k : Bool} {rest : List ℕ} {ls : List Level} {o : Option OrderedJson} {c : List ℕ} {x : Answer} → Answers (p + length (print_chars cs)) rest (Ok (text_state q k at.Between ls o (c ++ string_content cs))) x → Answers p (print_chars cs ++ rest) (Ok (text_state q k at.Between ls o c)) x
chars_read [] h {p} {q} {k} {ls = ls} {o = o} {c = c} a = by_place {q = p + 0} (omega arith) (by_same (ap (λ d. Ok (text_state q k at.Between ls o d)) (sym (append-nil c))) a)
chars_read (d ∷ ds) h {p} {q} {k} {rest} {ls} {o} {c} a =
    by_bytes (append_assoc (print_char d) (print_chars ds) rest)
    (spells_read (char_spells d h.0)
    (chars_read ds h.1
    (by_place {q = p + length (print_chars (d ∷ ds))} (omega (arith, length-append (print_char d) (print_chars ds)))
    (by_same (ap (λ e. Ok (text_state q k at.Between ls o e)) (append_assoc c (encode_utf8 (char_value d)) (string_content ds))) a))))
