-- What the reader makes of a byte of a string, over RFC 8259, section 7, and RFC 3629, section 4.
use Rattle.std.specs.Prelude.{ℕ, ◌+◌, ◌*◌, ◌%◌, Bool, cond, not, ◌&&◌, ◌==◌, nat_le, nat_lt}
use Rattle.std.specs.Char.{is_digit, digit_value}
use lib.Utf8.{scalar}
use Rattle.xs_data.specs.Ascii.{quotation_mark, backslash, small_u, space}
use Rattle.ordered_json.specs.declared.mode.Spelled.{Spelled}
use Rattle.ordered_json.specs.declared.mode.Spelled.TheVariants as spelled
use Rattle.ordered_json.specs.declared.mode.Spelling.{Spelling}
use Rattle.ordered_json.specs.declared.mode.Spelling.TheVariants as at
use Rattle.ordered_json.specs.declared.mode.Unit.{Unit as HexUnit}
use Rattle.ordered_json.specs.Grammar.{escape_value, is_high_surrogate, is_low_surrogate}
use Rattle.ordered_json.specs.Meaning.{pair_value}

-- how UTF-8 goes on (RFC 3629, section 4)
abbrev pub is_lead : ℕ → Bool
is_lead a = nat_le 0xC2 a && nat_le a 0xF4

abbrev pub is_tail : ℕ → Bool
is_tail b = nat_le 0x80 b && nat_le b 0xBF

abbrev pub is_second : ℕ → ℕ → Bool
is_second a b =
    cond (a == 0xE0) (nat_le 0xA0 b && nat_le b 0xBF)
    (cond (a == 0xED) (nat_le 0x80 b && nat_le b 0x9F)
    (cond (a == 0xF0) (nat_le 0x90 b && nat_le b 0xBF)
    (cond (a == 0xF4) (nat_le 0x80 b && nat_le b 0x8F)
    (is_tail b))))

abbrev pub two_bytes : ℕ → ℕ → ℕ
two_bytes a b = a % 32 * 64 + b % 64

abbrev pub three_bytes : ℕ → ℕ → ℕ → ℕ
three_bytes a b c = (a % 16 * 64 + b % 64) * 64 + c % 64

abbrev pub four_bytes : ℕ → ℕ → ℕ → ℕ → ℕ
four_bytes a b c d = ((a % 8 * 64 + b % 64) * 64 + c % 64) * 64 + d % 64

abbrev pub hex_value : HexUnit → ℕ
hex_value u =
    ((digit_value u.first * 16 + digit_value u.second) * 16 + digit_value u.third) * 16
    + digit_value u.fourth

abbrev pub hex_unit : ℕ → ℕ → ℕ → ℕ → HexUnit
hex_unit a b c d = record { first = a; second = b; third = c; fourth = d }

-- a character by its code
abbrev pub char_of : ℕ → Spelled
char_of c = cond (scalar c) (spelled.Char c) spelled.Bad

-- four digits that stand first
abbrev pub unit_end : HexUnit → Spelled
unit_end u = cond (is_high_surrogate (hex_value u)) (spelled.More (at.High u)) (char_of (hex_value u))

-- four digits after a high surrogate's
abbrev pub pair_end : HexUnit → HexUnit → Spelled
pair_end u v =
    cond (is_high_surrogate (hex_value u) && is_low_surrogate (hex_value v))
    (char_of (pair_value (hex_value u) (hex_value v))) spelled.Bad

-- whether two digits begin a code unit that is no low surrogate
abbrev pub is_no_low : ℕ → ℕ → Bool
is_no_low a b = is_digit b 16 && not ((digit_value a == 13) && nat_le 12 (digit_value b))

-- the second and the third byte of a character in UTF-8
abbrev pub after_second : ℕ → ℕ → Spelled
after_second a b = cond (nat_lt a 0xE0) (char_of (two_bytes a b)) (spelled.More (at.Lead2 a b))

abbrev pub after_third : ℕ → ℕ → ℕ → Spelled
after_third a b c = cond (nat_lt a 0xF0) (char_of (three_bytes a b c)) (spelled.More (at.Lead3 a b c))

-- a byte of a string
abbrev pub spell : Spelling → ℕ → Spelled
spell at.Between b =
    cond (b == quotation_mark) spelled.End
    (cond (b == backslash) (spelled.More at.Backslash)
    (cond (nat_lt b space) spelled.Bad
    (cond (nat_lt b 128) (spelled.Char b)
    (cond (is_lead b) (spelled.More (at.Lead1 b)) spelled.Bad))))
spell at.Backslash b =
    cond (b == small_u) (spelled.More at.Hex0)
    (cond (escape_value b == 0) spelled.Bad (spelled.Char (escape_value b)))
spell at.Hex0 b = cond (is_digit b 16) (spelled.More (at.Hex1 b)) spelled.Bad
spell (at.Hex1 a) b = cond (is_no_low a b) (spelled.More (at.Hex2 a b)) spelled.Bad
spell (at.Hex2 a b) c = cond (is_digit c 16) (spelled.More (at.Hex3 a b c)) spelled.Bad
spell (at.Hex3 a b c) d = cond (is_digit d 16) (unit_end (hex_unit a b c d)) spelled.Bad
spell (at.High u) b = cond (b == backslash) (spelled.More (at.HighBackslash u)) spelled.Bad
spell (at.HighBackslash u) b = cond (b == small_u) (spelled.More (at.Low0 u)) spelled.Bad
spell (at.Low0 u) b = cond (digit_value b == 13) (spelled.More (at.Low1 u b)) spelled.Bad
spell (at.Low1 u a) b =
    cond (is_digit b 16 && nat_le 12 (digit_value b)) (spelled.More (at.Low2 u a b)) spelled.Bad
spell (at.Low2 u a b) c = cond (is_digit c 16) (spelled.More (at.Low3 u a b c)) spelled.Bad
spell (at.Low3 u a b c) d = cond (is_digit d 16) (pair_end u (hex_unit a b c d)) spelled.Bad
spell (at.Lead1 a) b = cond (is_second a b) (after_second a b) spelled.Bad
spell (at.Lead2 a b) c = cond (is_tail c) (after_third a b c) spelled.Bad
spell (at.Lead3 a b c) d = cond (is_tail d) (char_of (four_bytes a b c d)) spelled.Bad
