-- How the reader goes on at each byte. Private contracts alone cite these definitions; what a text
-- means and which fault it has is said by the grammar.
use Rattle.std.specs.Prelude.{◌≡◌, ◌≢◌, ℕ, ◌+◌, ◌*◌, ◌-◌, ◌^◌, min, Bool, true, false, cond, ◌&&◌, ◌==◌, nat_lt, List, [], ◌∷◌, ◌++◌, length, map, Option, Some, None, Result, Ok, Err, codes, encode_utf8, slice_index}
use Rattle.xs_data.specs.Ascii.{quotation_mark, comma, hyphen, digit_zero, colon, opening_bracket, closing_bracket, opening_brace, closing_brace}
use Rattle.ordered_json.specs.declared.TheConstants.{MAX_LEVELS}
use Rattle.ordered_json.specs.declared.fault.JsonFault.{JsonFault}
use Rattle.ordered_json.specs.declared.fault.JsonFault.TheVariants.{Syntax, DoubleKey, Fraction, Range, TooDeep, Memory}
use Rattle.ordered_json.specs.declared.json.OrderedJson.{OrderedJson, Null, Bool as a_bool, Int, Text as a_text, List as a_list, Object as an_object}
use Rattle.ordered_json.specs.declared.level.Awaits.{Awaits}
use Rattle.ordered_json.specs.declared.level.Awaits.TheVariants as awaits
use Rattle.ordered_json.specs.declared.level.Level.{Level}
use Rattle.ordered_json.specs.declared.level.Level.TheVariants as level
use Rattle.ordered_json.specs.declared.mode.LiteralName.{LiteralName}
use Rattle.ordered_json.specs.declared.mode.LiteralName.TheVariants as literal
use Rattle.ordered_json.specs.declared.mode.Mode.{Mode}
use Rattle.ordered_json.specs.declared.mode.Mode.TheVariants as mode
use Rattle.ordered_json.specs.declared.mode.OpenName.{OpenName}
use Rattle.ordered_json.specs.declared.mode.OpenNumber.{OpenNumber}
use Rattle.ordered_json.specs.declared.mode.OpenText.{OpenText}
use Rattle.ordered_json.specs.declared.mode.Spelled.{Spelled}
use Rattle.ordered_json.specs.declared.mode.Spelled.TheVariants as spelled
use Rattle.ordered_json.specs.declared.mode.Spelling.{Spelling}
use Rattle.ordered_json.specs.declared.mode.Spelling.TheVariants as at
use Rattle.ordered_json.specs.declared.reader.Reader.{Reader}
use Rattle.ordered_json.specs.Words.{key_of, member_of}
use Rattle.ordered_json.specs.Grammar.{is_blank, is_decimal}
use Rattle.ordered_json.specs.Meaning.{has_key, int_value, fits}
use Rattle.ordered_json.specs.Faults.{is_mark}
use Rattle.ordered_json.specs.Spell.{spell}

-- the reader after the bytes so far, or the fault that it found in them
abbrev pub Reading : Type 0
Reading = Result Reader JsonFault

-- the fault is the one that is to be answered; memory may run out anywhere
abbrev pub IsFaultOf : {T : Type 0} → Result T JsonFault → JsonFault → Type 0
IsFaultOf reading fault = fault ≢ Memory → reading ≡ Err fault

-- the reader at the start of a text
abbrev pub start : Reader
start = record { levels = []; mode = mode.Value; content = []; root = None }

-- the reader in another mode
abbrev pub to_mode : Mode → Reader → Reading
to_mode m r = Ok (record r { mode = m })

abbrev pub and_then : Reading → (Reader → Reading) → Reading
and_then (Ok r) f = f r
and_then (Err e) f = Err e

-- ---- what is half read
abbrev pub open_name : ℕ → LiteralName → ℕ → OpenName
open_name place name read = record { place = place; name = name; read = read }

abbrev pub open_number : ℕ → Bool → ℕ → OpenNumber
open_number place minus magnitude = record { place = place; minus = minus; magnitude = magnitude }

abbrev pub open_text : ℕ → Bool → Spelling → OpenText
open_text place is_key spelling = record { place = place; is_key = is_key; spelling = spelling }

-- the mode after the first letter of a literal name
abbrev pub name_mode : ℕ → LiteralName → Mode
name_mode place name = mode.Name (open_name place name 1)

-- the mode after the first digit of a number: no digit follows 0
abbrev pub number_mode : ℕ → Bool → ℕ → Mode
number_mode place minus b =
    cond (b == digit_zero) (mode.Zero (open_number place minus 0))
    (mode.Digits (open_number place minus (b - digit_zero)))

-- the mode at the start of a string, and after each of its characters
abbrev pub text_mode : ℕ → Bool → Mode
text_mode place is_key = mode.Text (open_text place is_key at.Between)

-- ---- values and levels
-- a level with one more value
abbrev pub with_value : ℕ → OrderedJson → Level → Result Level JsonFault
with_value place json (level.List p items) = Ok (level.List p (items ++ json ∷ []))
with_value place json (level.Object p members) = Err (Syntax place)
with_value place json (level.Member p members key key_place) =
    Ok (level.Object p (members ++ member_of key key_place json ∷ []))

-- the levels with a changed innermost one
abbrev pub with_innermost : Reader → List Level → Result Level JsonFault → Reading
with_innermost r ls (Ok l) = Ok (record r { levels = l ∷ ls; mode = mode.After })
with_innermost r ls (Err fault) = Err fault

-- a value is read
abbrev pub complete_in : ℕ → OrderedJson → Reader → List Level → Reading
complete_in place json r [] = Ok (record r { mode = mode.After; root = Some json })
complete_in place json r (l ∷ ls) = with_innermost r ls (with_value place json l)

unfoldable pub complete : ℕ → OrderedJson → Reader → Reading
complete place json r = complete_in place json r r.levels

-- a bracket opens a level
abbrev pub open_level : ℕ → Level → Mode → Reader → Reading
open_level place l m r =
    cond (nat_lt (length r.levels) MAX_LEVELS) (Ok (record r { levels = l ∷ r.levels; mode = m }))
    (Err (TooDeep place))

-- a bracket closes the innermost level
abbrev pub close_list_in : ℕ → Reader → List Level → Reading
close_list_in place r [] = Err (Syntax place)
close_list_in place r (level.List p items ∷ ls) =
    complete place (a_list p items) (record r { levels = ls })
close_list_in place r (level.Object p members ∷ ls) = Err (Syntax place)
close_list_in place r (level.Member p members key key_place ∷ ls) = Err (Syntax place)

unfoldable pub close_list : ℕ → Reader → Reading
close_list place r = close_list_in place r r.levels

abbrev pub close_object_in : ℕ → Reader → List Level → Reading
close_object_in place r [] = Err (Syntax place)
close_object_in place r (level.List p items ∷ ls) = Err (Syntax place)
close_object_in place r (level.Object p members ∷ ls) =
    complete place (an_object p members) (record r { levels = ls })
close_object_in place r (level.Member p members key key_place ∷ ls) = Err (Syntax place)

unfoldable pub close_object : ℕ → Reader → Reading
close_object place r = close_object_in place r r.levels

-- what a comma stands before, inside these levels
abbrev pub awaits_of : List Level → Awaits
awaits_of [] = awaits.Nothing
awaits_of (level.List p items ∷ ls) = awaits.Value
awaits_of (level.Object p members ∷ ls) = awaits.Key
awaits_of (level.Member p members key key_place ∷ ls) = awaits.Nothing

abbrev pub take_comma_in : ℕ → Reader → Awaits → Reading
take_comma_in place r awaits.Value = to_mode mode.Value r
take_comma_in place r awaits.Key = to_mode mode.Key r
take_comma_in place r awaits.Nothing = Err (Syntax place)

-- a comma
unfoldable pub take_comma : ℕ → Reader → Reading
take_comma place r = take_comma_in place r (awaits_of r.levels)

-- ---- the first byte of a token
-- the letters of the three names, and their values
abbrev pub literal_letters : LiteralName → List ℕ
literal_letters literal.Null = codes "null"
literal_letters literal.True = codes "true"
literal_letters literal.False = codes "false"

abbrev pub literal_value : ℕ → LiteralName → OrderedJson
literal_value p literal.Null = Null p
literal_value p literal.True = a_bool p true
literal_value p literal.False = a_bool p false

-- the letter at an index of a name, and 0 after its end
abbrev pub letter_at : LiteralName → ℕ → ℕ
letter_at name n = slice_index (literal_letters name) n

-- the mode after the first byte of a value that is no string, array or object
abbrev pub scalar_mode : ℕ → ℕ → Result Mode JsonFault
scalar_mode place b =
    cond (b == letter_at literal.Null 0) (Ok (name_mode place literal.Null))
    (cond (b == letter_at literal.True 0) (Ok (name_mode place literal.True))
    (cond (b == letter_at literal.False 0) (Ok (name_mode place literal.False))
    (cond (b == hyphen) (Ok (mode.Minus place))
    (cond (is_decimal b) (Ok (number_mode place false b)) (Err (Syntax place))))))

abbrev pub to_mode_if : Result Mode JsonFault → Reader → Reading
to_mode_if (Ok m) r = to_mode m r
to_mode_if (Err fault) r = Err fault

-- the first byte of a value
unfoldable pub begin_value : ℕ → ℕ → Reader → Reading
begin_value place b r =
    cond (b == quotation_mark) (to_mode (text_mode place false) r)
    (cond (b == opening_bracket) (open_level place (level.List place []) mode.FirstItem r)
    (cond (b == opening_brace) (open_level place (level.Object place []) mode.FirstKey r)
    (to_mode_if (scalar_mode place b) r)))

-- the first byte of a key
abbrev pub begin_key : ℕ → ℕ → Reader → Reading
begin_key place b r = cond (b == quotation_mark) (to_mode (text_mode place true) r) (Err (Syntax place))

-- a byte between tokens
abbrev pub between_in : ℕ → ℕ → Reader → Mode → Reading
between_in place b r mode.Value = begin_value place b r
between_in place b r mode.FirstItem =
    cond (b == closing_bracket) (close_list place r) (begin_value place b r)
between_in place b r mode.FirstKey =
    cond (b == closing_brace) (close_object place r) (begin_key place b r)
between_in place b r mode.Key = begin_key place b r
between_in place b r mode.Colon = cond (b == colon) (to_mode mode.Value r) (Err (Syntax place))
between_in place b r mode.After =
    cond (b == comma) (take_comma place r)
    (cond (b == closing_bracket) (close_list place r)
    (cond (b == closing_brace) (close_object place r) (Err (Syntax place))))
between_in place b r (mode.Name name) = Err (Syntax place)
between_in place b r (mode.Minus p) = Err (Syntax place)
between_in place b r (mode.Zero number) = Err (Syntax place)
between_in place b r (mode.Digits number) = Err (Syntax place)
between_in place b r (mode.Text text) = Err (Syntax place)

unfoldable pub between : ℕ → ℕ → Reader → Reading
between place b r = cond (is_blank b) (Ok r) (between_in place b r r.mode)

-- ---- numbers
-- a number is at its end
unfoldable pub end_number : ℕ → OpenNumber → Reader → Reading
end_number place number r =
    cond (fits number.minus number.magnitude)
    (complete place (Int number.place (int_value number.minus number.magnitude)) r)
    (Err (Range number.place))

-- the byte after a number's digits
unfoldable pub after_digits : ℕ → OpenNumber → ℕ → Reader → Reading
after_digits place number b r =
    cond (is_mark b) (Err (Fraction number.place))
    (and_then (end_number place number r) (between place b))

-- a magnitude with one more digit, and the greatest one of 64 bits where that is more
abbrev pub with_digit : ℕ → ℕ → ℕ
with_digit n b = min (min (n * 10) (2 ^ 64 - 1) + (b - digit_zero)) (2 ^ 64 - 1)

unfoldable pub in_digits : ℕ → OpenNumber → ℕ → Reader → Reading
in_digits place number b r =
    cond (is_decimal b)
    (to_mode (mode.Digits (open_number number.place number.minus (with_digit number.magnitude b))) r)
    (after_digits place number b r)

unfoldable pub after_minus : ℕ → ℕ → ℕ → Reader → Reading
after_minus place p b r = cond (is_decimal b) (to_mode (number_mode p true b) r) (Err (Syntax place))

-- ---- literal names
unfoldable pub in_name : ℕ → OpenName → ℕ → Reader → Reading
in_name place name b r =
    cond (nat_lt name.read (length (literal_letters name.name)) && (b == letter_at name.name name.read))
    (cond (name.read + 1 == length (literal_letters name.name))
    (complete place (literal_value name.place name.name) r)
    (to_mode (mode.Name (open_name name.place name.name (name.read + 1))) r))
    (Err (Syntax place))

-- ---- strings
-- a key is read
abbrev pub end_key_in : ℕ → ℕ → Reader → List Level → Reading
end_key_in place p r [] = Err (Syntax place)
end_key_in place p r (level.List q items ∷ ls) = Err (Syntax place)
end_key_in place p r (level.Object q members ∷ ls) =
    cond (has_key r.content (map key_of members)) (Err (DoubleKey p))
    (Ok (record r { levels = level.Member q members r.content p ∷ ls; mode = mode.Colon; content = [] }))
end_key_in place p r (level.Member q members key key_place ∷ ls) = Err (Syntax place)

unfoldable pub end_key : ℕ → ℕ → Reader → Reading
end_key place p r = end_key_in place p r r.levels

-- a string is read
unfoldable pub end_text : ℕ → OpenText → Reader → Reading
end_text place text r =
    cond text.is_key (end_key place text.place r)
    (complete place (a_text text.place r.content) (record r { content = [] }))

-- what a byte makes of the string
abbrev pub spelled_in : ℕ → OpenText → Reader → Spelled → Reading
spelled_in place text r (spelled.More s) = to_mode (mode.Text (open_text text.place text.is_key s)) r
spelled_in place text r (spelled.Char c) =
    Ok (record r { content = r.content ++ encode_utf8 c; mode = text_mode text.place text.is_key })
spelled_in place text r spelled.End = end_text place text r
spelled_in place text r spelled.Bad = Err (Syntax place)

unfoldable pub in_text : ℕ → OpenText → ℕ → Reader → Reading
in_text place text b r = spelled_in place text r (spell text.spelling b)

-- ---- every byte, and the end
abbrev pub take_byte_in : ℕ → ℕ → Reader → Mode → Reading
take_byte_in place b r mode.Value = between place b r
take_byte_in place b r mode.FirstItem = between place b r
take_byte_in place b r mode.FirstKey = between place b r
take_byte_in place b r mode.Key = between place b r
take_byte_in place b r mode.Colon = between place b r
take_byte_in place b r mode.After = between place b r
take_byte_in place b r (mode.Name name) = in_name place name b r
take_byte_in place b r (mode.Minus p) = after_minus place p b r
take_byte_in place b r (mode.Zero number) = after_digits place number b r
take_byte_in place b r (mode.Digits number) = in_digits place number b r
take_byte_in place b r (mode.Text text) = in_text place text b r

-- one byte
unfoldable pub take_byte : ℕ → ℕ → Reader → Reading
take_byte place b r = take_byte_in place b r r.mode

abbrev pub settle_in : ℕ → Reader → Mode → Reading
settle_in place r mode.Value = Ok r
settle_in place r mode.FirstItem = Ok r
settle_in place r mode.FirstKey = Ok r
settle_in place r mode.Key = Ok r
settle_in place r mode.Colon = Ok r
settle_in place r mode.After = Ok r
settle_in place r (mode.Name name) = Ok r
settle_in place r (mode.Minus p) = Ok r
settle_in place r (mode.Zero number) = end_number place number r
settle_in place r (mode.Digits number) = end_number place number r
settle_in place r (mode.Text text) = Ok r

-- the end of the text, where a number may be at its end too
unfoldable pub settle : ℕ → Reader → Reading
settle place r = settle_in place r r.mode

abbrev pub root_of : ℕ → Option OrderedJson → Result OrderedJson JsonFault
root_of place None = Err (Syntax place)
root_of place (Some json) = Ok json

abbrev pub answer_of : ℕ → Reading → Result OrderedJson JsonFault
answer_of place (Err fault) = Err fault
answer_of place (Ok r) = root_of place r.root

-- what the reader answers to a text of which it read all
abbrev pub finish : ℕ → Reading → Result OrderedJson JsonFault
finish place o = answer_of place (and_then o (settle place))

-- what the reader answers once it has read the bytes too, which stand from a place on
abbrev pub answer_from : ℕ → List ℕ → Reading → Result OrderedJson JsonFault
answer_from place [] o = finish place o
answer_from place (b ∷ bs) o = answer_from (place + 1) bs (and_then o (take_byte place b))

-- what the reader answers to a text
abbrev pub reader_answer : List ℕ → Result OrderedJson JsonFault
reader_answer text = answer_from 0 text (Ok start)
