-- Which fault a text has first, reading from left to right, and where.
use Rattle.std.specs.Prelude.{◌≡◌, ◌⊎◌, ℕ, ◌+◌, ◌<◌, ◌≤◌, Bool, true, false, ◌||◌, ◌==◌, List, [], ◌∷◌, ◌++◌, length, take, drop, ⊤, codes}
use Rattle.xs_data.specs.Ascii.{line_feed, full_stop, colon, capital_e, opening_bracket, small_e, opening_brace}
use Rattle.ordered_json.specs.declared.TheConstants.{MAX_TEXT}
use Rattle.ordered_json.specs.declared.fault.JsonFault.{JsonFault}
use Rattle.ordered_json.specs.declared.fault.JsonFault.TheVariants.{Syntax, DoubleKey, Fraction, Range, TooDeep, TooLong, Memory}
use Rattle.ordered_json.specs.declared.json.OrderedJson.{OrderedJson}
use Rattle.ordered_json.specs.Grammar.{Char, AreChars, IsWhole, is_decimal, with_minus, print_string, IsJson}
use Rattle.ordered_json.specs.Meaning.{magnitude, fits, HasValue}

-- some JSON text begins with these bytes
abbrev pub Begins : List ℕ → Type 0
Begins text = (rest : List ℕ) × IsJson (text ++ rest)

-- some JSON text in which nothing is refused begins with these bytes: no fault is found in them
abbrev pub BeginsFaultless : List ℕ → Type 0
BeginsFaultless text = (rest : List ℕ) × (json : OrderedJson) × HasValue (text ++ rest) json

-- No fault is found in these bytes, and a value may begin after them: a line feed and `null` may stand
-- there. Inside a string no line feed stands, and after one nothing goes on.
abbrev pub AwaitsValue : List ℕ → Type 0
AwaitsValue text = BeginsFaultless (text ++ line_feed ∷ codes "null")

-- likewise for a key: a line feed, some string and a colon may stand there
abbrev pub AwaitsKey : List ℕ → Type 0
AwaitsKey text =
    (key : List Char) × AreChars key × BeginsFaultless (text ++ (line_feed ∷ (print_string key ++ colon ∷ [])))

-- Up to the place no fault is found. Either the text ends there and is no JSON text, or no JSON text
-- begins with the bytes up to the one at the place.
pub record HasSyntaxFault (text : List ℕ) (place : ℕ) : Type 0 where
  pub faultless : BeginsFaultless (take place text)
  pub fault :
      ((place ≡ length text) × (IsJson text → ⊥))
      ⊎ ((place < length text) × (Begins (take (place + 1) text) → ⊥))

-- A key stands at the place, and its closing quote makes a fault: the object has the key already.
pub record HasDoubleKey (text : List ℕ) (place : ℕ) : Type 0 where
  pub key : List Char
  pub rest : List ℕ
  pub within : place ≤ length text
  pub well_formed : AreChars key
  pub stands : drop place text ≡ print_string key ++ rest
  pub awaited : AwaitsKey (take place text)
  pub double : BeginsFaultless (take place text ++ print_string key) → ⊥

-- a number stands at the place: an optional minus and whole digits, and then `rest`
pub record HasNumber (text : List ℕ) (place : ℕ) : Type 0 where
  pub minus : Bool
  pub digits : List ℕ
  pub rest : List ℕ
  pub within : place ≤ length text
  pub whole : IsWhole digits
  pub stands : drop place text ≡ with_minus minus digits ++ rest
  pub awaited : AwaitsValue (take place text)

-- what makes a number one with a fraction or an exponent: `.`, `e` or `E`
abbrev pub is_mark : ℕ → Bool
is_mark b = (b == full_stop) || ((b == small_e) || (b == capital_e))

abbrev pub BeginsWithMark : List ℕ → Type 0
BeginsWithMark [] = ⊥
BeginsWithMark (b ∷ bs) = is_mark b ≡ true

-- the digits end there, and the number has neither a fraction nor an exponent
abbrev pub EndsNumber : List ℕ → Type 0
EndsNumber [] = ⊤
EndsNumber (b ∷ bs) = is_decimal b || is_mark b ≡ false

abbrev pub HasFraction : List ℕ → ℕ → Type 0
HasFraction text place = (number : HasNumber text place) × BeginsWithMark number.rest

abbrev pub IsOutOfRange : List ℕ → ℕ → Type 0
IsOutOfRange text place =
    (number : HasNumber text place) × EndsNumber number.rest
    × (fits number.minus (magnitude number.digits) ≡ false)

-- A bracket stands at the place where a value may begin, and makes a fault: it opens a level too many.
pub record IsTooDeep (text : List ℕ) (place : ℕ) : Type 0 where
  pub bracket : ℕ
  pub rest : List ℕ
  pub within : place ≤ length text
  pub opens : (bracket ≡ opening_bracket) ⊎ (bracket ≡ opening_brace)
  pub stands : drop place text ≡ bracket ∷ rest
  pub awaited : AwaitsValue (take place text)
  pub too_deep : BeginsFaultless (take place text ++ bracket ∷ []) → ⊥

-- This fault is the text's first. Want of memory may come anywhere.
abbrev pub HasFault : List ℕ → JsonFault → Type 0
HasFault text (Syntax place) = (length text ≤ MAX_TEXT) × HasSyntaxFault text place
HasFault text (DoubleKey place) = (length text ≤ MAX_TEXT) × HasDoubleKey text place
HasFault text (Fraction place) = (length text ≤ MAX_TEXT) × HasFraction text place
HasFault text (Range place) = (length text ≤ MAX_TEXT) × IsOutOfRange text place
HasFault text (TooDeep place) = (length text ≤ MAX_TEXT) × IsTooDeep text place
HasFault text TooLong = MAX_TEXT < length text
HasFault text Memory = ⊤
