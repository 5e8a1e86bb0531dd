-- The grammar of RFC 8259: a tree for each way to write a value, and the bytes that it prints.
use Rattle.std.specs.Prelude.{◌≡◌, ◌⊎◌, ℕ, ◌+◌, ◌*◌, ◌≤◌, Bool, true, false, cond, ◌&&◌, ◌||◌, ◌==◌, nat_le, nat_lt, List, [], ◌∷◌, ◌++◌, ⊤, codes, encode_utf8, slice_index}
use Rattle.std.specs.Char.{digit_value, is_digit, IsScalar}
use Rattle.xs_data.specs.Ascii.{line_feed, carriage_return, tab, space, quotation_mark, plus_sign, comma, hyphen, full_stop, slash, digit_zero, digit_nine, colon, capital_e, opening_bracket, backslash, closing_bracket, small_e, small_u, opening_brace, closing_brace}

-- white space (section 2): space, tab, line feed, carriage return
abbrev pub is_blank : ℕ → Bool
is_blank b = ((b == space) || (b == tab)) || ((b == line_feed) || (b == carriage_return))

abbrev pub IsSpace : List ℕ → Type 0
IsSpace [] = ⊤
IsSpace (b ∷ bs) = (is_blank b ≡ true) × IsSpace bs

-- a number (section 6): an optional minus, whole digits with no leading zero, a fraction, an exponent
abbrev pub is_decimal : ℕ → Bool
is_decimal b = nat_le digit_zero b && nat_le b digit_nine

abbrev pub AreDigits : List ℕ → Type 0
AreDigits [] = ⊤
AreDigits (b ∷ bs) = (is_decimal b ≡ true) × AreDigits bs

abbrev pub IsWhole : List ℕ → Type 0
IsWhole [] = ⊥
IsWhole (b ∷ bs) = ((b ≡ digit_zero) × (bs ≡ [])) ⊎ ((b == digit_zero ≡ false) × AreDigits (b ∷ bs))

abbrev pub AreSomeDigits : List ℕ → Type 0
AreSomeDigits [] = ⊥
AreSomeDigits (b ∷ bs) = AreDigits (b ∷ bs)

abbrev pub IsFraction : List ℕ → Type 0
IsFraction [] = ⊤
IsFraction (b ∷ bs) = (b ≡ full_stop) × AreSomeDigits bs

abbrev pub AreSignedDigits : List ℕ → Type 0
AreSignedDigits [] = ⊥
AreSignedDigits (b ∷ bs) = AreDigits (b ∷ bs) ⊎ (((b ≡ plus_sign) ⊎ (b ≡ hyphen)) × AreSomeDigits bs)

abbrev pub IsExponent : List ℕ → Type 0
IsExponent [] = ⊤
IsExponent (b ∷ bs) = ((b ≡ small_e) ⊎ (b ≡ capital_e)) × AreSignedDigits bs

-- the minus, if there is one, and the digits
abbrev pub with_minus : Bool → List ℕ → List ℕ
with_minus true digits = hyphen ∷ digits
with_minus false digits = digits

-- four hexadecimal digits, which spell a code unit of UTF-16 (section 7)
pub record CodeUnit : Type 0 where
  pub first : ℕ
  pub second : ℕ
  pub third : ℕ
  pub fourth : ℕ

-- A character of a string (section 7): as it is, by a backslash and one byte, by its code unit, or by
-- a surrogate pair.
pub data Char : Type 0 where
  plain : ℕ → Char
  escaped : ℕ → Char
  coded : CodeUnit → Char
  paired : CodeUnit → CodeUnit → Char

abbrev pub are_hex : CodeUnit → Bool
are_hex u =
    (is_digit u.first 16 && is_digit u.second 16) && (is_digit u.third 16 && is_digit u.fourth 16)

abbrev pub unit_value : CodeUnit → ℕ
unit_value u =
    ((digit_value u.first * 16 + digit_value u.second) * 16 + digit_value u.third) * 16
    + digit_value u.fourth

abbrev pub is_high_surrogate : ℕ → Bool
is_high_surrogate c = nat_le 0xD800 c && nat_lt c 0xDC00

abbrev pub is_low_surrogate : ℕ → Bool
is_low_surrogate c = nat_le 0xDC00 c && nat_lt c 0xE000

-- the byte of a text of one
abbrev letter : List ℕ → ℕ
letter text = slice_index text 0

abbrev backspace : ℕ
backspace = 0x08

abbrev form_feed : ℕ
form_feed = 0x0C

-- the character that a backslash and this byte stand for, and 0 where they stand for none
abbrev pub escape_value : ℕ → ℕ
escape_value b =
    cond ((b == quotation_mark) || ((b == backslash) || (b == slash))) b
    (cond (b == letter (codes "b")) backspace
    (cond (b == letter (codes "f")) form_feed
    (cond (b == letter (codes "n")) line_feed
    (cond (b == letter (codes "r")) carriage_return
    (cond (b == letter (codes "t")) tab 0)))))

-- A high surrogate stands before a low one, and no other surrogate stands anywhere.
abbrev pub IsChar : Char → Type 0
IsChar (plain c) = IsScalar c × (space ≤ c) × (c == quotation_mark ≡ false) × (c == backslash ≡ false)
IsChar (escaped b) = escape_value b == 0 ≡ false
IsChar (coded u) =
    (are_hex u ≡ true) × (is_high_surrogate (unit_value u) ≡ false) × (is_low_surrogate (unit_value u) ≡ false)
IsChar (paired u v) =
    (are_hex u ≡ true) × (are_hex v ≡ true) × (is_high_surrogate (unit_value u) ≡ true)
    × (is_low_surrogate (unit_value v) ≡ true)

abbrev pub AreChars : List Char → Type 0
AreChars [] = ⊤
AreChars (c ∷ cs) = IsChar c × AreChars cs

-- `\u` and the four digits
abbrev pub print_unit : CodeUnit → List ℕ
print_unit u = backslash ∷ small_u ∷ u.first ∷ u.second ∷ u.third ∷ u.fourth ∷ []

abbrev pub print_char : Char → List ℕ
print_char (plain c) = encode_utf8 c
print_char (escaped b) = backslash ∷ b ∷ []
print_char (coded u) = print_unit u
print_char (paired u v) = print_unit u ++ print_unit v

abbrev pub print_chars : List Char → List ℕ
print_chars [] = []
print_chars (c ∷ cs) = print_char c ++ print_chars cs

-- a string between its quotes
abbrev pub print_string : List Char → List ℕ
print_string cs = quotation_mark ∷ (print_chars cs ++ quotation_mark ∷ [])

-- white space before and after a comma or a colon
pub record Gap : Type 0 where
  pub before : List ℕ
  pub after : List ℕ

abbrev pub IsGap : Gap → Type 0
IsGap gap = IsSpace gap.before × IsSpace gap.after

-- a comma, a colon or nothing, among its white space
abbrev pub print_separator : Gap → List ℕ → List ℕ
print_separator gap separator = gap.before ++ (separator ++ gap.after)

abbrev pub print_colon : Gap → List ℕ
print_colon gap = print_separator gap (colon ∷ [])

-- the characters of a member's key, and the white space round its colon
pub record Key : Type 0 where
  pub chars : List Char
  pub gap : Gap

abbrev pub IsKey : Key → Type 0
IsKey key = AreChars key.chars × IsGap key.gap

-- A value (section 3). In an array and an object (sections 4 and 5) each element or member is written
-- after white space, the comma of all but the first, and white space again.
mutual
  pub data Tree : Type 0 where
    null : Tree
    boolean : Bool → Tree
    number : Bool → List ℕ → List ℕ → List ℕ → Tree
    string : List Char → Tree
    array : Elements → Tree
    object : Members → Tree

  pub data Elements : Type 0 where
    no_elements : List ℕ → Elements
    element : Gap → Tree → Elements → Elements

  pub data Members : Type 0 where
    no_members : List ℕ → Members
    member : Gap → Key → Tree → Members → Members

abbrev mutual
  pub print : Tree → List ℕ
  print null = codes "null"
  print (boolean true) = codes "true"
  print (boolean false) = codes "false"
  print (number minus digits fraction exponent) = with_minus minus digits ++ (fraction ++ exponent)
  print (string cs) = print_string cs
  print (array es) = opening_bracket ∷ print_elements [] es
  print (object ms) = opening_brace ∷ print_members [] ms

  -- with the closing bracket; the comma stands before the first element that is left
  pub print_elements : List ℕ → Elements → List ℕ
  print_elements separator (no_elements s) = s ++ closing_bracket ∷ []
  print_elements separator (element gap t es) =
      print_separator gap separator ++ (print t ++ print_elements (comma ∷ []) es)

  pub print_members : List ℕ → Members → List ℕ
  print_members separator (no_members s) = s ++ closing_brace ∷ []
  print_members separator (member gap key t ms) =
      print_separator gap separator
      ++ (print_string key.chars ++ (print_colon key.gap ++ (print t ++ print_members (comma ∷ []) ms)))

-- the parts are what the grammar asks for in their places
abbrev mutual
  pub IsTree : Tree → Type 0
  IsTree null = ⊤
  IsTree (boolean b) = ⊤
  IsTree (number minus digits fraction exponent) =
      IsWhole digits × IsFraction fraction × IsExponent exponent
  IsTree (string cs) = AreChars cs
  IsTree (array es) = AreElements es
  IsTree (object ms) = AreMembers ms

  pub AreElements : Elements → Type 0
  AreElements (no_elements s) = IsSpace s
  AreElements (element gap t es) = IsGap gap × IsTree t × AreElements es

  pub AreMembers : Members → Type 0
  AreMembers (no_members s) = IsSpace s
  AreMembers (member gap key t ms) = IsGap gap × IsKey key × IsTree t × AreMembers ms

-- the text is this tree's, among white space
pub record IsPrinted (text before : List ℕ) (tree : Tree) (after : List ℕ) : Type 0 where
  pub white_before : IsSpace before
  pub well_formed : IsTree tree
  pub white_after : IsSpace after
  pub printed : text ≡ before ++ (print tree ++ after)

-- a JSON text, with whatever numbers, depth and keys
abbrev pub IsJson : List ℕ → Type 0
IsJson text = (before : List ℕ) × (tree : Tree) × (after : List ℕ) × IsPrinted text before tree after
