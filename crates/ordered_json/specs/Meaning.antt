-- What a JSON text means: the value with the place of each part, where nothing in it is refused.
use Rattle.std.specs.Prelude.{◌≡◌, ℕ, suc, ◌+◌, ◌*◌, ◌-◌, ◌^◌, ◌<◌, ◌≤◌, Bool, true, false, nat_le, nat_lt, List, [], ◌∷◌, ◌++◌, length, ⊤, encode_utf8, fold, pos, ℤ}
use Rattle.std.proofs.Common.{neg_ℤ}
use Rattle.std.specs.List.{list_any}
use Rattle.std.specs.Str.{bytes_eq}
use Rattle.xs_data.specs.Ascii.{comma, digit_zero}
use Rattle.ordered_json.specs.declared.TheConstants.{MAX_TEXT, MAX_LEVELS}
use Rattle.ordered_json.specs.declared.json.Member.{Member}
use Rattle.ordered_json.specs.declared.json.OrderedJson.{OrderedJson, Null, Bool as a_bool, Int, Text, List as a_list, Object}
use Rattle.ordered_json.specs.Words.{member_of}
use Rattle.ordered_json.specs.Grammar.{Char, plain, escaped, coded, paired, unit_value, escape_value, Tree, null, boolean, number, string, array, object, Elements, no_elements, element, Members, no_members, member, print, print_string, print_separator, print_colon, IsPrinted}

-- the number that decimal digits spell
abbrev pub magnitude : List ℕ → ℕ
magnitude digits = fold (λ n b. n * 10 + (b - digit_zero)) 0 digits

abbrev pub int_value : Bool → ℕ → ℤ
int_value true n = neg_ℤ (pos n)
int_value false n = pos n

-- whether the number is from -2^63 to 2^63 - 1
abbrev pub fits : Bool → ℕ → Bool
fits true n = nat_le n (2 ^ 63)
fits false n = nat_lt n (2 ^ 63)

-- the character that a surrogate pair stands for (RFC 2781, section 2.2)
abbrev pub pair_value : ℕ → ℕ → ℕ
pair_value high low = 0x10000 + (high - 0xD800) * 1024 + (low - 0xDC00)

abbrev pub char_value : Char → ℕ
char_value (plain c) = c
char_value (escaped b) = escape_value b
char_value (coded u) = unit_value u
char_value (paired u v) = pair_value (unit_value u) (unit_value v)

-- the characters of a string in UTF-8
abbrev pub string_content : List Char → List ℕ
string_content [] = []
string_content (c ∷ cs) = encode_utf8 (char_value c) ++ string_content cs

-- the value of a tree whose first byte stands at a place
abbrev mutual
  pub value_at : ℕ → Tree → OrderedJson
  value_at p null = Null p
  value_at p (boolean b) = a_bool p b
  value_at p (number minus digits fraction exponent) = Int p (int_value minus (magnitude digits))
  value_at p (string cs) = Text p (string_content cs)
  value_at p (array es) = a_list p (items_at (p + 1) [] es)
  value_at p (object ms) = Object p (members_at (p + 1) [] ms)

  pub items_at : ℕ → List ℕ → Elements → List OrderedJson
  items_at p separator (no_elements s) = []
  items_at p separator (element gap t es) =
      let q = p + length (print_separator gap separator) in
      value_at q t ∷ items_at (q + length (print t)) (comma ∷ []) es

  pub members_at : ℕ → List ℕ → Members → List Member
  members_at p separator (no_members s) = []
  members_at p separator (member gap key t ms) =
      let q = p + length (print_separator gap separator) in
      let v = q + length (print_string key.chars ++ print_colon key.gap) in
      member_of (string_content key.chars) q (value_at v t)
      ∷ members_at (v + length (print t)) (comma ∷ []) ms

-- whether one of the keys has these bytes
abbrev pub has_key : List ℕ → List (List ℕ) → Bool
has_key key keys = list_any (bytes_eq key) keys

-- Nothing in the tree is refused: each number is whole and fits, arrays and objects nest at most
-- `MAX_LEVELS` deep where `depth` of them stand around, and no object has a key twice.
abbrev mutual
  pub IsTaken : ℕ → Tree → Type 0
  IsTaken depth null = ⊤
  IsTaken depth (boolean b) = ⊤
  IsTaken depth (number minus digits fraction exponent) =
      (fraction ≡ []) × (exponent ≡ []) × (fits minus (magnitude digits) ≡ true)
  IsTaken depth (string cs) = ⊤
  IsTaken depth (array es) = (depth < MAX_LEVELS) × ElementsTaken (suc depth) es
  IsTaken depth (object ms) = (depth < MAX_LEVELS) × MembersTaken (suc depth) [] ms

  pub ElementsTaken : ℕ → Elements → Type 0
  ElementsTaken depth (no_elements s) = ⊤
  ElementsTaken depth (element gap t es) = IsTaken depth t × ElementsTaken depth es

  -- `keys` are those of the members before
  pub MembersTaken : ℕ → List (List ℕ) → Members → Type 0
  MembersTaken depth keys (no_members s) = ⊤
  MembersTaken depth keys (member gap key t ms) =
      (has_key (string_content key.chars) keys ≡ false) × IsTaken depth t
      × MembersTaken depth (keys ++ string_content key.chars ∷ []) ms

-- the text is a JSON text in which nothing is refused, and this is its value
abbrev pub HasValue : List ℕ → OrderedJson → Type 0
HasValue text json =
    (before : List ℕ) × (tree : Tree) × (after : List ℕ) × IsPrinted text before tree after
    × IsTaken 0 tree × (json ≡ value_at (length before) tree)

-- the text is short enough, nothing in it is refused, and this is its value
abbrev pub Means : List ℕ → OrderedJson → Type 0
Means text json = (length text ≤ MAX_TEXT) × HasValue text json

-- the text has no meaning: it is no JSON text, or something in it is refused
abbrev pub IsMeaningless : List ℕ → Type 0
IsMeaningless text = (json : OrderedJson) → Means text json → ⊥
