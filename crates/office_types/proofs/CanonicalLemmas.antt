-- A plain value is what its compact text means: a tree for each value that prints the text.
use Rattle.std.proofs.Common.{add-zero, zero-add, ◌≡◌, ℕ, suc, zero, ◌+◌, ◌-◌, ◌*◌, ◌/◌, ◌%◌, ◌^◌, ◌<◌, ◌≤◌, Bool, true, false, cond, not, ◌&&◌, ◌==◌, List, [], ◌∷◌, ◌++◌, length, get_or, map, max, ℤ, pos, negsuc, refl, sym, ap, subst, ◌∙◌, inl, inr, arith, rules, append_assoc, append-nil, w64, FitsSigned}
use Rattle.std.specs.Prelude.{nat_lt, nat_le, decimal, IsUtf8, fold}
use Rattle.std.specs.Char.{IsScalar, encode_utf8, digit_char, digit_value}
use Rattle.std.specs.declared.cmp.Ordering.TheVariants.{Less, Greater}
use Rattle.std.specs.Fmt.{signed_decimal}
use Rattle.std.specs.List.{AllByRecursion, join_with_byte, list_all, range_with_len}
use Rattle.std.specs.List.Sorted.{IsStrictlySortedBy}
use Rattle.std.specs.Map.{keys_of}
use Rattle.std.specs.Ordering.{ordering_reverse}
use Rattle.std.specs.Str.{bytes_eq}
use Rattle.std.specs.Str.Parse.{digits_value, digits_value_after}
use Rattle.std.proofs.Math.Utf8.{encodes, scalars}
use lib.Utf8.{scalar}
use Rattle.std.proofs.lemmas.Bool.{eqb-true}
use Rattle.std.proofs.lemmas.Bool.Decides.{nat_tests}
use Rattle.std.proofs.lemmas.Cmp.{nat_list_cmp_total}
use Rattle.std.proofs.lemmas.Fmt.{decimal_digit, decimal_nonempty, digits_decimal, digits_value-decimal, first_decimal}
use Rattle.std.proofs.lemmas.Grind.{flat_map-append}
use Rattle.std.proofs.lemmas.Slice.Eq.{bytes_eq-Decides}
use Rattle.std.proofs.lemmas.Str.Parse.{IsDigitsTest, IsNumeralModel, numerals_by_value}
use Rattle.json.specs.Print.{escape, escape_byte, escape_letter, quoted}
use Rattle.ordered_json.specs.Grammar.{AreChars, AreDigits, AreElements, AreMembers, Char, Elements, Gap, IsChar, IsTree, IsWhole, Members, Tree, are_hex, array, boolean, coded, element, escape_value, escaped, is_decimal, is_high_surrogate, is_low_surrogate, member, no_elements, no_members, null, number, object, paired, plain, print, print_char, print_chars, print_colon, print_elements, print_members, print_separator, print_string, string, unit_value, with_minus}
use Rattle.ordered_json.specs.Meaning.{ElementsTaken, IsTaken, MembersTaken, char_value, fits, has_key, int_value, items_at, magnitude, members_at, string_content, value_at}
use Rattle.ordered_json.specs.declared.json.Member.{Member, Member-F, out-roll-Member}
use Rattle.ordered_json.specs.declared.json.OrderedJson.{OrderedJson}
use Rattle.ordered_json.specs.Words.{member_of}
use Rattle.ordered_json.proofs.KeyLemmas.{bytes_eq-flip}
use Rattle.ordered_json.proofs.StringLemmas.{and_true, above, below, encode_one, encode_two, encode_three, encode_four, is_above, is_below}
use Rattle.xs_model.specs.declared.value.Value.{Value, every_here-Value, out-roll-Value}
use Rattle.xs_model.specs.declared.value.Value.TheOpen.{Value-F}
use Rattle.xs_model.specs.declared.value.Value.TheVariants as value
use Rattle.xs_model.specs.declared.value.Value.TheVariants.{rolls-Null, rolls-Bool, rolls-Int, rolls-Text, rolls-List, rolls-Map}
use Rattle.xs_model.specs.declared.value.Value.TheViews.{roll-Value}
use Rattle.xs_model.specs.Compact.{compact_text, greatest_depth, keyed_text, nesting}
use Rattle.xs_model.specs.Rising.{key_cmp, put}
use Rattle.xs_model.proofs.CompactLemmas.{compact-List, compact-Map}
use Rattle.xs_model.proofs.PartLemmas.{Parts, by_parts, parts_every}
use Rattle.xs_model.proofs.RisingLemmas.{differs}
use Rattle.office_types.specs.JsonValues.{json_value, members_value}
use Rattle.office_types.specs.Laws.{CompactTextMeansItsValue, IsPlain, IsPlainLayer}
use Rattle.office_types.proofs.ValueLemmas.{compact-Bool, compact-Int, compact-Null, compact-Text, json-Bool, json-Int, json-List, json-Null, json-Object, json-Text, json_member, nesting-List, nesting-Map}

-- ---- characters

-- what holds by a test of each number below a bound
all_below : (n from : ℕ) (test : ℕ → Bool) → list_all test (range_with_len from n) ≡ true → (k : ℕ) → k < n → test (from + k) ≡ true
all_below zero from test all k small = absurd (omega arith)
all_below (suc n) from test all zero small = rw add-zero (and_true (test from) (list_all test (range_with_len (from + 1) n)) all).0
all_below (suc n) from test all (suc k) small =
    let below_n : k < n = omega arith in
    let place : from + suc k ≡ (from + 1) + k = omega arith in
    rw place (all_below n (from + 1) test (and_true (test from) (list_all test (range_with_len (from + 1) n)) all).1 k below_n)

-- a character below 128 as a writer spells it
abbrev low_char : ℕ → Char
low_char c =
    cond (nat_lt 0 (escape_letter c)) (escaped (escape_letter c))
    (cond (nat_lt c 32) (coded (record { first = 48; second = 48; third = digit_char (c / 16); fourth = digit_char (c % 16) })) (plain c))

-- and any character
canonical_char : ℕ → Char
canonical_char c = cond (nat_lt c 128) (low_char c) (plain c)

-- the grammar's rule for a character, as a test
abbrev is_char : Char → Bool
is_char (plain c) = scalar c && (nat_le 32 c && (not (c == 34) && not (c == 92)))
is_char (escaped b) = not (escape_value b == 0)
is_char (coded u) = are_hex u && (not (is_high_surrogate (unit_value u)) && not (is_low_surrogate (unit_value u)))
is_char (paired u v) = false

not_true : (b : Bool) → not b ≡ true → b ≡ false
not_true true h = absurd cc
not_true false h = refl

IsChar-test : (c : Char) → is_char c ≡ true → IsChar c
IsChar-test (plain c) h =
    let a = and_true (scalar c) (nat_le 32 c && (not (c == 34) && not (c == 92))) h in
    let b = and_true (nat_le 32 c) (not (c == 34) && not (c == 92)) a.1 in
    let d = and_true (not (c == 34)) (not (c == 92)) b.1 in
    let large : 32 ≤ c = let test = b.0 in grind (arith, nat_tests) in
    (a.0, large, not_true (c == 34) d.0, not_true (c == 92) d.1)
IsChar-test (escaped b) h = not_true (escape_value b == 0) h
IsChar-test (coded u) h =
    let a = and_true (are_hex u) (not (is_high_surrogate (unit_value u)) && not (is_low_surrogate (unit_value u))) h in
    let b = and_true (not (is_high_surrogate (unit_value u))) (not (is_low_surrogate (unit_value u))) a.1 in
    (a.0, not_true (is_high_surrogate (unit_value u)) b.0, not_true (is_low_surrogate (unit_value u)) b.1)
IsChar-test (paired u v) h = absurd cc

-- each character below 128 is one of the grammar, has its value, and prints as the writer prints it
abbrev low_is_right : ℕ → Bool
low_is_right c = is_char (low_char c) && ((char_value (low_char c) == c) && bytes_eq (print_char (low_char c)) (escape_byte c))

low_right : list_all low_is_right (range_with_len 0 128) ≡ true
unfolding encode_utf8 escape_byte
low_right = refl

pub record IsRight (c : ℕ) (char : Char) : Type 0 where
  pub is : IsChar char
  pub value : char_value char ≡ c
  pub prints : print_char char ≡ escape (encode_utf8 c)

low_char_right : (c : ℕ) → c < 128 → IsRight c (low_char c)
low_char_right c small =
    let all : low_is_right c ≡ true = rw zero-add at (all_below 128 0 low_is_right low_right c small) in
    let a = and_true (is_char (low_char c)) ((char_value (low_char c) == c) && bytes_eq (print_char (low_char c)) (escape_byte c)) all in
    let b = and_true (char_value (low_char c) == c) (bytes_eq (print_char (low_char c)) (escape_byte c)) a.1 in
    record {
      is = IsChar-test (low_char c) a.0;
      value = eqb-true (char_value (low_char c)) c b.0;
      prints = (bytes_eq-Decides (print_char (low_char c)) (escape_byte c)).0 b.1
          ∙ sym (append-nil (escape_byte c)) ∙ ap escape (sym (encode_one c (is_below c 128 small)));
    }

-- bytes from 128 on stand for themselves
high_byte : (b : ℕ) → 128 ≤ b → escape_byte b ≡ b ∷ []
unfolding escape_byte
high_byte b large = grind (arith, nat_tests)

high_bytes : (bs : List ℕ) → AllByRecursion (λ b. 128 ≤ b) bs → escape bs ≡ bs
high_bytes [] all = refl
high_bytes (b ∷ bs) all = rw (high_byte b all.0) (ap (λ rest. b ∷ rest) (high_bytes bs all.1))

high_encoded : (c : ℕ) → 128 ≤ c → AllByRecursion (λ b. 128 ≤ b) (encode_utf8 c)
high_encoded c large = by_size (nat_lt c 2048) refl (nat_lt c 65536) refl where
  one : nat_lt c 128 ≡ false
  one = is_above c 128 large

  P : List ℕ → Type 0
  P = AllByRecursion (λ b. 128 ≤ b)

  by_size : (two : Bool) → nat_lt c 2048 ≡ two → (three : Bool) → nat_lt c 65536 ≡ three → P (encode_utf8 c)
  by_size true two three is = subst P (sym (encode_two c one two)) (omega arith, (omega arith, tt))
  by_size false two true is = subst P (sym (encode_three c one two is)) (omega arith, (omega arith, (omega arith, tt)))
  by_size false two false is = subst P (sym (encode_four c one two is)) (omega arith, (omega arith, (omega arith, (omega arith, tt))))

plain_right : (c : ℕ) → IsScalar c → 128 ≤ c → IsRight c (plain c)
plain_right c is large = record {
  is = (is, omega arith, grind (arith, nat_tests), grind (arith, nat_tests));
  value = refl;
  prints = sym (high_bytes (encode_utf8 c) (high_encoded c large));
}

canonical_right : (c : ℕ) → IsScalar c → IsRight c (canonical_char c)
unfolding canonical_char
canonical_right c is = by_size (nat_lt c 128) refl where
  by_size : (small : Bool) → nat_lt c 128 ≡ small → IsRight c (cond (nat_lt c 128) (low_char c) (plain c))
  by_size true small = rw small (low_char_right c (below c 128 small))
  by_size false large = rw large (plain_right c is (above c 128 large))

-- ---- texts

-- the characters of a text as a writer spells them
pub record Spells (text : List ℕ) (chars : List Char) : Type 0 where
  pub are : AreChars chars
  pub content : string_content chars ≡ text
  pub prints : print_chars chars ≡ escape text

canonical_chars : (cs : List ℕ) → scalars cs ≡ true → Spells (encodes cs) (map canonical_char cs)
canonical_chars [] all = record { are = tt; content = refl; prints = refl }
canonical_chars (c ∷ cs) all =
    let both = and_true (scalar c) (scalars cs) all in
    let head = canonical_right c both.0 in
    let rest = canonical_chars cs both.1 in
    record {
      are = (head.is, rest.are);
      content = ap (λ n. encode_utf8 n ++ string_content (map canonical_char cs)) head.value ∙ ap (λ l. encode_utf8 c ++ l) rest.content;
      prints = ap (λ l. l ++ print_chars (map canonical_char cs)) head.prints ∙ ap (λ l. escape (encode_utf8 c) ++ l) rest.prints
          ∙ sym (flat_map-append escape_byte (encode_utf8 c) (encodes cs));
    }

-- each text has such characters
pub spelled : (text : List ℕ) → IsUtf8 text → (chars : List Char) × Spells text chars
spelled text is = (map canonical_char is.0, subst (λ t. Spells t (map canonical_char is.0)) is.1.1 (canonical_chars is.0 is.1.0))

-- ---- numbers

-- the digits of a number are decimal
are_digits : (ds : List ℕ) → list_all is_decimal ds ≡ true → AreDigits ds
are_digits [] all = tt
are_digits (d ∷ ds) all = let both = and_true (is_decimal d) (list_all is_decimal ds) all in (both.0, are_digits ds both.1)

digit_of : (b : ℕ) → is_decimal b ≡ true → digit_value b ≡ b - 48
digit_of b is = grind (arith, nat_tests)

-- std's value of digits is the grammar's
same_value : (ds : List ℕ) (n : ℕ) → list_all is_decimal ds ≡ true → fold (λ m b. m * 10 + (b - 48)) n ds ≡ digits_value_after 10 n ds
same_value [] n all = refl
same_value (d ∷ ds) n all =
    let both = and_true (is_decimal d) (list_all is_decimal ds) all in
    ap (λ v. fold (λ m b. m * 10 + (b - 48)) (n * 10 + v) ds) (sym (digit_of d both.0)) ∙ same_value ds (n * 10 + digit_value d) both.1

digits_test : IsDigitsTest (λ ds. list_all is_decimal ds ≡ true)
digits_test = search rules

own_digits : IsNumeralModel (λ ds. list_all is_decimal ds ≡ true) (digits_value 10)
own_digits = numerals_by_value _ digits_test

magnitude-decimal : (n : ℕ) → n < 2 ^ 64 → magnitude (decimal n) ≡ n
magnitude-decimal n small = same_value (decimal n) 0 (digits_decimal own_digits n small) ∙ digits_value-decimal own_digits n small

whole_from : (ds : List ℕ) → 0 < length ds → list_all is_decimal ds ≡ true → 48 < get_or ds 0 0 → IsWhole ds
whole_from [] some all first = absurd (omega arith)
whole_from (b ∷ bs) some all first =
    let head : 48 < b = first in
    let other : (b == 48) ≡ false = grind (arith, nat_tests) in
    inr (other, are_digits (b ∷ bs) all)

whole_decimal : (n : ℕ) → n < 2 ^ 64 → IsWhole (decimal n)
whole_decimal zero small = subst IsWhole (sym (decimal_digit 0 (omega arith))) (inl (refl, refl))
whole_decimal (suc n) small =
    whole_from (decimal (suc n)) (decimal_nonempty (suc n) small) (digits_decimal own_digits (suc n) small) (first_decimal (suc n) (omega arith) small)

-- ---- trees

-- a tree that prints the compact text of a value and means the value
pub record Canonical (x : Value) : Type 0 where
  pub tree : Tree
  pub prints : print tree ≡ compact_text x
  pub is : IsTree tree
  pub taken : (depth : ℕ) → depth + nesting x ≤ 64 → IsTaken depth tree
  pub means : (place : ℕ) → json_value (value_at place tree) ≡ x

number_tree : (minus : Bool) (n : ℕ) (z : ℤ) → n < 2 ^ 64 → fits minus n ≡ true → int_value minus n ≡ z → with_minus minus (decimal n) ≡ signed_decimal z → Canonical (value.Int z)
number_tree minus n z small fit is text = record {
  tree = number minus (decimal n) [] [];
  prints = append-nil (with_minus minus (decimal n)) ∙ text ∙ sym (compact-Int z);
  is = (whole_decimal n small, tt, tt);
  taken = λ depth shallow. (refl, refl, ap (fits minus) (magnitude-decimal n small) ∙ fit);
  means = λ place. json-Int place (int_value minus (magnitude (decimal n))) ∙ ap (λ m. value.Int (int_value minus m)) (magnitude-decimal n small) ∙ ap value.Int is;
}

int_tree : (z : ℤ) → FitsSigned w64 z → Canonical (value.Int z)
int_tree (pos n) fit = let small : n < 2 ^ 63 = search rules in number_tree false n (pos n) (omega arith) (is_below n (2 ^ 63) small) refl refl
int_tree (negsuc n) fit = let small : n < 2 ^ 63 = search rules in number_tree true (suc n) (negsuc n) (omega arith) (grind (arith, nat_tests)) refl refl

text_tree : (text : List ℕ) → IsUtf8 text → Canonical (value.Text text)
text_tree text is =
    let chars = spelled text is in
    record {
      tree = string chars.0;
      prints = ap (λ l. 34 ∷ (l ++ 34 ∷ [])) chars.1.prints ∙ sym (compact-Text text);
      is = chars.1.are;
      taken = λ depth shallow. tt;
      means = λ place. json-Text place (string_content chars.0) ∙ ap value.Text chars.1.content;
    }

-- texts, each but the first after a comma
abbrev items_text : List ℕ → List (List ℕ) → List ℕ
items_text comma [] = []
items_text comma (text ∷ texts) = comma ++ (text ++ items_text (44 ∷ []) texts)

joined_text : (text : List ℕ) (texts : List (List ℕ)) → join_with_byte 44 (text ∷ texts) ≡ text ++ items_text (44 ∷ []) texts
joined_text text [] = sym (append-nil text)
joined_text text (next ∷ texts) = ap (λ rest. text ++ (44 ∷ rest)) (joined_text next texts)

first_text : (texts : List (List ℕ)) → items_text [] texts ≡ join_with_byte 44 texts
first_text [] = refl
first_text (text ∷ texts) = sym (joined_text text texts)

-- no white space
abbrev no_gap : Gap
no_gap = record { before = []; after = [] }

-- one piece after a comma, and the others, before a closing byte
piece : (comma text rest : List ℕ) (byte : ℕ) → (comma ++ []) ++ (text ++ (rest ++ byte ∷ [])) ≡ (comma ++ (text ++ rest)) ++ byte ∷ []
piece comma text rest byte = simp (append_assoc, append-nil)

-- ---- depths

max_least : (ds : List ℕ) (a : ℕ) → a ≤ fold max a ds
max_least [] a = omega arith
max_least (d ∷ ds) a = let more = max_least ds (max a d) in omega arith

max_more : (ds : List ℕ) (a b : ℕ) → a ≤ b → fold max a ds ≤ fold max b ds
max_more [] a b small = small
max_more (d ∷ ds) a b small = max_more ds (max a d) (max b d) (omega arith)

greatest_first : (d : ℕ) (ds : List ℕ) → d ≤ greatest_depth (d ∷ ds)
greatest_first d ds = let least = max_least ds (max 0 d) in omega arith

greatest_rest : (d : ℕ) (ds : List ℕ) → greatest_depth ds ≤ greatest_depth (d ∷ ds)
greatest_rest d ds = max_more ds 0 (max 0 d) (omega arith)

cons_is : {X : Type 0} (x y : X) (xs ys : List X) → x ≡ y → xs ≡ ys → x ∷ xs ≡ y ∷ ys
cons_is x y xs ys head rest = ap (λ z. z ∷ xs) head ∙ ap (λ zs. y ∷ zs) rest

-- ---- lists

-- the elements of a list, each as its tree
pub record CanonicalItems (xs : List Value) : Type 0 where
  pub elements : Elements
  pub prints : (comma : List ℕ) → print_elements comma elements ≡ items_text comma (map compact_text xs) ++ 93 ∷ []
  pub are : AreElements elements
  pub taken : (depth : ℕ) → depth + greatest_depth (map nesting xs) ≤ 64 → ElementsTaken depth elements
  pub means : (place : ℕ) (comma : List ℕ) → map json_value (items_at place comma elements) ≡ xs

canonical_items : (xs : List Value) → AllByRecursion Canonical xs → CanonicalItems xs
canonical_items [] all = record {
  elements = no_elements [];
  prints = λ comma. refl;
  are = tt;
  taken = λ depth shallow. tt;
  means = λ place comma. refl;
}
canonical_items (x ∷ xs) all =
    let head = all.0 in
    let rest = canonical_items xs all.1 in
    record {
      elements = element no_gap head.tree rest.elements;
      prints = λ comma.
          ap (λ l. (comma ++ []) ++ (print head.tree ++ l)) (rest.prints (44 ∷ []))
          ∙ ap (λ l. (comma ++ []) ++ (l ++ (items_text (44 ∷ []) (map compact_text xs) ++ 93 ∷ []))) head.prints
          ∙ piece comma (compact_text x) (items_text (44 ∷ []) (map compact_text xs)) 93;
      are = ((tt, tt), head.is, rest.are);
      taken = λ depth shallow.
          let a = greatest_first (nesting x) (map nesting xs) in
          let b = greatest_rest (nesting x) (map nesting xs) in
          (head.taken depth (omega arith), rest.taken depth (omega arith));
      means = λ place comma. cons_is _ _ _ _ (head.means _) (rest.means _ (44 ∷ []));
    }

list_tree : (xs : List Value) → AllByRecursion Canonical xs → Canonical (value.List xs)
list_tree xs all =
    let items = canonical_items xs all in
    record {
      tree = array items.elements;
      prints = ap (λ l. 91 ∷ l) (items.prints []) ∙ ap (λ l. 91 ∷ (l ++ 93 ∷ [])) (first_text (map compact_text xs)) ∙ sym (compact-List xs);
      is = items.are;
      taken = λ depth shallow.
          let deep : nesting (value.List xs) ≡ suc (greatest_depth (map nesting xs)) = nesting-List xs in
          (omega arith, items.taken (suc depth) (omega arith));
      means = λ place. json-List place (items_at (place + 1) [] items.elements) ∙ ap value.List (items.means (place + 1) []);
    }

-- ---- maps

-- the members of a map, each with its key and its tree
pub record CanonicalMembers (ms : List (List ℕ × Value)) : Type 0 where
  pub members : Members
  pub prints : (comma : List ℕ) → print_members comma members ≡ items_text comma (map keyed_text ms) ++ 125 ∷ []
  pub are : AreMembers members
  pub taken : (depth : ℕ) (keys : List (List ℕ)) → depth + greatest_depth (map (λ (m : List ℕ × Value). nesting m.1) ms) ≤ 64
      → AllByRecursion (λ (k : List ℕ). AllByRecursion (λ l. key_cmp k l ≡ Less) (keys_of ms)) keys → MembersTaken depth keys members
  pub means : (place : ℕ) (comma : List ℕ) → map json_member (members_at place comma members) ≡ ms

-- a member of the map is plain
abbrev PlainMember : List ℕ × Value → Type 0
PlainMember m = IsUtf8 m.0 × Canonical m.1

-- the key is not among those that are below it
new_key : (key : List ℕ) (keys : List (List ℕ)) (ls : List (List ℕ)) → AllByRecursion (λ (k : List ℕ). AllByRecursion (λ l. key_cmp k l ≡ Less) (key ∷ ls)) keys → has_key key keys ≡ false
new_key key [] ls all = refl
new_key key (k ∷ keys) ls all = rw (bytes_eq-flip key k, differs k key Less all.0.0 refl) (new_key key keys ls all.1)

later_keys : (key : List ℕ) (keys : List (List ℕ)) (ls : List (List ℕ)) → AllByRecursion (λ (k : List ℕ). AllByRecursion (λ l. key_cmp k l ≡ Less) (key ∷ ls)) keys
    → AllByRecursion (λ l. key_cmp key l ≡ Less) ls → AllByRecursion (λ (k : List ℕ). AllByRecursion (λ l. key_cmp k l ≡ Less) ls) (keys ++ key ∷ [])
later_keys key [] ls all below = (below, tt)
later_keys key (k ∷ keys) ls all below = (all.0.1, later_keys key keys ls all.1 below)

-- the parts of a member of an object
pub member_is : (key : List ℕ) (place : ℕ) (json : OrderedJson) → json_member (member_of key place json) ≡ (key, json_value json)
member_is key place json = ap (λ (m : Member-F OrderedJson Member). (m.key, json_value m.value)) (out-roll-Member (record { key = key; key_place = place; value = json }))

canonical_members : (ms : List (List ℕ × Value)) → AllByRecursion PlainMember ms → IsStrictlySortedBy key_cmp (keys_of ms) → CanonicalMembers ms
unfolding IsStrictlySortedBy
canonical_members [] all rise = record {
  members = no_members [];
  prints = λ comma. refl;
  are = tt;
  taken = λ depth keys shallow below. tt;
  means = λ place comma. refl;
}
canonical_members (m ∷ ms) all rise =
    let chars = spelled m.0 all.0.0 in
    let head = all.0.1 in
    let rest = canonical_members ms all.1 rise.1 in
    record {
      members = member no_gap (record { chars = chars.0; gap = no_gap }) head.tree rest.members;
      prints = λ comma.
          ap (λ l. (comma ++ []) ++ (print_string chars.0 ++ (58 ∷ (print head.tree ++ l)))) (rest.prints (44 ∷ []))
          ∙ ap (λ l. (comma ++ []) ++ (print_string chars.0 ++ (58 ∷ (l ++ (items_text (44 ∷ []) (map keyed_text ms) ++ 125 ∷ []))))) head.prints
          ∙ ap (λ l. (comma ++ []) ++ ((34 ∷ (l ++ 34 ∷ [])) ++ (58 ∷ (compact_text m.1 ++ (items_text (44 ∷ []) (map keyed_text ms) ++ 125 ∷ []))))) chars.1.prints
          ∙ ap (λ l. (comma ++ []) ++ l) (sym (append_assoc (quoted m.0) (58 ∷ compact_text m.1) (items_text (44 ∷ []) (map keyed_text ms) ++ 125 ∷ [])))
          ∙ piece comma (keyed_text m) (items_text (44 ∷ []) (map keyed_text ms)) 125;
      are = ((tt, tt), (chars.1.are, (tt, tt)), head.is, rest.are);
      taken = λ depth keys shallow below.
          let a = greatest_first (nesting m.1) (map (λ (n : List ℕ × Value). nesting n.1) ms) in
          let b = greatest_rest (nesting m.1) (map (λ (n : List ℕ × Value). nesting n.1) ms) in
          subst (λ key. (has_key key keys ≡ false) × IsTaken depth head.tree × MembersTaken depth (keys ++ key ∷ []) rest.members) (sym chars.1.content)
          (new_key m.0 keys (keys_of ms) below, head.taken depth (omega arith), rest.taken depth (keys ++ m.0 ∷ []) (omega arith) (later_keys m.0 keys (keys_of ms) below rise.0));
      means = λ place comma.
          let q : ℕ = place + length (print_separator no_gap comma) in
          let v : ℕ = q + length (print_string chars.0 ++ print_colon no_gap) in
          cons_is (json_member (member_of (string_content chars.0) q (value_at v head.tree))) m (map json_member (members_at (v + length (print head.tree)) (44 ∷ []) rest.members)) ms
          (member_is (string_content chars.0) q (value_at v head.tree)
          ∙ ap (λ (key : List ℕ). (key, json_value (value_at v head.tree))) chars.1.content
          ∙ ap (λ (x : Value). (m.0, x)) (head.means v))
          (rest.means (v + length (print head.tree)) (44 ∷ []));
    }

-- a key that is above all others goes last
put_last : (ms : List (List ℕ × Value)) (key : List ℕ) (x : Value) → AllByRecursion (λ (m : List ℕ × Value). key_cmp m.0 key ≡ Less) ms → put ms key x ≡ ms ++ (key, x) ∷ []
put_last [] key x all = refl
put_last (m ∷ ms) key x all =
    let above : key_cmp key m.0 ≡ Greater = nat_list_cmp_total.antisymm key m.0 ∙ ap ordering_reverse all.0 in
    rw above (ap (λ rest. m ∷ rest) (put_last ms key x all.1))

below_snoc : (done : List (List ℕ × Value)) (m : List ℕ × Value) (ms : List (List ℕ × Value)) → AllByRecursion (λ (d : List ℕ × Value). AllByRecursion (λ l. key_cmp d.0 l ≡ Less) (keys_of (m ∷ ms))) done
    → AllByRecursion (λ l. key_cmp m.0 l ≡ Less) (keys_of ms) → AllByRecursion (λ (d : List ℕ × Value). AllByRecursion (λ l. key_cmp d.0 l ≡ Less) (keys_of ms)) (done ++ m ∷ [])
below_snoc [] m ms all below = (below, tt)
below_snoc (d ∷ done) m ms all below = (all.0.1, below_snoc done m ms all.1 below)

first_below : (done : List (List ℕ × Value)) (m : List ℕ × Value) (ms : List (List ℕ × Value)) → AllByRecursion (λ (d : List ℕ × Value). AllByRecursion (λ l. key_cmp d.0 l ≡ Less) (keys_of (m ∷ ms))) done
    → AllByRecursion (λ (d : List ℕ × Value). key_cmp d.0 m.0 ≡ Less) done
first_below [] m ms all = tt
first_below (d ∷ done) m ms all = (all.0.0, first_below done m ms all.1)

abbrev put_member : List (List ℕ × Value) → List ℕ × Value → List (List ℕ × Value)
put_member sorted m = put sorted m.0 m.1

-- members that rise are sorted already
sorted_already : (done ms : List (List ℕ × Value)) → AllByRecursion (λ (d : List ℕ × Value). AllByRecursion (λ l. key_cmp d.0 l ≡ Less) (keys_of ms)) done → IsStrictlySortedBy key_cmp (keys_of ms)
    → fold put_member done ms ≡ done ++ ms
unfolding IsStrictlySortedBy
sorted_already done [] all rise = sym (append-nil done)
sorted_already done (m ∷ ms) all rise =
    ap (λ d. fold put_member d ms) (put_last done m.0 m.1 (first_below done m ms all))
    ∙ sorted_already (done ++ m ∷ []) ms (below_snoc done m ms all rise.0) rise.1
    ∙ append_assoc done (m ∷ []) ms

map_tree : (ms : List (List ℕ × Value)) → AllByRecursion PlainMember ms → IsStrictlySortedBy key_cmp (keys_of ms) → Canonical (value.Map ms)
map_tree ms all rise =
    let members = canonical_members ms all rise in
    record {
      tree = object members.members;
      prints = ap (λ l. 123 ∷ l) (members.prints []) ∙ ap (λ l. 123 ∷ (l ++ 125 ∷ [])) (first_text (map keyed_text ms)) ∙ sym (compact-Map ms);
      is = members.are;
      taken = λ depth shallow.
          let deep : nesting (value.Map ms) ≡ suc (greatest_depth (map (λ (m : List ℕ × Value). nesting m.1) ms)) = nesting-Map ms in
          (omega arith, members.taken (suc depth) [] (omega arith) tt);
      means = λ place. json-Object place (members_at (place + 1) [] members.members) ∙ ap members_value (members.means (place + 1) []) ∙ ap value.Map (sorted_already [] ms tt rise);
    }

-- ---- every plain value

abbrev PlainIsCanonical : Value → Type 0
PlainIsCanonical x = IsPlain x → Canonical x

canonical_list : (xs : List Value) → AllByRecursion PlainIsCanonical xs → AllByRecursion IsPlain xs → AllByRecursion Canonical xs
canonical_list [] each is_plain = tt
canonical_list (x ∷ xs) each is_plain = (each.0 is_plain.0, canonical_list xs each.1 is_plain.1)

canonical_pairs : (ms : List (List ℕ × Value)) → AllByRecursion (λ (m : List ℕ × Value). PlainIsCanonical m.1) ms → AllByRecursion (λ (m : List ℕ × Value). IsPlain m.1) ms
    → AllByRecursion (λ (m : List ℕ × Value). IsUtf8 m.0) ms → AllByRecursion PlainMember ms
canonical_pairs [] each is_plain keys = tt
canonical_pairs (m ∷ ms) each is_plain keys = ((keys.0, each.0 is_plain.0), canonical_pairs ms each.1 is_plain.1 keys.1)

null_tree : Canonical value.Null
null_tree = record { tree = null; prints = sym compact-Null; is = tt; taken = λ depth shallow. tt; means = json-Null }

bool_tree : (truth : Bool) → Canonical (value.Bool truth)
bool_tree true = record { tree = boolean true; prints = sym (compact-Bool true); is = tt; taken = λ depth shallow. tt; means = λ place. json-Bool place true }
bool_tree false = record { tree = boolean false; prints = sym (compact-Bool false); is = tt; taken = λ depth shallow. tt; means = λ place. json-Bool place false }

-- what holds of the layer itself, and of its parts
here : (x : Value-F Value) → IsPlain (roll-Value x) → IsPlainLayer x
here x is_plain = subst IsPlainLayer (out-roll-Value x) (every_here-Value IsPlainLayer (roll-Value x) is_plain)

parts : (x : Value-F Value) → IsPlain (roll-Value x) → Parts IsPlain x
parts x is_plain = subst (Parts IsPlain) (out-roll-Value x) (parts_every IsPlainLayer (roll-Value x) is_plain)

layer_canonical : (x : Value-F Value) → Parts PlainIsCanonical x → PlainIsCanonical (roll-Value x)
layer_canonical Value-F.Null each is_plain = subst Canonical (sym rolls-Null) null_tree
layer_canonical (Value-F.Bool truth) each is_plain = subst Canonical (sym (rolls-Bool truth)) (bool_tree truth)
layer_canonical (Value-F.Int n) each is_plain = subst Canonical (sym (rolls-Int n)) (int_tree n (here (Value-F.Int n) is_plain))
layer_canonical (Value-F.Text text) each is_plain = subst Canonical (sym (rolls-Text text)) (text_tree text (here (Value-F.Text text) is_plain))
layer_canonical (Value-F.List xs) each is_plain = subst Canonical (sym (rolls-List xs)) (list_tree xs (canonical_list xs each (parts (Value-F.List xs) is_plain)))
layer_canonical (Value-F.Map ms) each is_plain =
    let is = here (Value-F.Map ms) is_plain in
    subst Canonical (sym (rolls-Map ms)) (map_tree ms (canonical_pairs ms each (parts (Value-F.Map ms) is_plain) is.1) is.0)

-- the compact text of a plain value means the value
pub compact_text_means : CompactTextMeansItsValue
compact_text_means x is_plain shallow short =
    let canonical = by_parts PlainIsCanonical layer_canonical x is_plain in (
      value_at 0 canonical.tree,
      (
        short,
        (
          [],
          canonical.tree,
          [],
          record { white_before = tt; well_formed = canonical.is; white_after = tt; printed = sym canonical.prints ∙ sym (append-nil (print canonical.tree)) },
          canonical.taken 0 (omega arith),
          refl,
        ),
      ),
      sym (canonical.means 0),
    )
