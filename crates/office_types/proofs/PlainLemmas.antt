-- What a text means is plain: its numbers fit 64 bits, its texts are in UTF-8, and the keys of its maps rise.
use Rattle.std.proofs.Common.{◌≡◌, ◌⊎◌, ◌||◌, ◌==◌, inl, inr, cond, zero, ℕ, suc, ◌+◌, ◌^◌, ◌<◌, Bool, true, false, ◌&&◌, List, [], ◌∷◌, ◌++◌, length, map, ℤ, pos, negsuc, refl, sym, ap, subst, ◌∙◌, arith, rules, w64, FitsSigned}
use Rattle.std.specs.Prelude.{IsUtf8, fold}
use Rattle.std.specs.Char.{IsScalar, digit_value, encode_utf8, is_digit}
use Rattle.std.proofs.lemmas.Bool.{eqb-true}
use Rattle.std.proofs.lemmas.Bool.Decides.{nat_tests}
use Rattle.std.specs.List.{AllByRecursion}
use Rattle.std.specs.List.Sorted.{IsStrictlySortedBy}
use Rattle.std.specs.declared.cmp.Ordering.{Ordering}
use Rattle.std.specs.declared.cmp.Ordering.TheVariants.{Less, Equal, Greater}
use Rattle.std.specs.Ordering.{match_ordering}
use Rattle.std.proofs.Math.Utf8.{encodes, scalars}
use Rattle.std.specs.Cmp.Derive.{both_true}
use Rattle.ordered_json.specs.Grammar.{AreChars, AreElements, AreMembers, Char, CodeUnit, Elements, IsChar, IsTree, Members, Tree, are_hex, array, boolean, coded, element, escape_value, escaped, is_high_surrogate, is_low_surrogate, member, no_elements, no_members, null, number, object, paired, plain, print, print_colon, print_separator, print_string, string, unit_value}
use Rattle.ordered_json.specs.Meaning.{ElementsTaken, IsTaken, MembersTaken, char_value, fits, int_value, items_at, magnitude, members_at, string_content, value_at}
use Rattle.ordered_json.proofs.StringLemmas.{and_true, pair_scalar, unit_scalar, digit_below}
use Rattle.xs_model.specs.declared.value.Value.{Value}
use Rattle.xs_model.specs.declared.value.Value.TheOpen.{Value-F}
use Rattle.xs_model.specs.declared.value.Value.TheVariants as value
use Rattle.xs_model.specs.declared.value.Value.TheVariants.{rolls-Null, rolls-Bool, rolls-Int, rolls-Text, rolls-List, rolls-Map}
use Rattle.xs_model.specs.Rising.{KeysRise, key_cmp, put}
use Rattle.xs_model.proofs.PartLemmas.{every_from_parts}
use Rattle.xs_model.proofs.RisingLemmas.{rises_put}
use Rattle.office_types.specs.JsonValues.{json_value}
use Rattle.office_types.specs.Laws.{IsPlain, IsPlainLayer, MeantValuesArePlain}
use Rattle.office_types.proofs.CanonicalLemmas.{member_is}
use Rattle.office_types.proofs.ValueLemmas.{json-Bool, json-Int, json-List, json-Null, json-Object, json-Text, json_member}

-- ---- characters are scalar values

or_either : (a b : Bool) → (a || b) ≡ true → (a ≡ true) ⊎ (b ≡ true)
or_either true b h = inl refl
or_either false b h = inr h

equal_scalar : (b k : ℕ) → IsScalar k → (b == k) ≡ true → IsScalar b
equal_scalar b k is same = subst IsScalar (sym (eqb-true b k same)) is

as_written : (b : ℕ) → ((b == 34) || ((b == 92) || (b == 47))) ≡ true → IsScalar b
as_written b h = elim (or_either (b == 34) ((b == 92) || (b == 47)) h) [
  | inl same ↦ equal_scalar b 34 refl same
  | inr other ↦ elim (or_either (b == 92) (b == 47) other) [ inl same ↦ equal_scalar b 92 refl same | inr same ↦ equal_scalar b 47 refl same ]
]

chosen : (test : Bool) (x y : ℕ) → (test ≡ true → IsScalar x) → IsScalar y → IsScalar (cond test x y)
chosen true x y is other = is refl
chosen false x y is other = other

escape_scalar : (b : ℕ) → IsScalar (escape_value b)
escape_scalar b =
    chosen ((b == 34) || ((b == 92) || (b == 47))) b _ (as_written b)
    (chosen (b == 98) 8 _ (λ _. refl) (chosen (b == 102) 12 _ (λ _. refl) (chosen (b == 110) 10 _ (λ _. refl) (chosen (b == 114) 13 _ (λ _. refl) (chosen (b == 116) 9 0 (λ _. refl) refl)))))

unit_is : (u : CodeUnit) → are_hex u ≡ true → is_high_surrogate (unit_value u) ≡ false → is_low_surrogate (unit_value u) ≡ false → IsScalar (unit_value u)
unit_is u hex high low =
    let halves = and_true (is_digit u.first 16 && is_digit u.second 16) (is_digit u.third 16 && is_digit u.fourth 16) hex in
    let front = and_true (is_digit u.first 16) (is_digit u.second 16) halves.0 in
    let back = and_true (is_digit u.third 16) (is_digit u.fourth 16) halves.1 in
    unit_scalar (digit_value u.first) (digit_value u.second) (digit_value u.third) (digit_value u.fourth)
    (digit_below u.first front.0) (digit_below u.second front.1) (digit_below u.third back.0) (digit_below u.fourth back.1) high low

char_scalar : (c : Char) → IsChar c → IsScalar (char_value c)
char_scalar (plain c) is = is.0
char_scalar (escaped b) is = escape_scalar b
char_scalar (coded u) is = unit_is u is.0 is.1 is.2
char_scalar (paired u v) is = pair_scalar (unit_value u) (unit_value v) is.2 is.3

all_scalar : (cs : List Char) → AreChars cs → scalars (map char_value cs) ≡ true
all_scalar [] are = refl
all_scalar (c ∷ cs) are = both_true (char_scalar c are.0) (all_scalar cs are.1)

string_content-encodes : (cs : List Char) → encodes (map char_value cs) ≡ string_content cs
string_content-encodes [] = refl
string_content-encodes (c ∷ cs) = ap (λ rest. encode_utf8 (char_value c) ++ rest) (string_content-encodes cs)

-- the content of a string is text
IsUtf8-string_content : (cs : List Char) → AreChars cs → IsUtf8 (string_content cs)
IsUtf8-string_content cs are = (map char_value cs, (all_scalar cs are, string_content-encodes cs))

-- ---- plain values by their parts

plain_int : (n : ℤ) → FitsSigned w64 n → IsPlain (value.Int n)
plain_int n fit = subst IsPlain (rolls-Int n) (every_from_parts IsPlainLayer (Value-F.Int n) fit tt)

plain_text : (text : List ℕ) → IsUtf8 text → IsPlain (value.Text text)
plain_text text is = subst IsPlain (rolls-Text text) (every_from_parts IsPlainLayer (Value-F.Text text) is tt)

plain_list : (xs : List Value) → AllByRecursion IsPlain xs → IsPlain (value.List xs)
plain_list xs all = subst IsPlain (rolls-List xs) (every_from_parts IsPlainLayer (Value-F.List xs) tt all)

-- a member whose key is text and whose value is plain
abbrev PlainMember : List ℕ × Value → Type 0
PlainMember m = IsUtf8 m.0 × IsPlain m.1

keys_plain : (ms : List (List ℕ × Value)) → AllByRecursion PlainMember ms → AllByRecursion (λ (m : List ℕ × Value). IsUtf8 m.0) ms
keys_plain [] all = tt
keys_plain (m ∷ ms) all = (all.0.0, keys_plain ms all.1)

values_plain : (ms : List (List ℕ × Value)) → AllByRecursion PlainMember ms → AllByRecursion (λ (m : List ℕ × Value). IsPlain m.1) ms
values_plain [] all = tt
values_plain (m ∷ ms) all = (all.0.1, values_plain ms all.1)

plain_map : (ms : List (List ℕ × Value)) → KeysRise ms → AllByRecursion PlainMember ms → IsPlain (value.Map ms)
plain_map ms rise all = subst IsPlain (rolls-Map ms) (every_from_parts IsPlainLayer (Value-F.Map ms) (rise, keys_plain ms all) (values_plain ms all))

-- ---- members put one after another

put_plain : (ms : List (List ℕ × Value)) (key : List ℕ) (x : Value) → IsUtf8 key → IsPlain x → AllByRecursion PlainMember ms → AllByRecursion PlainMember (put ms key x)
put_plain [] key x text is all = ((text, is), tt)
put_plain (m ∷ ms) key x text is all = cases (put_plain ms key x text is all.1) (key_cmp key m.0) where
  cases : AllByRecursion PlainMember (put ms key x) → (o : Ordering) → AllByRecursion PlainMember (match_ordering o ((key, x) ∷ m ∷ ms) ((m.0, x) ∷ ms) (m ∷ put ms key x))
  cases rest Less = ((text, is), all)
  cases rest Equal = ((all.0.0, is), all.1)
  cases rest Greater = (all.0, rest)

abbrev put_member : List (List ℕ × Value) → List ℕ × Value → List (List ℕ × Value)
put_member sorted m = put sorted m.0 m.1

puts_plain : (done ms : List (List ℕ × Value)) → KeysRise done → AllByRecursion PlainMember done → AllByRecursion PlainMember ms → KeysRise (fold put_member done ms) × AllByRecursion PlainMember (fold put_member done ms)
puts_plain done [] rise all more = (rise, all)
puts_plain done (m ∷ ms) rise all more =
    puts_plain (put done m.0 m.1) ms (rises_put done m.0 m.1 rise) (put_plain done m.0 m.1 more.0.0 more.0.1 all) more.1

rise_none : KeysRise {X = Value} []
unfolding IsStrictlySortedBy
rise_none = tt

-- ---- trees

fit_pos : (n : ℕ) → n < 2 ^ 63 → FitsSigned w64 (pos n)
fit_pos n small = search rules

fit_neg : (n : ℕ) → n < 2 ^ 63 → FitsSigned w64 (negsuc n)
fit_neg n small = search rules

int_fits : (minus : Bool) (n : ℕ) → fits minus n ≡ true → FitsSigned w64 (int_value minus n)
int_fits false n h = fit_pos n (grind (arith, nat_tests))
int_fits true zero h = fit_pos 0 (omega arith)
int_fits true (suc n) h = fit_neg n (grind (arith, nat_tests))

plain_null : IsPlain value.Null
plain_null = subst IsPlain rolls-Null (every_from_parts IsPlainLayer Value-F.Null tt tt)

plain_bool : (truth : Bool) → IsPlain (value.Bool truth)
plain_bool truth = subst IsPlain (rolls-Bool truth) (every_from_parts IsPlainLayer (Value-F.Bool truth) tt tt)

mutual
  tree_plain : (depth : ℕ) (t : Tree) → IsTree t → IsTaken depth t → (p : ℕ) → IsPlain (json_value (value_at p t))
  tree_plain depth null is taken p = subst IsPlain (sym (json-Null p)) plain_null
  tree_plain depth (boolean truth) is taken p = subst IsPlain (sym (json-Bool p truth)) (plain_bool truth)
  tree_plain depth (number minus ds fraction exponent) is taken p =
      subst IsPlain (sym (json-Int p (int_value minus (magnitude ds)))) (plain_int (int_value minus (magnitude ds)) (int_fits minus (magnitude ds) taken.2))
  tree_plain depth (string cs) is taken p = subst IsPlain (sym (json-Text p (string_content cs))) (plain_text (string_content cs) (IsUtf8-string_content cs is))
  tree_plain depth (array es) is taken p =
      subst IsPlain (sym (json-List p (items_at (p + 1) [] es))) (plain_list (map json_value (items_at (p + 1) [] es)) (elements_plain (suc depth) es is taken.1 (p + 1) []))
  tree_plain depth (object ms) is taken p =
      let members : List (List ℕ × Value) = map json_member (members_at (p + 1) [] ms) in
      let sorted = puts_plain [] members rise_none tt (members_plain (suc depth) [] ms is taken.1 (p + 1) []) in
      subst IsPlain (sym (json-Object p (members_at (p + 1) [] ms))) (plain_map (fold put_member [] members) sorted.0 sorted.1)

  elements_plain : (depth : ℕ) (es : Elements) → AreElements es → ElementsTaken depth es → (p : ℕ) (comma : List ℕ) → AllByRecursion IsPlain (map json_value (items_at p comma es))
  elements_plain depth (no_elements s) are taken p comma = tt
  elements_plain depth (element gap t es) are taken p comma =
      let q : ℕ = p + length (print_separator gap comma) in
      (tree_plain depth t are.1 taken.0 q, elements_plain depth es are.2 taken.1 (q + length (print t)) (44 ∷ []))

  members_plain : (depth : ℕ) (keys : List (List ℕ)) (ms : Members) → AreMembers ms → MembersTaken depth keys ms → (p : ℕ) (comma : List ℕ) → AllByRecursion PlainMember (map json_member (members_at p comma ms))
  members_plain depth keys (no_members s) are taken p comma = tt
  members_plain depth keys (member gap key t ms) are taken p comma =
      let q : ℕ = p + length (print_separator gap comma) in
      let v : ℕ = q + length (print_string key.chars ++ print_colon key.gap) in (
        subst PlainMember (sym (member_is (string_content key.chars) q (value_at v t))) (IsUtf8-string_content key.chars are.1.0, tree_plain depth t are.2 taken.1 v),
        members_plain depth (keys ++ string_content key.chars ∷ []) ms are.3 taken.2 (v + length (print t)) (44 ∷ []),
      )

-- what a text means is plain
pub meant_is_plain : MeantValuesArePlain
meant_is_plain text x means =
    let value_of = means.1.1 in
    let tree : Tree = value_of.1 in
    subst IsPlain (sym (means.2 ∙ ap json_value value_of.5)) (tree_plain 0 tree value_of.3.well_formed value_of.4 (length value_of.0))
