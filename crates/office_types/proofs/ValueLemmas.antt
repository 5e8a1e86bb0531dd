-- What JSON means, kind by kind, and how the tokens of a value are printed.
use Rattle.std.proofs.Common.{◌≡◌, ◌≤◌, ℕ, suc, ℤ, length, take, Bool, true, false, cond, List, [], ◌∷◌, ◌++◌, map, refl, sym, ap, subst, ◌∙◌, append_assoc, append-nil, rules}
use Rattle.std.specs.Prelude.{Result, Ok, Err, OnOk, codes}
use Rattle.std.specs.Map.{values_of}
use Rattle.std.specs.List.{flat_map, fold, join_with_byte}
use Rattle.std.proofs.lemmas.List.{take_all}
use Rattle.std.specs.Fmt.{signed_decimal}
use Rattle.json.specs.Print.{print, print_from, quoted, token_text}
use Rattle.json.specs.Token.{Token, begin_array, begin_object, boolean, end_array, end_object, key, null, number, string}
use Rattle.ordered_json.specs.declared.json.Member.{Member, fold-Member, fold_out-Member, out-Member}
use Rattle.ordered_json.specs.declared.json.OrderedJson.{OrderedJson, the_lemmas as json_lemmas}
use Rattle.ordered_json.specs.declared.json.OrderedJson.TheVariants as json
use Rattle.ordered_json.specs.Words.{key_of}
use Rattle.xs_model.specs.declared.value.Value.{Value, the_lemmas}
use Rattle.xs_model.specs.declared.value.Value.TheOpen.{Value-F}
use Rattle.xs_model.specs.declared.value.Value.TheVariants as value
use Rattle.xs_model.specs.declared.value.Value.TheVariants.{rolls-Null, rolls-Bool, rolls-Int, rolls-Text, rolls-List, rolls-Map}
use Rattle.xs_model.specs.Compact.{compact_text, greatest_depth, keyed_text, nesting}
use Rattle.xs_model.specs.Rising.{put}
use Rattle.xs_model.proofs.CompactLemmas.{compact-List, compact-Map}
use Rattle.xs_model.proofs.PartLemmas.{by_parts, Parts}
use Rattle.std.specs.List.{AllByRecursion}
use Rattle.office_types.specs.JsonValues.{json_value, layer_value, members_value, member_value}
use Rattle.xs_model.specs.declared.value.Value.TheViews.{roll-Value}
use Rattle.office_types.specs.Tokens.{member_tokens, tokens_of}

-- ---- JSON

-- a member of an object, as its key and its value
abbrev pub json_member : Member → List ℕ × Value
json_member member = (key_of member, json_value (out-Member member).value)

-- the fields that members give, put one after another
abbrev pub fields_of : List Member → List (List ℕ × Value)
fields_of members = fold (λ (sorted : List (List ℕ × Value)) (member : Member). put sorted (key_of member) (json_value (out-Member member).value)) [] members

pub json-List : (place : ℕ) (items : List OrderedJson) → json_value (json.List place items) ≡ value.List (map json_value items)
json-List place items = search (rules, json_lemmas)

pub json-Null : (place : ℕ) → json_value (json.Null place) ≡ value.Null
json-Null place = search (rules, json_lemmas)

pub json-Bool : (place : ℕ) (truth : Bool) → json_value (json.Bool place truth) ≡ value.Bool truth
json-Bool place truth = search (rules, json_lemmas)

pub json-Int : (place : ℕ) (n : ℤ) → json_value (json.Int place n) ≡ value.Int n
json-Int place n = search (rules, json_lemmas)

pub json-Text : (place : ℕ) (text : List ℕ) → json_value (json.Text place text) ≡ value.Text text
json-Text place text = search (rules, json_lemmas)

same_members : (members : List Member) → map (fold-Member Value (List ℕ × Value) layer_value member_value) members ≡ map json_member members
same_members [] = refl
same_members (m ∷ members) =
    ap (λ (x : List ℕ × Value). x ∷ map (fold-Member Value (List ℕ × Value) layer_value member_value) members) (fold_out-Member Value (List ℕ × Value) layer_value member_value m)
    ∙ ap (λ xs. json_member m ∷ xs) (same_members members)

pub json-Object : (place : ℕ) (members : List Member) → json_value (json.Object place members) ≡ members_value (map json_member members)
json-Object place members = search (rules, json_lemmas, same_members)

-- ---- the text and the nesting of each kind

pub compact-Null : compact_text value.Null ≡ codes "null"
compact-Null = search (rules, the_lemmas)

pub compact-Bool : (truth : Bool) → compact_text (value.Bool truth) ≡ token_text (boolean truth)
compact-Bool true = search (rules, the_lemmas)
compact-Bool false = search (rules, the_lemmas)

pub compact-Int : (n : ℤ) → compact_text (value.Int n) ≡ signed_decimal n
compact-Int n = search (rules, the_lemmas)

pub compact-Text : (text : List ℕ) → compact_text (value.Text text) ≡ quoted text
compact-Text text = search (rules, the_lemmas)

pub nesting-Text : (text : List ℕ) → nesting (value.Text text) ≡ 0
nesting-Text text = search (rules, the_lemmas)

pub nesting-List : (members : List Value) → nesting (value.List members) ≡ suc (greatest_depth (map nesting members))
nesting-List members = search (rules, the_lemmas)

nested : (members : List (List ℕ × Value)) → values_of (map (λ (m : List ℕ × Value). (m.0, nesting m.1)) members) ≡ map (λ (m : List ℕ × Value). nesting m.1) members
nested [] = refl
nested (m ∷ members) = ap (λ depths. nesting m.1 ∷ depths) (nested members)

pub nesting-Map : (members : List (List ℕ × Value)) → nesting (value.Map members) ≡ suc (greatest_depth (map (λ (m : List ℕ × Value). nesting m.1) members))
nesting-Map members = search (rules, the_lemmas, nested)

-- ---- tokens

-- the tokens of a key and of what stands under it
abbrev pub keyed_tokens : List ℕ × Value → List Token
keyed_tokens member = key member.0 ∷ tokens_of member.1

flat-kept : (xs : List Value) → flat_map (λ (tokens : List Token). tokens) (map tokens_of xs) ≡ flat_map tokens_of xs
flat-kept [] = refl
flat-kept (x ∷ xs) = ap (λ rest. tokens_of x ++ rest) (flat-kept xs)

pub tokens-List : (members : List Value) → tokens_of (value.List members) ≡ begin_array ∷ (flat_map tokens_of members ++ end_array ∷ [])
tokens-List members = search (rules, the_lemmas, flat-kept)

keyed : (members : List (List ℕ × Value)) → flat_map member_tokens (map (λ (m : List ℕ × Value). (m.0, tokens_of m.1)) members) ≡ flat_map keyed_tokens members
keyed [] = refl
keyed (m ∷ members) = ap (λ rest. keyed_tokens m ++ rest) (keyed members)

pub tokens-Map : (members : List (List ℕ × Value)) → tokens_of (value.Map members) ≡ begin_object ∷ (flat_map keyed_tokens members ++ end_object ∷ [])
tokens-Map members = search (rules, the_lemmas, keyed)

tokens-Text : (text : List ℕ) → tokens_of (value.Text text) ≡ string text ∷ []
tokens-Text text = search (rules, the_lemmas)

-- ---- printing

-- a comma, where a value has just ended
abbrev comma_if : Bool → List ℕ
comma_if after = cond after (44 ∷ []) []

-- the tokens of a value print as its compact text, whatever stands before and behind
abbrev Prints : Value → Type 0
Prints v = (after : Bool) (rest : List Token) → print_from after (tokens_of v ++ rest) ≡ comma_if after ++ (compact_text v ++ print_from true rest)

-- a scalar is one token
scalar : (v : Value) (t : Token) (text : List ℕ) → tokens_of v ≡ t ∷ [] → compact_text v ≡ text
    → ((after : Bool) (rest : List Token) → print_from after (t ∷ rest) ≡ comma_if after ++ (text ++ print_from true rest)) → Prints v
scalar v t text tokens is one after rest = rw (tokens, is) (one after rest)

null_prints : (after : Bool) (rest : List Token) → print_from after (null ∷ rest) ≡ comma_if after ++ (token_text null ++ print_from true rest)
unfolding print_from
null_prints true rest = refl
null_prints false rest = refl

boolean_prints : (truth after : Bool) (rest : List Token) → print_from after (boolean truth ∷ rest) ≡ comma_if after ++ (token_text (boolean truth) ++ print_from true rest)
unfolding print_from
boolean_prints truth true rest = refl
boolean_prints truth false rest = refl

number_prints : (text : List ℕ) (after : Bool) (rest : List Token) → print_from after (number text ∷ rest) ≡ comma_if after ++ (text ++ print_from true rest)
unfolding print_from
number_prints text true rest = refl
number_prints text false rest = refl

string_prints : (text : List ℕ) (after : Bool) (rest : List Token) → print_from after (string text ∷ rest) ≡ comma_if after ++ (token_text (string text) ++ print_from true rest)
unfolding print_from
string_prints text true rest = refl
string_prints text false rest = refl

key_prints : (text : List ℕ) (after : Bool) (rest : List Token) → print_from after (key text ∷ rest) ≡ comma_if after ++ (token_text (key text) ++ print_from false rest)
unfolding print_from
key_prints text true rest = refl
key_prints text false rest = refl

begin_prints : (after : Bool) (rest : List Token) → print_from after (begin_array ∷ rest) ≡ comma_if after ++ (91 ∷ print_from false rest)
unfolding print_from
begin_prints true rest = refl
begin_prints false rest = refl

begin_object_prints : (after : Bool) (rest : List Token) → print_from after (begin_object ∷ rest) ≡ comma_if after ++ (123 ∷ print_from false rest)
unfolding print_from
begin_object_prints true rest = refl
begin_object_prints false rest = refl

end_prints : (after : Bool) (rest : List Token) → print_from after (end_array ∷ rest) ≡ 93 ∷ print_from true rest
unfolding print_from
end_prints true rest = refl
end_prints false rest = refl

end_object_prints : (after : Bool) (rest : List Token) → print_from after (end_object ∷ rest) ≡ 125 ∷ print_from true rest
unfolding print_from
end_object_prints true rest = refl
end_object_prints false rest = refl

-- the pieces, each after a comma
abbrev after_commas : {X : Type 0} → (X → List ℕ) → List X → List ℕ
after_commas text xs = flat_map (λ x. 44 ∷ text x) xs

joined : {X : Type 0} (text : X → List ℕ) (x : X) (xs : List X) → join_with_byte 44 (map text (x ∷ xs)) ≡ text x ++ after_commas text xs
joined text x [] = simp append-nil
joined text x (y ∷ ys) = ap (λ rest. text x ++ (44 ∷ rest)) (joined text y ys)

-- items that print, one after the other
abbrev PrintsAs : {X : Type 0} → (X → List ℕ) → (X → List Token) → X → Type 0
PrintsAs text tokens x = (after : Bool) (rest : List Token) → print_from after (tokens x ++ rest) ≡ comma_if after ++ (text x ++ print_from true rest)

later_print : {X : Type 0} (text : X → List ℕ) (tokens : X → List Token) (xs : List X) → AllByRecursion (PrintsAs text tokens) xs
    → (rest : List Token) → print_from true (flat_map tokens xs ++ rest) ≡ after_commas text xs ++ print_from true rest
later_print text tokens [] each rest = refl
later_print text tokens (x ∷ xs) each rest =
    ap (print_from true) (append_assoc (tokens x) (flat_map tokens xs) rest)
    ∙ each.0 true (flat_map tokens xs ++ rest)
    ∙ ap (λ l. 44 ∷ (text x ++ l)) (later_print text tokens xs each.1 rest)
    ∙ ap (λ l. 44 ∷ l) (sym (append_assoc (text x) (after_commas text xs) (print_from true rest)))

-- and at the beginning of a list or a map, up to the closing token, which no comma stands before
items_print : {X : Type 0} (text : X → List ℕ) (tokens : X → List Token) (closing : Token) (byte : ℕ)
    → ((after : Bool) (rest : List Token) → print_from after (closing ∷ rest) ≡ byte ∷ print_from true rest)
    → (xs : List X) → AllByRecursion (PrintsAs text tokens) xs → (rest : List Token)
    → print_from false (flat_map tokens xs ++ (closing ∷ rest)) ≡ join_with_byte 44 (map text xs) ++ (byte ∷ print_from true rest)
items_print text tokens closing byte closes [] each rest = closes false rest
items_print text tokens closing byte closes (x ∷ xs) each rest =
    ap (print_from false) (append_assoc (tokens x) (flat_map tokens xs) (closing ∷ rest))
    ∙ each.0 false (flat_map tokens xs ++ (closing ∷ rest))
    ∙ ap (λ l. text x ++ l) (later_print text tokens xs each.1 (closing ∷ rest))
    ∙ ap (λ l. text x ++ (after_commas text xs ++ l)) (closes true rest)
    ∙ sym (append_assoc (text x) (after_commas text xs) (byte ∷ print_from true rest))
    ∙ ap (λ l. l ++ (byte ∷ print_from true rest)) (sym (joined text x xs))

-- a member prints as its key and its value
member_prints : (m : List ℕ × Value) → Prints m.1 → PrintsAs keyed_text keyed_tokens m
member_prints m prints after rest =
    key_prints m.0 after (tokens_of m.1 ++ rest)
    ∙ ap (λ l. comma_if after ++ (token_text (key m.0) ++ l)) (prints false rest)
    ∙ ap (λ l. comma_if after ++ l) (simp append_assoc)

members_print : (members : List (List ℕ × Value)) → AllByRecursion (λ (m : List ℕ × Value). Prints m.1) members → AllByRecursion (PrintsAs keyed_text keyed_tokens) members
members_print [] each = tt
members_print (m ∷ members) each = (member_prints m each.0, members_print members each.1)

-- what stands between brackets
closed : (items rest : List Token) (closing : Token) → (items ++ closing ∷ []) ++ rest ≡ items ++ (closing ∷ rest)
closed items rest closing = append_assoc items (closing ∷ []) rest

bracket : (opening byte : ℕ) (after : Bool) (inner rest : List ℕ) → comma_if after ++ (opening ∷ (inner ++ (byte ∷ rest))) ≡ comma_if after ++ ((opening ∷ (inner ++ byte ∷ [])) ++ rest)
bracket opening byte after inner rest = ap (λ l. comma_if after ++ (opening ∷ l)) (sym (append_assoc inner (byte ∷ []) rest))

list_prints : (xs : List Value) → AllByRecursion Prints xs → Prints (value.List xs)
list_prints xs each after rest =
    ap (λ tokens. print_from after (tokens ++ rest)) (tokens-List xs)
    ∙ begin_prints after ((flat_map tokens_of xs ++ end_array ∷ []) ++ rest)
    ∙ ap (λ tokens. comma_if after ++ (91 ∷ print_from false tokens)) (closed (flat_map tokens_of xs) rest end_array)
    ∙ ap (λ l. comma_if after ++ (91 ∷ l)) (items_print compact_text tokens_of end_array 93 end_prints xs each rest)
    ∙ bracket 91 93 after (join_with_byte 44 (map compact_text xs)) (print_from true rest)
    ∙ ap (λ text. comma_if after ++ (text ++ print_from true rest)) (sym (compact-List xs))

map_prints : (members : List (List ℕ × Value)) → AllByRecursion (λ (m : List ℕ × Value). Prints m.1) members → Prints (value.Map members)
map_prints members each after rest =
    ap (λ tokens. print_from after (tokens ++ rest)) (tokens-Map members)
    ∙ begin_object_prints after ((flat_map keyed_tokens members ++ end_object ∷ []) ++ rest)
    ∙ ap (λ tokens. comma_if after ++ (123 ∷ print_from false tokens)) (closed (flat_map keyed_tokens members) rest end_object)
    ∙ ap (λ l. comma_if after ++ (123 ∷ l)) (items_print keyed_text keyed_tokens end_object 125 end_object_prints members (members_print members each) rest)
    ∙ bracket 123 125 after (join_with_byte 44 (map keyed_text members)) (print_from true rest)
    ∙ ap (λ text. comma_if after ++ (text ++ print_from true rest)) (sym (compact-Map members))

layer_prints : (x : Value-F Value) → Parts Prints x → Prints (roll-Value x)
layer_prints Value-F.Null each = subst Prints (sym rolls-Null) (scalar value.Null null (token_text null) (search (rules, the_lemmas)) (search (rules, the_lemmas)) null_prints)
layer_prints (Value-F.Bool truth) each =
    subst Prints (sym (rolls-Bool truth)) (scalar (value.Bool truth) (boolean truth) (token_text (boolean truth)) (search (rules, the_lemmas)) (compact-Bool truth) (boolean_prints truth))
layer_prints (Value-F.Int n) each =
    subst Prints (sym (rolls-Int n)) (scalar (value.Int n) (number (signed_decimal n)) (signed_decimal n) (search (rules, the_lemmas)) (search (rules, the_lemmas)) (number_prints (signed_decimal n)))
layer_prints (Value-F.Text text) each =
    subst Prints (sym (rolls-Text text)) (scalar (value.Text text) (string text) (token_text (string text)) (tokens-Text text) (search (rules, the_lemmas)) (string_prints text))
layer_prints (Value-F.List xs) each = subst Prints (sym (rolls-List xs)) (list_prints xs each)
layer_prints (Value-F.Map members) each = subst Prints (sym (rolls-Map members)) (map_prints members each)

-- the tokens of a value print as its compact text
pub print-tokens_of : (v : Value) → print (tokens_of v) ≡ compact_text v
unfolding print_from
print-tokens_of v =
    ap print (sym (append-nil (tokens_of v))) ∙ by_parts Prints layer_prints v false [] ∙ append-nil (compact_text v)

-- ---- what the writer has written

on_ok : {T E : Type 0} (r : Result T E) (P Q : Type 0) → (P → Q) → OnOk r P → OnOk r Q
on_ok (Ok x) P Q then p = then p
on_ok (Err e) P Q then p = tt

-- what stands between the brackets, and the brackets
brackets : (old between : List Token) (opening closing : Token) → (old ++ (opening ∷ between)) ++ closing ∷ [] ≡ old ++ (opening ∷ (between ++ closing ∷ []))
brackets old between opening closing = append_assoc old (opening ∷ between) (closing ∷ [])

pub list_written : {T E : Type 0} (r : Result T E) (old written new : List Token) (members items : List Value) (index : ℕ) (v : Value)
    → OnOk r (new ≡ written ++ end_array ∷ []) → written ≡ old ++ (begin_array ∷ flat_map tokens_of (take index items)) → items ≡ members → length items ≤ index → v ≡ value.List members
    → OnOk r (new ≡ old ++ tokens_of v)
list_written r old written new members items index v ends is same all kind =
    on_ok r (new ≡ written ++ end_array ∷ []) (new ≡ old ++ tokens_of v)
    (λ ended. ended ∙ ap (λ l. l ++ end_array ∷ []) is ∙ brackets old (flat_map tokens_of (take index items)) begin_array end_array
    ∙ ap (λ (xs : List Value). old ++ (begin_array ∷ (flat_map tokens_of xs ++ end_array ∷ []))) (take_all index items all ∙ same)
    ∙ ap (λ l. old ++ l) (sym (tokens-List members)) ∙ ap (λ (x : Value). old ++ tokens_of x) (sym kind))
    ends

pub map_written : {T E : Type 0} (r : Result T E) (old written new : List Token) (members items : List (List ℕ × Value)) (index : ℕ) (v : Value)
    → OnOk r (new ≡ written ++ end_object ∷ []) → written ≡ old ++ (begin_object ∷ flat_map keyed_tokens (take index items)) → items ≡ members → length items ≤ index → v ≡ value.Map members
    → OnOk r (new ≡ old ++ tokens_of v)
map_written r old written new members items index v ends is same all kind =
    on_ok r (new ≡ written ++ end_object ∷ []) (new ≡ old ++ tokens_of v)
    (λ ended. ended ∙ ap (λ l. l ++ end_object ∷ []) is ∙ brackets old (flat_map keyed_tokens (take index items)) begin_object end_object
    ∙ ap (λ (xs : List (List ℕ × Value)). old ++ (begin_object ∷ (flat_map keyed_tokens xs ++ end_object ∷ []))) (take_all index items all ∙ same)
    ∙ ap (λ l. old ++ l) (sym (tokens-Map members)) ∙ ap (λ (x : Value). old ++ tokens_of x) (sym kind))
    ends
