-- Values under keys, in the order of the keys.
use Rattle.std.proofs.Common.{◌≡◌, ℕ, List, [], ◌∷◌, ◌++◌, map, refl, sym, ap, ◌∙◌, subst, append_assoc, append-nil, Global}
use Rattle.std.specs.Prelude.{String, fold}
use Rattle.std.specs.BTreeMap.{insert_entry}
use Rattle.std.specs.List.{AllByRecursion}
use Rattle.std.specs.List.Sorted.{IsStrictlySortedBy}
use Rattle.std.specs.Map.{keys_of}
use Rattle.std.specs.Ordering.{match_ordering, ordering_reverse}
use Rattle.std.specs.String.{string_bytes, string_cmp}
use Rattle.std.specs.declared.cmp.Ordering.{Ordering}
use Rattle.std.specs.declared.cmp.Ordering.TheVariants.{Less, Equal, Greater}
use Rattle.std.proofs.lemmas.Cmp.{nat_list_cmp_total}
use Rattle.std.proofs.lemmas.List.Sums.{fold-append}
use Rattle.ordered_json.specs.declared.json.Member.{Member, out-Member}
use Rattle.ordered_json.specs.declared.json.OrderedJson.TheVariants as json
use Rattle.ordered_json.specs.Words.{key_of}
use Rattle.xs_model.specs.declared.value.Value.{Value}
use Rattle.xs_model.specs.declared.value.Value.TheVariants as value
use Rattle.xs_model.specs.Rising.{KeysRise, key_cmp, put}
use Rattle.xs_model.proofs.RisingLemmas.{rises_put}
use Rattle.machine_json.specs.JsonValues.{json_value, pairs_of, put_each}
use Rattle.machine_json.proofs.ValueLemmas.{fields_of, json-Object, json_member}

abbrev Entries : Type 0
Entries = List (String Global × Value)

-- ---- an ordered map

choice : (o : Ordering) (a b c : Entries) → pairs_of (match_ordering o a b c) ≡ match_ordering o (pairs_of a) (pairs_of b) (pairs_of c)
choice Less a b c = refl
choice Equal a b c = refl
choice Greater a b c = refl

-- an entry set in the map is a pair put among the pairs
pub entry_set : (entries : Entries) (key : String Global) (value : Value)
    → pairs_of (insert_entry string_cmp entries key value) ≡ put (pairs_of entries) (string_bytes key) value
entry_set [] key value = refl
entry_set (e ∷ es) key value =
    choice (string_cmp key e.0) ((key, value) ∷ e ∷ es) ((e.0, value) ∷ es) (e ∷ insert_entry string_cmp es key value)
    ∙ ap (λ (rest : List (List ℕ × Value)). match_ordering (string_cmp key e.0)
    ((string_bytes key, value) ∷ (string_bytes e.0, e.1) ∷ pairs_of es) ((string_bytes e.0, value) ∷ pairs_of es) ((string_bytes e.0, e.1) ∷ rest))
    (entry_set es key value)

-- ---- pairs whose keys rise, put one after another

-- pairs put on others, one after another
abbrev pub put_on : List (List ℕ × Value) → List (List ℕ × Value) → List (List ℕ × Value)
put_on before members = fold (λ (sorted : List (List ℕ × Value)) (member : List ℕ × Value). put sorted member.0 member.1) before members

-- what holds of each key holds of one
key_among : (P : List ℕ → Type 0) (xs : List (List ℕ × Value)) (p : List ℕ × Value) (rest : List (List ℕ × Value)) → AllByRecursion P (keys_of (xs ++ p ∷ rest)) → P p.0
key_among P [] p rest all = all.0
key_among P (q ∷ xs) p rest all = key_among P xs p rest all.1

turned : (k l : List ℕ) (o : Ordering) → key_cmp l k ≡ o → key_cmp k l ≡ ordering_reverse o
turned k l o e = nat_list_cmp_total.antisymm k l ∙ ap ordering_reverse e

-- a pair with the greatest key goes behind the others
put_last : (xs : List (List ℕ × Value)) (p : List ℕ × Value) (rest : List (List ℕ × Value)) → KeysRise (xs ++ p ∷ rest) → put xs p.0 p.1 ≡ xs ++ p ∷ []
unfolding IsStrictlySortedBy
put_last [] p rest rise = refl
put_last (q ∷ xs) p rest rise =
    let above : key_cmp p.0 q.0 ≡ Greater = turned p.0 q.0 Less (key_among (λ k. key_cmp q.0 k ≡ Less) xs p rest rise.0) in
    rw above (ap (λ (l : List (List ℕ × Value)). q ∷ l) (put_last xs p rest rise.1))

put_again : (xs ys : List (List ℕ × Value)) → KeysRise (xs ++ ys) → put_on xs ys ≡ xs ++ ys
put_again xs [] rise = sym (append-nil xs)
put_again xs (p ∷ ys) rise =
    ap (λ (l : List (List ℕ × Value)). put_on l ys) (put_last xs p ys rise)
    ∙ put_again (xs ++ p ∷ []) ys (subst (λ (l : List (List ℕ × Value)). KeysRise l) (sym (append_assoc xs (p ∷ []) ys)) rise)
    ∙ append_assoc xs (p ∷ []) ys

-- members put one after another have rising keys
fields_rise : (before : List (List ℕ × Value)) (members : List Member) → KeysRise before
    → KeysRise (fold (λ (sorted : List (List ℕ × Value)) (member : Member). put sorted (json_member member).0 (json_member member).1) before members)
fields_rise before [] rise = rise
fields_rise before (m ∷ members) rise = fields_rise (put before (json_member m).0 (json_member m).1) members (rises_put before (json_member m).0 (json_member m).1 rise)

none_rise : KeysRise {X = Value} []
unfolding IsStrictlySortedBy
none_rise = tt

-- the pairs of members that stand in a map, put one after another, are those pairs
pub fields_again : (entries : Entries) (members : List Member) → pairs_of entries ≡ fields_of members → put_each (pairs_of entries) ≡ fields_of members
fields_again entries members is = ap put_each is ∙ put_again [] (fields_of members) (fields_rise [] members none_rise)

-- one member more
pub fields_more : (entries new : Entries) (members more : List Member) (member : Member) (key : String Global) (value : Value)
    → more ≡ members ++ member ∷ [] → new ≡ insert_entry string_cmp entries key value → string_bytes key ≡ (json_member member).0 → value ≡ (json_member member).1
    → pairs_of entries ≡ fields_of members → pairs_of new ≡ fields_of more
fields_more entries new members more member key value is_more is_new key_is value_is before =
    ap pairs_of is_new ∙ entry_set entries key value
    ∙ ap (λ (l : List (List ℕ × Value)). put l (string_bytes key) value) before
    ∙ ap (λ (k : List ℕ). put (fields_of members) k value) key_is
    ∙ ap (λ (v : Value). put (fields_of members) (json_member member).0 v) value_is
    ∙ sym (ap fields_of is_more ∙ fold-append (λ (sorted : List (List ℕ × Value)) (m : Member). put sorted (json_member m).0 (json_member m).1) [] members (member ∷ []))

-- ---- an object

each_put : (before : List (List ℕ × Value)) (members : List Member)
    → fold (λ (sorted : List (List ℕ × Value)) (member : Member). put sorted (key_of member) (json_value (out-Member member).value)) before members
    ≡ put_on before (map json_member members)
each_put before [] = refl
each_put before (m ∷ members) = each_put (put before (json_member m).0 (json_member m).1) members

-- the fields of the members are the value of the object
pub fields-Object : (place : ℕ) (members : List Member) → value.Map (fields_of members) ≡ json_value (json.Object place members)
fields-Object place members = ap value.Map (each_put [] members) ∙ sym (json-Object place members)
