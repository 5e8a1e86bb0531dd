-- Regions by their keys.
use Rattle.std.proofs.Common.{◌≡◌, ◌∙◌, ℕ, List, [], ◌∷◌, ◌++◌, Global, ap, append-nil, append_assoc, arith, length, map, refl, reverse, sym, subst}
use Rattle.std.specs.Prelude.{String, fold}
use Rattle.std.specs.BTreeMap.{insert_entry}
use Rattle.std.specs.List.{AllByRecursion}
use Rattle.std.specs.List.Sorted.{IsStrictlySortedBy}
use Rattle.std.specs.Map.{keys_of}
use Rattle.std.specs.Ordering.{match_ordering, ordering_reverse}
use Rattle.std.specs.String.{string_bytes, string_cmp}
use Rattle.std.specs.declared.cmp.Ordering.{Ordering}
use Rattle.std.specs.declared.cmp.Ordering.TheVariants.{Less, Equal, Greater}
use Rattle.std.proofs.lemmas.Cmp.{nat_list_cmp_total}
use Rattle.std.proofs.lemmas.List.{reverse-append}
use Rattle.std.proofs.lemmas.List.Folds.{fold-map}
use Rattle.xs_model.specs.declared.value.Value.{Value}
use Rattle.xs_model.specs.Rising.{KeysRise, key_cmp, put}
use Rattle.xs_model.proofs.RisingLemmas.{rises_put}
use Rattle.office_types.specs.declared.state_values.ChildValue.{ChildValue}
use Rattle.office_types.specs.ChildValues.{put_entries, with_region}

abbrev MapEntries : Type 0
MapEntries = List (String Global × Value)

abbrev Pairs : Type 0
Pairs = List (List ℕ × Value)

-- ---- an ordered map

-- its entries, under the bytes of their keys
abbrev pub entry_pairs : MapEntries → Pairs
entry_pairs entries = map (λ (entry : String Global × Value). let pair : List ℕ × Value = (string_bytes entry.0, entry.1) in pair) entries

-- its entries, put on pairs one after another
abbrev pub put_entries_on : Pairs → MapEntries → Pairs
put_entries_on pairs entries = fold (λ (sorted : Pairs) (entry : String Global × Value). put sorted (string_bytes entry.0) entry.1) pairs entries

choice : (o : Ordering) (a b c : MapEntries) → entry_pairs (match_ordering o a b c) ≡ match_ordering o (entry_pairs a) (entry_pairs b) (entry_pairs c)
choice Less a b c = refl
choice Equal a b c = refl
choice Greater a b c = refl

-- an entry set in the map is a pair put among the pairs
entry_set : (entries : MapEntries) (key : String Global) (value : Value)
    → entry_pairs (insert_entry string_cmp entries key value) ≡ put (entry_pairs entries) (string_bytes key) value
entry_set [] key value = refl
entry_set (e ∷ es) key value =
    choice (string_cmp key e.0) ((key, value) ∷ e ∷ es) ((e.0, value) ∷ es) (e ∷ insert_entry string_cmp es key value)
    ∙ ap (λ (rest : Pairs). match_ordering (string_cmp key e.0)
    ((string_bytes key, value) ∷ (string_bytes e.0, e.1) ∷ entry_pairs es) ((string_bytes e.0, value) ∷ entry_pairs es) ((string_bytes e.0, e.1) ∷ rest))
    (entry_set es key value)

-- ---- pairs whose keys rise, put one after another

-- pairs put on others, one after another
abbrev put_pairs : Pairs → Pairs → Pairs
put_pairs before pairs = fold (λ (sorted : Pairs) (pair : List ℕ × Value). put sorted pair.0 pair.1) before pairs

-- what holds of each key holds of one
key_among : (P : List ℕ → Type 0) (xs : Pairs) (p : List ℕ × Value) (rest : Pairs) → AllByRecursion P (keys_of (xs ++ p ∷ rest)) → P p.0
key_among P [] p rest all = all.0
key_among P (q ∷ xs) p rest all = key_among P xs p rest all.1

turned : (k l : List ℕ) (o : Ordering) → key_cmp l k ≡ o → key_cmp k l ≡ ordering_reverse o
turned k l o e = nat_list_cmp_total.antisymm k l ∙ ap ordering_reverse e

-- a pair with the greatest key goes behind the others
put_last : (xs : Pairs) (p : List ℕ × Value) (rest : Pairs) → KeysRise (xs ++ p ∷ rest) → put xs p.0 p.1 ≡ xs ++ p ∷ []
unfolding IsStrictlySortedBy
put_last [] p rest rise = refl
put_last (q ∷ xs) p rest rise =
    let above : key_cmp p.0 q.0 ≡ Greater = turned p.0 q.0 Less (key_among (λ k. key_cmp q.0 k ≡ Less) xs p rest rise.0) in
    rw above (ap (λ (l : Pairs). q ∷ l) (put_last xs p rest rise.1))

put_again : (xs ys : Pairs) → KeysRise (xs ++ ys) → put_pairs xs ys ≡ xs ++ ys
put_again xs [] rise = sym (append-nil xs)
put_again xs (p ∷ ys) rise =
    ap (λ (l : Pairs). put_pairs l ys) (put_last xs p ys rise)
    ∙ put_again (xs ++ p ∷ []) ys (subst (λ (l : Pairs). KeysRise l) (sym (append_assoc xs (p ∷ []) ys)) rise)
    ∙ append_assoc xs (p ∷ []) ys

-- regions put one after another have rising keys
regions_rise : (before : Pairs) (regions : List ChildValue) → KeysRise before → KeysRise (fold with_region before regions)
regions_rise before [] rise = rise
regions_rise before (r ∷ regions) rise = regions_rise (with_region before r) regions (rises_put before r.key r.value rise)

none_rise : KeysRise {X = Value} []
unfolding IsStrictlySortedBy
none_rise = tt

-- ---- regions, from the last one of a list on

-- one region more
pub region_more : (entries new : MapEntries) (held left : List ChildValue) (region : ChildValue) (key : String Global) (all : Pairs)
    → held ≡ left ++ region ∷ [] → new ≡ insert_entry string_cmp entries key region.value → string_bytes key ≡ region.key
    → fold with_region (entry_pairs entries) (reverse held) ≡ all → fold with_region (entry_pairs new) (reverse left) ≡ all
region_more entries new held left region key all is is_new key_is before =
    ap (λ (pairs : Pairs). fold with_region pairs (reverse left))
    (ap entry_pairs is_new ∙ entry_set entries key region.value ∙ ap (λ (k : List ℕ). put (entry_pairs entries) k region.value) key_is)
    ∙ sym (ap (fold with_region (entry_pairs entries)) (ap reverse is ∙ reverse-append left (region ∷ [])))
    ∙ before

empty : (regions : List ChildValue) → length regions ≡ 0 → regions ≡ []
empty [] none = refl
empty (r ∷ regions) none = absurd (omega (arith, none))

-- no region is left
pub regions_all : (entries : MapEntries) (left regions : List ChildValue) → length left ≡ 0
    → fold with_region (entry_pairs entries) (reverse left) ≡ fold with_region [] regions → put_entries entries ≡ fold with_region [] regions
regions_all entries left regions none is =
    let pairs : entry_pairs entries ≡ fold with_region [] regions = ap (λ (l : List ChildValue). fold with_region (entry_pairs entries) (reverse l)) (sym (empty left none)) ∙ is in
    sym (fold-map (λ (sorted : Pairs) (pair : List ℕ × Value). put sorted pair.0 pair.1) (λ (entry : String Global × Value). let pair : List ℕ × Value = (string_bytes entry.0, entry.1) in pair) [] entries)
    ∙ ap (put_pairs []) pairs ∙ put_again [] (fold with_region [] regions) (regions_rise [] regions none_rise)
