-- What JSON means, kind by kind.
use Rattle.std.proofs.Common.{◌≡◌, ℕ, ℤ, Bool, List, [], ◌∷◌, map, refl, ap, ◌∙◌, rules}
use Rattle.std.specs.List.{fold}
use Rattle.ordered_json.specs.declared.json.Member.{Member, fold-Member, fold_out-Member, out-Member}
use Rattle.ordered_json.specs.declared.json.OrderedJson.{OrderedJson, the_lemmas as json_lemmas}
use Rattle.ordered_json.specs.declared.json.OrderedJson.TheVariants as json
use Rattle.ordered_json.specs.Words.{key_of}
use Rattle.xs_model.specs.declared.value.Value.{Value}
use Rattle.xs_model.specs.declared.value.Value.TheVariants as value
use Rattle.xs_model.specs.Rising.{put}
use Rattle.machine_json.specs.JsonValues.{json_value, layer_value, members_value, member_value}

-- a member of an object, as its key and its value
abbrev pub json_member : Member → List ℕ × Value
json_member member = (key_of member, json_value (out-Member member).value)

-- the fields that members give, put one after another
abbrev pub fields_of : List Member → List (List ℕ × Value)
fields_of members = fold (λ (sorted : List (List ℕ × Value)) (member : Member). put sorted (key_of member) (json_value (out-Member member).value)) [] members

pub json-List : (place : ℕ) (items : List OrderedJson) → json_value (json.List place items) ≡ value.List (map json_value items)
json-List place items = search (rules, json_lemmas)

pub json-Null : (place : ℕ) → json_value (json.Null place) ≡ value.Null
json-Null place = search (rules, json_lemmas)

pub json-Bool : (place : ℕ) (truth : Bool) → json_value (json.Bool place truth) ≡ value.Bool truth
json-Bool place truth = search (rules, json_lemmas)

pub json-Int : (place : ℕ) (n : ℤ) → json_value (json.Int place n) ≡ value.Int n
json-Int place n = search (rules, json_lemmas)

pub json-Text : (place : ℕ) (text : List ℕ) → json_value (json.Text place text) ≡ value.Text text
json-Text place text = search (rules, json_lemmas)

same_members : (members : List Member) → map (fold-Member Value (List ℕ × Value) layer_value member_value) members ≡ map json_member members
same_members [] = refl
same_members (m ∷ members) =
    ap (λ (x : List ℕ × Value). x ∷ map (fold-Member Value (List ℕ × Value) layer_value member_value) members) (fold_out-Member Value (List ℕ × Value) layer_value member_value m)
    ∙ ap (λ xs. json_member m ∷ xs) (same_members members)

pub json-Object : (place : ℕ) (members : List Member) → json_value (json.Object place members) ≡ members_value (map json_member members)
json-Object place members = search (rules, json_lemmas, same_members)
