-- The keys of members, one more at a time.
use Rattle.std.proofs.Common.{◌≡◌, [], ◌∷◌, ◌++◌, map, ℕ, List, Bool, true, false, cond, ◌||◌, refl, ap, sym, ◌∙◌}
use Rattle.std.specs.Str.{bytes_eq}
use Rattle.std.proofs.lemmas.List.{map-append}
use Rattle.std.proofs.lemmas.List.Folds.{list_any-append}
use Rattle.std.proofs.lemmas.Slice.Eq.{bytes_eq-Decides}
use Rattle.std.proofs.lemmas.Bool.Decides.{same_from_decides, Decides-like}
use Rattle.ordered_json.specs.declared.json.Member.{Member, out-roll-Member}
use Rattle.ordered_json.specs.declared.json.OrderedJson.{OrderedJson}
use Rattle.ordered_json.specs.Words.{key_of, member_of}
use Rattle.ordered_json.specs.Meaning.{has_key}

pub bytes_eq-flip : (xs ys : List ℕ) → bytes_eq xs ys ≡ bytes_eq ys xs
bytes_eq-flip xs ys = same_from_decides _ _ (bytes_eq-Decides xs ys) (Decides-like _ sym sym (bytes_eq-Decides ys xs))

pub key_of-member_of : (key : List ℕ) (place : ℕ) (json : OrderedJson) → key_of (member_of key place json) ≡ key
key_of-member_of key place json = ap (λ m. m.key) (out-roll-Member (record { key = key; key_place = place; value = json }))

or_known : (x y : Bool) → (x || (y || false)) ≡ cond y true x
or_known true true = refl
or_known true false = refl
or_known false true = refl
or_known false false = refl

-- one more member adds its key
pub has_key-more : (key : List ℕ) (members : List Member) (m : Member) (name : List ℕ) → key_of m ≡ name → has_key key (map key_of (members ++ m ∷ [])) ≡ cond (bytes_eq name key) true (has_key key (map key_of members))
has_key-more key members m name e =
    ap (has_key key) (map-append key_of members (m ∷ []))
    ∙ (list_any-append (bytes_eq key) (map key_of members) (key_of m ∷ [])
    ∙ (or_known (has_key key (map key_of members)) (bytes_eq key (key_of m))
    ∙ ap (λ b. cond b true (has_key key (map key_of members))) (ap (bytes_eq key) e ∙ bytes_eq-flip key name)))
