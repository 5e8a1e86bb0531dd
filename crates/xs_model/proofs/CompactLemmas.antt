-- The compact text of each kind of value, and its length.
use Rattle.std.proofs.Common.{◌≡◌, ℕ, ◌+◌, max, List, [], ◌∷◌, length, map, sum_by, arith, rules, refl, ap, length-append}
use Rattle.std.specs.List.{join_with_byte}
use Rattle.std.proofs.lemmas.List.Sums.{sum_by-cons}
use Rattle.xs_model.specs.Compact.{bracketed_text, member_text, keyed_text, compact_text}
use Rattle.xs_model.specs.declared.value.Value.{Value, the_lemmas}
use Rattle.xs_model.specs.declared.value.Value.TheVariants as value

pub compact-List : (members : List Value) → compact_text (value.List members) ≡ bracketed_text 91 93 (map compact_text members)
compact-List members = search (rules, the_lemmas)

pub map-keyed : (members : List (List ℕ × Value)) → map member_text (map (λ m. (m.0, compact_text m.1)) members) ≡ map keyed_text members
map-keyed [] = refl
map-keyed (m ∷ members) = ap (λ texts. keyed_text m ∷ texts) (map-keyed members)

pub compact-Map : (members : List (List ℕ × Value)) → compact_text (value.Map members) ≡ bracketed_text 123 125 (map keyed_text members)
compact-Map members = search (rules, the_lemmas, map-keyed)

module _ {X : Type 0} (f : X → List ℕ) where
  abbrev with_comma : X → ℕ
  with_comma y = length (f y) + 1

  -- each piece and a comma, but for the last comma
  length-joined : (x : X) (xs : List X) → length (join_with_byte 44 (map f (x ∷ xs))) + 1 ≡ sum_by with_comma (x ∷ xs)
  length-joined x [] = omega arith
  length-joined x (y ∷ ys) =
      omega (arith, length-joined y ys, sum_by-cons with_comma x (y ∷ ys), length-append (f x) (44 ∷ join_with_byte 44 (map f (y ∷ ys))))

  pub length-bracketed_text : (opening closing : ℕ) (xs : List X) → length (bracketed_text opening closing (map f xs)) ≡ max 2 (1 + sum_by (λ y. length (f y) + 1) xs)
  length-bracketed_text opening closing [] = refl
  length-bracketed_text opening closing (x ∷ xs) =
      omega (arith, length-joined x xs, sum_by-cons with_comma x xs, length-append (join_with_byte 44 (map f (x ∷ xs))) (closing ∷ []))
