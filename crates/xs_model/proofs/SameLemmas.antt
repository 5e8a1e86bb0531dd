-- The test whether two values are equal, layer by layer.
use Rattle.std.proofs.Common.{◌≡◌, ◌≢◌, ℕ, zero, suc, ◌<◌, Bool, true, false, ◌&&◌, List, [], ◌∷◌, length, map, get_or, drop, refl, ap, ◌∙◌, arith, rules}
use Rattle.xs_model.specs.Equality.{pass_in_turn, both_pass, same}
use Rattle.xs_model.specs.declared.value.Value.{Value, the_lemmas}
use Rattle.xs_model.specs.declared.value.Value.TheVariants as value

-- a key and its value beside another key and its value
abbrev pub member_same : List ℕ × Value → List ℕ × Value → Bool
member_same m = both_pass (m.0, same m.1)

pub same-List : (xs ys : List Value) → same (value.List xs) (value.List ys) ≡ pass_in_turn (map same xs) ys
same-List xs ys = search (rules, the_lemmas)

pub map-both_pass : (xs : List (List ℕ × Value)) → map both_pass (map (λ m. (m.0, same m.1)) xs) ≡ map member_same xs
map-both_pass [] = refl
map-both_pass (m ∷ xs) = ap (λ tests. member_same m ∷ tests) (map-both_pass xs)

layer-Map : (xs ys : List (List ℕ × Value)) → same (value.Map xs) (value.Map ys) ≡ pass_in_turn (map both_pass (map (λ m. (m.0, same m.1)) xs)) ys
layer-Map xs ys = search (rules, the_lemmas)

pub same-Map : (xs ys : List (List ℕ × Value)) → same (value.Map xs) (value.Map ys) ≡ pass_in_turn (map member_same xs) ys
same-Map xs ys = layer-Map xs ys ∙ ap (λ tests. pass_in_turn tests ys) (map-both_pass xs)

module _ {X : Type 0} (f : X → X → Bool) where
  pub pass-lengths : (xs ys : List X) → length xs ≢ length ys → pass_in_turn (map f xs) ys ≡ false
  pass-lengths [] [] other = absurd (other refl)
  pass-lengths [] (y ∷ ys) other = refl
  pass-lengths (x ∷ xs) [] other = refl
  pass-lengths (x ∷ xs) (y ∷ ys) other = rw (pass-lengths xs ys (λ e. other (ap suc e))) (and_false (f x y))
    where
      and_false : (b : Bool) → (b && false) ≡ false
      and_false true = refl
      and_false false = refl

  -- the pairs from a place on: the pair there, and those after it
  pub pass-drop : (xs ys : List X) (i : ℕ) (d : X) → i < length xs → i < length ys
      → pass_in_turn (map f (drop i xs)) (drop i ys) ≡ (f (get_or xs i d) (get_or ys i d) && pass_in_turn (map f (drop (suc i) xs)) (drop (suc i) ys))
  pass-drop [] ys i d here there = absurd (omega arith)
  pass-drop (x ∷ xs) [] i d here there = absurd (omega arith)
  pass-drop (x ∷ xs) (y ∷ ys) zero d here there = refl
  pass-drop (x ∷ xs) (y ∷ ys) (suc i) d here there = pass-drop xs ys i d (omega arith) (omega arith)
