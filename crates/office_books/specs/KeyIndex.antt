-- Pairs of a text and a number, in the order of the numbers, and the same numbers in the order of the texts.
use Rattle.std.specs.Prelude.{◌≡◌, ℕ, List, [], ◌∷◌, ◌⊎◌, map, nat_eq, if◌then◌else◌}
use Rattle.std.specs.Ordering.{nat_cmp}
use Rattle.xs_model.specs.Rising.{key_cmp}
use Rattle.office_books.specs.Sorted.{IsAt, IsAbsentAt, RisesBy}

-- the text of a number; the empty one where the number is in no pair
abbrev pub text_of_number : List (List ℕ × ℕ) → ℕ → List ℕ
text_of_number [] number = []
text_of_number (pair ∷ pairs) number = if nat_eq pair.1 number then pair.0 else text_of_number pairs number

-- the text is that of the number at this place, or would go there
abbrev pub IsKeyAt : List ℕ → List (List ℕ × ℕ) → List ℕ → ℕ → Type 0
IsKeyAt key pairs numbers place = IsAt key_cmp key place (map (text_of_number pairs) numbers)

abbrev pub IsKeyGap : List ℕ → List (List ℕ × ℕ) → List ℕ → ℕ → Type 0
IsKeyGap key pairs numbers place = IsAbsentAt key_cmp key place (map (text_of_number pairs) numbers)

-- the item stands in the list
abbrev pub IsIn : {X : Type 0} → X → List X → Type 0
IsIn item [] = ⊥
IsIn item (other ∷ others) = (other ≡ item) ⊎ IsIn item others

-- the numbers of the pairs, in the order of their texts, each text once
pub record IsKeyIndex (pairs : List (List ℕ × ℕ)) (numbers : List ℕ) : Type 0 where
  pub numbers_rise : RisesBy nat_cmp (λ (pair : List ℕ × ℕ). pair.1) pairs
  pub keys_rise : RisesBy key_cmp (text_of_number pairs) numbers
  pub has_each : (pair : List ℕ × ℕ) → IsIn pair pairs → IsIn pair.1 numbers
  pub has_only : (number : ℕ) → IsIn number numbers → IsIn (text_of_number pairs number, number) pairs
