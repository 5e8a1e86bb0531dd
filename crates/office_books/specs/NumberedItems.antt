-- What contracts see of items that are held by number: the pairs of number and item, and for how many more there is room.
use Rattle.std.specs.Prelude.{ℕ, List, [], ◌∷◌, map, filter, not, nat_eq, Option, Some, None, refl, if◌then◌else◌}
use Rattle.std.specs.Coded.{Coded, code_by, coded×, coded_ℕ, coded_list}
use Rattle.std.specs.Ordering.{nat_cmp}
use Rattle.office_books.specs.Sorted.{RisesBy}

pub record NumberedItems (X : Type 0) : Type 0 where
  pub items : List (ℕ × X)
  pub spare : ℕ

-- the items are stored as the pair of the fields
abbrev pub numbered_items_code : {X : Type 0} → Coded X → Coded (NumberedItems X)
numbered_items_code {X} code =
    code_by
    (List (ℕ × X) × ℕ)
    (coded× (coded_list (coded× coded_ℕ code)) coded_ℕ)
    (λ n. (n.items, n.spare))
    (λ p. record { items = p.0; spare = p.1 })
    (λ _. refl)

module _ {X : Type 0} where
  -- each number is above those before it
  abbrev pub NumbersRise : List (ℕ × X) → Type 0
  NumbersRise items = RisesBy nat_cmp (λ (pair : ℕ × X). pair.0) items

  -- the item of a number
  abbrev pub numbered_item : ℕ → List (ℕ × X) → Option X
  numbered_item number [] = None
  numbered_item number (pair ∷ pairs) = if nat_eq pair.0 number then Some pair.1 else numbered_item number pairs

  -- the pairs but for that of a number
  abbrev pub without_numbered_item : ℕ → List (ℕ × X) → List (ℕ × X)
  without_numbered_item number items = filter (λ (pair : ℕ × X). not (nat_eq pair.0 number)) items

  -- the pairs, with this item in place of that of a number
  abbrev pub with_numbered_item : ℕ → X → List (ℕ × X) → List (ℕ × X)
  with_numbered_item number item items = map (λ (pair : ℕ × X). if nat_eq pair.0 number then (pair.0, item) else pair) items
