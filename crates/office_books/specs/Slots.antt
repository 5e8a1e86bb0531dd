-- Places for items by their numbers, some of which are empty.
use Rattle.std.specs.Prelude.{◌≡◌, ℕ, ◌<◌, List, ◌⊎◌, Some, IsSome, length, map, get_or}
use Rattle.std.specs.Ordering.{nat_cmp}
use Rattle.std.specs.Option.{option_map}
use Rattle.std.specs.List.{filter_map}
use Rattle.office_books.specs.Sorted.{RisesBy, IsAt, IsAbsentAt}
use Rattle.office_books.specs.declared.slots.Slot.{Slot}

module _ {X : Type 0} where
  -- the items that are in places, each with its number
  abbrev pub in_slots : List (Slot X) → List (ℕ × X)
  in_slots slots = filter_map (λ (slot : Slot X). option_map (λ (item : X). (slot.number, item)) slot.item) slots

  -- the numbers of places
  abbrev pub slot_numbers : List (Slot X) → List ℕ
  slot_numbers slots = map (λ (slot : Slot X). slot.number) slots

  -- each place has a greater number than those before it
  abbrev pub SlotsRise : List (Slot X) → Type 0
  SlotsRise slots = RisesBy nat_cmp (λ (slot : Slot X). slot.number) slots

  -- the place with this item in it
  abbrev pub with_slot_item : Slot X → X → Slot X
  with_slot_item slot item = record slot { item = Some item }

  -- the places of a number and above begin here
  abbrev pub BeginsAt : ℕ → ℕ → List (Slot X) → Type 0
  BeginsAt number place slots = IsAt nat_cmp number place (slot_numbers slots) ⊎ IsAbsentAt nat_cmp number place (slot_numbers slots)

  -- this place has the item of the number
  pub record HoldsItem (number : ℕ) (slots : List (Slot X)) (place : ℕ) : Type 0 where
    pub within : place < length slots
    pub at : IsAt nat_cmp number place (slot_numbers slots)
    pub filled : (other : Slot X) → IsSome (get_or slots place other).item

  -- places by number, and how many have an item
  pub record AreSlots (slots : List (Slot X)) (filled : ℕ) : Type 0 where
    pub rise : SlotsRise slots
    pub counted : filled ≡ length (in_slots slots)
