-- Actors by their numbers with their head letters, and how they have their places in a tournament.
use Rattle.std.specs.Prelude.{◌≡◌, ℕ, ◌<◌, ◌≤◌, List, length, map, Option, None, Some, slice_index_or}
use Rattle.std.specs.List.{filter_map}
use Rattle.std.specs.Option.{option_map, option_map_or}
use Rattle.office_types.specs.Ready.{Head}
use Rattle.office_books.specs.NumberedItems.{NumbersRise, numbered_item, with_numbered_item}
use Rattle.actor_tree.specs.declared.heads.Spot.{Spot}
use Rattle.actor_tree.specs.declared.tournament.Entrant.{Entrant}

-- the heads of those that have a letter
abbrev pub heads_among : List (ℕ × Option ℕ) → List Head
heads_among items = filter_map (λ (pair : ℕ × Option ℕ). option_map (λ (letter : ℕ). record { actor = pair.0; letter = letter }) pair.1) items

-- no two actors have one head letter
abbrev pub HaveOwnLetters : List (ℕ × Option ℕ) → Type 0
HaveOwnLetters items =
    (actor other letter : ℕ) → numbered_item actor items ≡ Some (Some letter) → numbered_item other items ≡ Some (Some letter) → actor ≡ other

-- what stands in an actor's place
abbrev pub entrant_of : ℕ → Option ℕ → Option Entrant
entrant_of actor letter = option_map (λ (letter : ℕ). record { actor = actor; letter = letter }) letter

-- the letters of actors that have places
abbrev pub letters_of_spots : List (ℕ × Spot) → List (ℕ × Option ℕ)
letters_of_spots spots = map (λ (pair : ℕ × Spot). (pair.0, pair.1.letter)) spots

-- the same, with another letter at an actor, if it is there
abbrev pub with_letter_of : ℕ → Option ℕ → List (ℕ × Spot) → List (ℕ × Spot)
with_letter_of actor letter spots =
    option_map_or (λ (spot : Spot). with_numbered_item actor (record spot { letter = letter }) spots) (numbered_item actor spots) spots

-- the place of an actor
abbrev pub place_of_actor : ℕ → List (ℕ × Spot) → Option ℕ
place_of_actor actor spots = option_map (λ (spot : Spot). spot.place) (numbered_item actor spots)

-- each actor has a place of its own among the first ones, and stands there if it has a letter; nobody else stands anywhere
pub record HaveSpots (next : ℕ) (spots : List (ℕ × Spot)) (places : List (Option Entrant)) : Type 0 where
  pub rise : NumbersRise spots
  pub within : next ≤ length places
  pub taken : (actor place : ℕ) → place_of_actor actor spots ≡ Some place → place < next
  pub apart : (actor other place : ℕ) → place_of_actor actor spots ≡ Some place → place_of_actor other spots ≡ Some place → actor ≡ other
  pub stands : (actor : ℕ) (spot : Spot) → numbered_item actor spots ≡ Some spot → slice_index_or places spot.place None ≡ entrant_of actor spot.letter
  pub known : (place : ℕ) (entrant : Entrant) → slice_index_or places place None ≡ Some entrant → place_of_actor entrant.actor spots ≡ Some place
