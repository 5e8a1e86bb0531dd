-- What contracts see of a book: its list, and for how many more entries it has room.
use Rattle.std.specs.Prelude.{ℕ, ◌-◌, List, map, min}
use Rattle.std.specs.Vec.{vec_len, vec_capacity}
use Rattle.std.specs.declared.vec.Vec.{Vec}
use Rattle.office_types.specs.declared.office.Item.{Item}

-- for how many more items a vector has room
abbrev pub vec_room : {X Z : Type 0} → Vec X Z → ℕ
vec_room items = vec_capacity items - vec_len items

pub record OpenItems : Type 0 where
  pub items : List Item
  pub spare : ℕ

-- the numbers of items
abbrev pub item_numbers : List Item → List ℕ
item_numbers items = map (λ (item : Item). item.actor) items

-- names with the actors that hold them
pub record HeldNames : Type 0 where
  pub names : List (List ℕ × ℕ)
  pub spare : ℕ

-- names, and the smaller of two rooms for more
abbrev pub with_room : List (List ℕ × ℕ) → ℕ → ℕ → HeldNames
with_room names room other_room = record { names = names; spare = min room other_room }

-- the numbers of actors that hold names
abbrev pub holder_numbers : List (List ℕ × ℕ) → List ℕ
holder_numbers names = map (λ (holder : List ℕ × ℕ). holder.1) names
