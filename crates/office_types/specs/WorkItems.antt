-- Open work items, by their numbers.
use Rattle.std.specs.Prelude.{ℕ, not, List, [], ◌∷◌, ◌++◌, Option, None, find, filter, nat_eq, if◌then◌else◌}
use Rattle.std.specs.List.{filter_map}
use Rattle.office_types.specs.declared.office.ActorRecord.{ActorRecord}
use Rattle.office_types.specs.declared.office.Item.{Item}
use Rattle.office_types.specs.declared.office.OfficeState.{OfficeState}
use Rattle.office_types.specs.Records.{is_active}

-- an item that is newer than all others is open, too
abbrev pub with_open_item : List Item → Item → List Item
with_open_item items item = items ++ item ∷ []

-- the items but for the one of this number
abbrev pub without_item : ℕ → List Item → List Item
without_item number items = filter (λ (item : Item). not (nat_eq item.actor number)) items

-- the item of this number
abbrev pub item_of : ℕ → List Item → Option Item
item_of number items = find (λ (item : Item). nat_eq item.actor number) items

-- the item of an actor that is active
abbrev pub open_item : ActorRecord → Option Item
open_item actor = if is_active actor then actor.item else None

-- the open items of an office
abbrev pub open_items : OfficeState → List Item
open_items state = filter_map open_item state.actors
