-- What a new actor brings into the books of an office.
use Rattle.std.specs.Prelude.{ℕ, List, Option}
use Rattle.std.specs.Option.{option_map_or}
use Rattle.office_types.specs.declared.office.Item.{Item}
use Rattle.office_types.specs.SystemNames.{with_holder}
use Rattle.office_types.specs.WorkItems.{with_open_item}

-- the names with that of a new actor, if it has one
abbrev pub and_holder : List (List ℕ × ℕ) → Option (List ℕ) → ℕ → List (List ℕ × ℕ)
and_holder names name actor = option_map_or (λ (name : List ℕ). with_holder names name actor) name names

-- the open items with that of a new actor, if it has one
abbrev pub and_item : List Item → Option Item → List Item
and_item items item = option_map_or (λ (item : Item). with_open_item items item) item items
