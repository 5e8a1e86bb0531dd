-- What contracts see of a forest.
use Rattle.std.specs.Prelude.{ℕ}
use Rattle.office_types.specs.declared.office.OfficeState.{OfficeState}
use Rattle.action_table.specs.declared.definitions.Defs.{Defs}
use Rattle.actor_tree.specs.HeldOffice.{HeldOffice, HeldRoom}

-- the definitions, the office with no callers and no entries, and for how much more there is room: in what is held, and for
-- head letters
pub record ForestOffice : Type 0 where
  pub defs : Defs
  pub office : OfficeState
  pub room : HeldRoom
  pub heads : ℕ

-- the office that is held, and the room there
abbrev pub held_in : ForestOffice → HeldOffice
held_in forest = record { office = forest.office; room = forest.room }
