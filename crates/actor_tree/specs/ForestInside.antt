-- What holds of a forest at each moment.
use Rattle.std.specs.Prelude.{◌≡◌, ℕ, List, [], Option}
use Rattle.office_types.specs.declared.office.OfficeState.{OfficeState}
use Rattle.office_types.specs.Definitions.{AreLinked, OfficeDefinitions}
use Rattle.office_types.specs.ValidOffice.{IsValidOffice}
use Rattle.actor_tree.specs.Following.{head_numbers}

-- the office is valid, and each actor has its head letter
pub record IsForest (definitions : OfficeDefinitions) (office : OfficeState) (heads : List (ℕ × Option ℕ)) : Type 0 where
  pub linked : AreLinked definitions
  pub valid : IsValidOffice definitions office
  pub callers : office.callers ≡ []
  pub entries : office.entries ≡ 0
  pub heads_are : heads ≡ head_numbers office.actors
