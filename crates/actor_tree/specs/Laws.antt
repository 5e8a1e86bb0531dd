-- What follows from the definitions of an office's actors.
use Rattle.std.specs.Prelude.{◌≡◌, ℕ}
use Rattle.office_types.specs.declared.office.OfficeState.{OfficeState}
use Rattle.office_types.specs.declared.outcome.Outcome.{Outcome}
use Rattle.office_types.specs.Definitions.{OfficeDefinitions}
use Rattle.office_types.specs.Step.{took, with_entry}
use Rattle.actor_tree.specs.Changes.{stepped}

-- what a step's entry makes of an office is what the step does, with one entry more
abbrev pub StepsAreEntries : Type 0
StepsAreEntries =
    (definitions : OfficeDefinitions) (number : ℕ) (outcome : Outcome) (state : OfficeState)
    → took definitions number outcome state ≡ with_entry (stepped definitions number outcome state)
