-- What one step of an actor makes of an office, and how the parts of a change give it.
use Rattle.std.specs.Prelude.{◌≡◌, ℕ, List, Option, true, false, Result, Ok, Err}
use Rattle.office_types.specs.declared.office.OfficeState.{OfficeState}
use Rattle.office_types.specs.declared.outcome.Outcome.{Outcome}
use Rattle.office_types.specs.Definitions.{OfficeDefinitions}
use Rattle.office_types.specs.Effects.{has_actor_room, has_level_below, is_name_held}
use Rattle.office_types.specs.Fitting.{Fitted}
use Rattle.office_types.specs.Mailboxes.{has_letter_room, without_head}
use Rattle.office_types.specs.Step.{after_outcome, or_failure}
use Rattle.actor_tree.specs.declared.part.Part.{Part}
use Rattle.actor_tree.specs.declared.unfit.Unfit.{Unfit}
use Rattle.actor_tree.specs.declared.unfit.Unfit.TheVariants.{Fault, Memory}
use Rattle.actor_tree.specs.Parts.{CanPutAll, put, put_part}

-- an office after an actor took its head letter, with this outcome
abbrev pub stepped : OfficeDefinitions → ℕ → Outcome → OfficeState → OfficeState
stepped definitions number outcome state =
    let taken : OfficeState = without_head state number in
    or_failure number taken (after_outcome definitions number outcome taken)

-- what a step makes of an office: the office at the beginning, whose step it is, and the office by now
pub record AheadOffice : Type 0 where
  pub before : OfficeState
  pub actor : ℕ
  pub office : OfficeState

-- the same step, with another office by now
abbrev pub at_office : AheadOffice → OfficeState → AheadOffice
at_office ahead office = record ahead { office = office }

-- the same after one part more
abbrev pub with_part : AheadOffice → Part → AheadOffice
with_part ahead part = at_office ahead (put_part ahead.office part)

-- a step went on to what fits, or what stands against it is named; want of memory is free
abbrev pub Goes : (AheadOffice → Fitted) → AheadOffice → Result AheadOffice Unfit → Type 0
Goes change old (Ok new) = (change old ≡ Ok new.office) × (new ≡ at_office old new.office)
Goes change old (Err (Fault name)) = change old ≡ Err name
Goes change old (Err Memory) = Unit {0}

-- a step went on to its end, and its parts fit; or what stands against it is named; want of memory is free
abbrev pub Concludes : (AheadOffice → Fitted) → AheadOffice → Result (List Part) Unfit → Type 0
Concludes change old (Ok parts) = (change old ≡ Ok (put old.before parts)) × CanPutAll old.before parts
Concludes change old (Err (Fault name)) = change old ≡ Err name
Concludes change old (Err Memory) = Unit {0}

-- nothing stands against a child of this logic under this system name
pub record HasChildRoom (ahead : AheadOffice) (letters : ℕ) (system : Option (List ℕ)) : Type 0 where
  pub name_free : is_name_held ahead.office system ≡ false
  pub actor_room : has_actor_room ahead.office ≡ true
  pub letter_room : has_letter_room ahead.office letters ≡ true
  pub level : has_level_below ahead.office ahead.actor ≡ true

-- an actor takes its head letter, with this outcome
pub record Stepping : Type 0 where
  pub definitions : OfficeDefinitions
  pub office : OfficeState
  pub actor : ℕ
  pub outcome : Outcome

-- the parts of a step fit the office, and make of it what the step does
pub record IsPreparedStep (step : Stepping) (parts : List Part) : Type 0 where
  pub change : put step.office parts ≡ stepped step.definitions step.actor step.outcome step.office
  pub fits : CanPutAll step.office parts
