-- What the calls of a step that may have a fault give.
use Rattle.std.specs.Prelude.{◌≡◌, Result, Ok, Err, MatchResult}
use Rattle.office_types.specs.declared.outcome.FaultName.{FaultName}
use Rattle.microstep.specs.declared.lent.Lent.{Lent}
use Rattle.microstep.specs.declared.micro.StepFault.{StepFault}
use Rattle.microstep.specs.declared.micro.StepFault.TheVariants.{Fault}
use Rattle.microstep.specs.declared.progress.Progress.{Progress}
use Rattle.microstep.specs.Actions.{Given}
use Rattle.microstep.specs.Parts.{Stepped}

-- the name of the fault is this one; want of memory has no name, and may come at any time
abbrev pub IsNamed : {X : Type 0} → StepFault → Stepped X → Type 0
IsNamed fault expected = (name : FaultName) → fault ≡ Fault name → expected ≡ Err name

-- what a call gives, or the name of its fault
abbrev pub Gives : {X : Type 0} → Result X StepFault → Stepped X → Type 0
Gives result expected = MatchResult result (λ x. expected ≡ Ok x) (λ fault. IsNamed fault expected)

-- what a call leaves of what is done so far, or the name of its fault
abbrev pub Becomes : {X : Type 0} → Result X StepFault → Progress → Stepped Progress → Type 0
Becomes result after expected = MatchResult result (λ done. expected ≡ Ok after) (λ fault. IsNamed fault expected)

-- what an action is lent
abbrev pub given_of : Lent → Given
given_of lent = record { event = lent.event.now; params = lent.params.now }
