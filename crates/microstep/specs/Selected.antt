-- What `select` answers.
use Rattle.std.specs.Prelude.{◌≡◌, Result, Ok, Err, MatchResult, ⊤}
use Rattle.xs_model.specs.declared.env.EvalFault.{EvalFault}
use Rattle.microstep.specs.declared.micro.Picked.{Picked}
use Rattle.microstep.specs.declared.micro.StepFault.{StepFault}
use Rattle.microstep.specs.declared.micro.StepFault.TheVariants.{Fault, Memory}
use Rattle.microstep.specs.Parts.{fault_name}
use Rattle.microstep.specs.Selection.{Looking, Selects}

-- the name is that of the selection's fault; want of memory may come at any time
abbrev pub IsFaultOf : Looking → StepFault → Type 0
IsFaultOf looking (Fault name) = (fault : EvalFault) × Selects looking (Err fault) × (name ≡ fault_name fault)
IsFaultOf looking Memory = ⊤

-- the places that are taken, or the name of the fault
abbrev pub IsSelected : Looking → Result Picked StepFault → Type 0
IsSelected looking result =
    MatchResult result
    (λ picked. (picked.eventless ≡ looking.eventless) × Selects looking (Ok picked.taken))
    (IsFaultOf looking)
