-- The fault of a step that comes of an evaluation.
use Rattle.xs_model.specs.declared.env.EvalFault.{EvalFault}
use Rattle.xs_model.specs.declared.env.EvalFault.TheVariants as eval_fault
use Rattle.microstep.specs.declared.micro.StepFault.{StepFault}
use Rattle.microstep.specs.declared.micro.StepFault.TheVariants.{Fault, Memory}
use Rattle.microstep.specs.Parts.{fault_name}

-- want of memory, or the fault with its name
abbrev pub step_fault : EvalFault → StepFault
step_fault eval_fault.Memory = Memory
step_fault fault = Fault (fault_name fault)
