use Rattle.macrostep.proofs.OutcomeLemmas.{fault_begun, fault_fits_event}
use Rattle.macrostep.proofs.completion.macrostep.Goals as goal

pub returns-in_ok-copy_own-in-Err-Fault-clause-allowed : goal.returns-in_ok-copy_own-in-Err-Fault-clause-allowed
returns-in_ok-copy_own-in-Err-Fault-clause-allowed c =
    fault_fits_event c.args.def.now c.args.own.now c.in_ok-copy_own-in-Err-Fault.field-0 c.args.event.now c.in-Err-Fault.name c.fault_outcome.result
    c.in_ok-copy_own-in-Err-Fault.ensures c.fault_outcome.ensures

pub returns-in_ok-copy_own-in-Err-Fault-clause-begun : goal.returns-in_ok-copy_own-in-Err-Fault-clause-begun
returns-in_ok-copy_own-in-Err-Fault-clause-begun c =
    fault_begun c.args.def.now c.args.own.now c.in_ok-copy_own-in-Err-Fault.field-0 c.in-Err-Fault.name c.fault_outcome.result c.requires.begun
    c.in_ok-copy_own-in-Err-Fault.ensures c.fault_outcome.ensures
