use Rattle.office_types.specs.Effects.{fresh_own}
use Rattle.macrostep.proofs.OutcomeLemmas.{fault_fits, fault_not_active}
use Rattle.macrostep.proofs.completion.begin.Goals as goal

pub returns-in-Err-Fault-clause-allowed : goal.returns-in-Err-Fault-clause-allowed
returns-in-Err-Fault-clause-allowed c =
    fault_fits c.args.def.now (fresh_own c.args.number) c.fresh_own.result c.in-Err-Fault.name c.fault_outcome.result c.fresh_own.ensures c.fault_outcome.ensures

pub returns-in-Err-Fault-clause-begun : goal.returns-in-Err-Fault-clause-begun
returns-in-Err-Fault-clause-begun c =
    fault_not_active c.args.def.now c.fresh_own.result c.in-Err-Fault.name c.fault_outcome.result c.fault_outcome.ensures
