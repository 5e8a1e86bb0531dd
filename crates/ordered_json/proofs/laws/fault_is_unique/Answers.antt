-- Both faults are the reader's answer.
use Rattle.ordered_json.proofs.FaultLemmas.{one_fault}
use Rattle.ordered_json.proofs.laws.fault_is_unique.Goals as goal

pub returns : goal.returns
returns c = one_fault
