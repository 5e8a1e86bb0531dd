use Rattle.machine_json.proofs.OneMachineLemmas.{one_machine}
use Rattle.machine_json.proofs.ReadingLemmas.{meaning_or_fault, one_answered}
use Rattle.machine_json.proofs.laws.machine_means_once.Goals as goal

pub returns : goal.returns
returns c = record {
  one_machine = one_machine;
  one_fault = one_answered;
  never_both = meaning_or_fault;
}
