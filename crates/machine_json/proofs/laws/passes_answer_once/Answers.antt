use Rattle.machine_json.specs.Nodes.{HasFirstPassFault}
use Rattle.machine_json.specs.SecondPass.{HasSecondPassFault}
use Rattle.machine_json.proofs.UniqueLemmas.{one_first}
use Rattle.machine_json.proofs.laws.passes_answer_once.Goals as goal

pub returns : goal.returns
returns c = record {
  first_pass = λ text fault other. one_first (HasFirstPassFault text) fault other;
  second_pass = λ text fault other. one_first (HasSecondPassFault text) fault other;
}
