use Rattle.std.proofs.Common.{arith}
use Rattle.machine_json.proofs.ExpressionLemmas.{meaning_excludes}
use Rattle.machine_json.proofs.MeaningLemmas.{meaning-same}
use Rattle.machine_json.proofs.laws.expression_means_once.Goals as goal

pub returns : goal.returns
returns c = record {
  one_meaning = meaning-same;
  one_place = λ answered json place other least other_least. omega (arith, least.no_earlier other other_least.there, other_least.no_earlier place least.there);
  never_both = λ answered json expr place means_it least. meaning_excludes answered json expr place means_it least.there;
}
