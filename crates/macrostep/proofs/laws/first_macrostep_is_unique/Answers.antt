use Rattle.macrostep.proofs.UniqueLemmas.{first-macrostep-unique}
use Rattle.macrostep.proofs.laws.first_macrostep_is_unique.Goals as goal

pub returns : goal.returns
returns c = first-macrostep-unique
