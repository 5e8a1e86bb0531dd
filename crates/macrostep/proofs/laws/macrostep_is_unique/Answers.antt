use Rattle.macrostep.proofs.UniqueLemmas.{macrostep-unique}
use Rattle.macrostep.proofs.laws.macrostep_is_unique.Goals as goal

pub returns : goal.returns
returns c = macrostep-unique
