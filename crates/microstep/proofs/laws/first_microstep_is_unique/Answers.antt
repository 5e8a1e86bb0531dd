use Rattle.microstep.proofs.UniqueStepLemmas.{first-microstep-unique}
use Rattle.microstep.proofs.laws.first_microstep_is_unique.Goals as goal

pub returns : goal.returns
returns c = first-microstep-unique
