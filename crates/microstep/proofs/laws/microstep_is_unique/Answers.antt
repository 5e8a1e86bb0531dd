use Rattle.microstep.proofs.UniqueStepLemmas.{microstep-unique}
use Rattle.microstep.proofs.laws.microstep_is_unique.Goals as goal

pub returns : goal.returns
returns c = microstep-unique
