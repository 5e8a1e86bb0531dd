use Rattle.office_types.proofs.ValidityTookLemmas.{steps_keep_validity}
use Rattle.office_types.proofs.laws.steps_keep_validity.Goals as goal

pub returns : goal.returns
returns c = steps_keep_validity
