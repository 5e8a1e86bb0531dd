use Rattle.office_types.proofs.ValidityDecisionLemmas.{decisions_keep_validity}
use Rattle.office_types.proofs.laws.decisions_keep_validity.Goals as goal

pub returns : goal.returns
returns c = decisions_keep_validity
