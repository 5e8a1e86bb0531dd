use Rattle.office_types.proofs.ValidityEntryLemmas.{empty_office_is_valid}
use Rattle.office_types.proofs.laws.empty_office_is_valid.Goals as goal

pub returns : goal.returns
returns c = empty_office_is_valid
