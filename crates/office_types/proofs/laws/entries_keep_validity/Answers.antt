use Rattle.office_types.proofs.ValidityEntryLemmas.{entries_keep_validity}
use Rattle.office_types.proofs.laws.entries_keep_validity.Goals as goal

pub returns : goal.returns
returns c = entries_keep_validity
