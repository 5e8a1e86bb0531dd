use Rattle.office_types.proofs.CanonicalLineLemmas.{entries_read_back}
use Rattle.office_types.proofs.laws.entries_read_back.Goals as goal

pub returns : goal.returns
returns c = entries_read_back c.request_is_unique.ensures
