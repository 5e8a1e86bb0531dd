use Rattle.flat_core.proofs.RequestLemmas.{request_is_unique}
use Rattle.flat_core.proofs.laws.request_is_unique.Goals as goal

pub returns : goal.returns
returns c = request_is_unique c.meaning_is_unique.ensures
