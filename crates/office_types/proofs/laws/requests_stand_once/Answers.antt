use Rattle.office_types.proofs.CallerLemmas.{requests_stand_once}
use Rattle.office_types.proofs.laws.requests_stand_once.Goals as goal

pub returns : goal.returns
returns c = requests_stand_once
