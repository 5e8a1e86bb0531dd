use Rattle.xs_model.proofs.EqualityLemmas.{same_decides}
use Rattle.xs_model.proofs.laws.equality_is_of_values.Goals as goal

pub returns : goal.returns
returns c = same_decides
