use Rattle.microstep.proofs.UniqueLemmas.{selects-unique}
use Rattle.microstep.proofs.laws.selection_is_unique.Goals as goal

pub returns : goal.returns
returns c = selects-unique
