use Rattle.office_types.proofs.TakenLetterLemmas.{steps_take_heads}
use Rattle.office_types.proofs.laws.steps_take_heads.Goals as goal

pub returns : goal.returns
returns c = steps_take_heads
