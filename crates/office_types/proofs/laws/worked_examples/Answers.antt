use Rattle.office_types.proofs.WorkedRowLemmas.{worked_examples}
use Rattle.office_types.proofs.laws.worked_examples.Goals as goal

pub returns : goal.returns
returns c = worked_examples
