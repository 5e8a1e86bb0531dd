use Rattle.snapshot_text.proofs.WorkedTextLemmas.{worked_texts}
use Rattle.snapshot_text.proofs.laws.worked_texts.Goals as goal

pub returns : goal.returns
returns c = worked_texts
