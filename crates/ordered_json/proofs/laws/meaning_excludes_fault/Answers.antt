-- The reader's answer is the meaning, and no fault.
use Rattle.ordered_json.proofs.FaultLemmas.{no_fault}
use Rattle.ordered_json.proofs.laws.meaning_excludes_fault.Goals as goal

pub returns : goal.returns
returns c = no_fault
