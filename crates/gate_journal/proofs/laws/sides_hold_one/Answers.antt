-- Whatever both sides hold is what the side of the greater generation holds.
use Rattle.gate_journal.proofs.AnswerLemmas.{hold_one}
use Rattle.gate_journal.proofs.laws.sides_hold_one.Goals as goal

pub returns : goal.returns
returns c = hold_one
