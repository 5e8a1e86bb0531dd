-- Both sides of bytes have an answer, and whatever they have is that one.
use Rattle.gate_journal.proofs.AnswerLemmas.{one_answer}
use Rattle.gate_journal.proofs.laws.both_sides_have_one_answer.Goals as goal

pub returns : goal.returns
returns c = one_answer
