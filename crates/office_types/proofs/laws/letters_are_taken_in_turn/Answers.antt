use Rattle.office_types.proofs.TakenLetterLemmas.{letters_are_taken_in_turn}
use Rattle.office_types.proofs.laws.letters_are_taken_in_turn.Goals as goal

pub returns : goal.returns
returns c = letters_are_taken_in_turn
