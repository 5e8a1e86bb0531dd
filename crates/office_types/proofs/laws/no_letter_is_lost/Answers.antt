use Rattle.office_types.proofs.LostLetterLemmas.{no_letter_is_lost}
use Rattle.office_types.proofs.laws.no_letter_is_lost.Goals as goal

pub returns : goal.returns
returns c = no_letter_is_lost
