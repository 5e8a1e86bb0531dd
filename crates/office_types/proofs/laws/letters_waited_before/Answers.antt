use Rattle.office_types.proofs.LetterLemmas.{letters_waited_before}
use Rattle.office_types.proofs.laws.letters_waited_before.Goals as goal

pub returns : goal.returns
returns c = letters_waited_before
