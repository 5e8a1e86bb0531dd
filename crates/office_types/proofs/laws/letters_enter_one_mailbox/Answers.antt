use Rattle.office_types.proofs.LetterOrderLemmas.{letters_enter_one_mailbox}
use Rattle.office_types.proofs.laws.letters_enter_one_mailbox.Goals as goal

pub returns : goal.returns
returns c = letters_enter_one_mailbox
