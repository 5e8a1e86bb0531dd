use Rattle.office_types.proofs.TakenLetterLemmas.{later_letters_have_greater_numbers}
use Rattle.office_types.proofs.laws.later_letters_have_greater_numbers.Goals as goal

pub returns : goal.returns
returns c = later_letters_have_greater_numbers
