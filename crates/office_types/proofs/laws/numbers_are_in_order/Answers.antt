use Rattle.office_types.proofs.NumberLemmas.{numbers_are_in_order}
use Rattle.office_types.proofs.laws.numbers_are_in_order.Goals as goal

pub returns : goal.returns
returns c = numbers_are_in_order
