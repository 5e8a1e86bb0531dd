use Rattle.office_types.proofs.PlainLemmas.{meant_is_plain}
use Rattle.office_types.proofs.laws.meant_values_are_plain.Goals as goal

pub returns : goal.returns
returns c = meant_is_plain
