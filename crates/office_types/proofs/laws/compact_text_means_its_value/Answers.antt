use Rattle.office_types.proofs.CanonicalLemmas.{compact_text_means}
use Rattle.office_types.proofs.laws.compact_text_means_its_value.Goals as goal

pub returns : goal.returns
returns c = compact_text_means
