use Rattle.xs_model.proofs.TextLemmas.{texts_differ}
use Rattle.xs_model.proofs.laws.compact_text_is_injective.Goals as goal

pub returns : goal.returns
returns c = texts_differ
