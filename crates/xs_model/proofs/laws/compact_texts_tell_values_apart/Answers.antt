use Rattle.std.proofs.Common.{ap}
use Rattle.xs_model.proofs.TextLemmas.{texts_differ}
use Rattle.xs_model.specs.Compact.{compact_text}
use Rattle.xs_model.proofs.laws.compact_texts_tell_values_apart.Goals as goal

pub returns : goal.returns
returns c = (texts_differ c.args.a.now c.args.b.now c.numbers_are_of_64_bits.ensures c.numbers_are_of_64_bits-2.ensures, ap compact_text)
