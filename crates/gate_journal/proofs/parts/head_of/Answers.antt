use Rattle.std.proofs.Common.{arith}
use Rattle.gate_journal.proofs.TextLemmas.{head_first}
use Rattle.gate_journal.proofs.parts.head_of.Goals as goal

pub returns : goal.returns
returns c = record {
  text = head_first c.args.front.now c.number_of_8.result c.number_of_4.result (omega arith) (omega arith) c.number_of_8.ensures c.number_of_4.ensures;
  generation_fits = c.number_of_8.type_inv;
  size_fits = c.number_of_4.type_inv;
}
