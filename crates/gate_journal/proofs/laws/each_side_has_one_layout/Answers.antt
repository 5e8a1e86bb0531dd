-- Each side of bytes has a layout, and whatever it has is that one.
use Rattle.gate_journal.proofs.LayoutLemmas.{one_layout}
use Rattle.gate_journal.proofs.laws.each_side_has_one_layout.Goals as goal

pub returns : goal.returns
returns c = one_layout
