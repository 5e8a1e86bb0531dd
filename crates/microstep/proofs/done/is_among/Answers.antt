use Rattle.node_tree.proofs.RisingLemmas.{found}
use Rattle.microstep.proofs.done.is_among.Goals as goal

pub returns : goal.returns
returns c = rw c.is_ok.ensures.value (found _ _ _ c.requires c.binary_search.ensures.position)
