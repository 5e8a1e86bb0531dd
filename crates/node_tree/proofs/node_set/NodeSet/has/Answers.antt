use Rattle.node_tree.proofs.RisingLemmas.{found}
use Rattle.node_tree.proofs.node_set.NodeSet.has.Goals as goal

pub returns : goal.returns
returns c = rw (c.is_ok.ensures.value, ← c.self.view_is, ← c.deref.ensures.value) (found _ _ _ (rw c.deref.ensures.value c.self.invariant) c.binary_search.ensures.position)
