use Rattle.node_tree.proofs.RisingLemmas.{found}
use Rattle.snapshot_text.proofs.validity.parents.is_listed.Goals as goal

pub returns : goal.returns
returns c = rw c.is_ok.ensures.value (found c.args.listed.now c.args.number c.binary_search.result c.requires c.binary_search.ensures.position)
