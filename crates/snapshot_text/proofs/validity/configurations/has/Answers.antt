use Rattle.node_tree.proofs.RisingLemmas.{found}
use Rattle.snapshot_text.proofs.validity.configurations.has.Goals as goal

pub returns : goal.returns
returns c = rw c.is_ok.ensures.value (found c.args.nodes.now c.args.node c.binary_search.result c.requires c.binary_search.ensures.position)
