use Rattle.node_tree.proofs.TreeLemmas.{ancestors_first, subtrees_are_runs}
use Rattle.node_tree.proofs.laws.document_order.Goals as goal

pub returns-clause-ancestors : goal.returns-clause-ancestors
returns-clause-ancestors c = ancestors_first

pub returns-clause-runs : goal.returns-clause-runs
returns-clause-runs c = subtrees_are_runs
