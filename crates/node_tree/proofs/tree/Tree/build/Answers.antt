use Rattle.node_tree.proofs.FaultLemmas.{is_tree_fault, no_node_alike}
use Rattle.node_tree.proofs.tree.Tree.build.Goals as goal

pub returns-in_err-outline-clause-no_node : goal.returns-in_err-outline-clause-no_node
returns-in_err-outline-clause-no_node c = λ n.
    let fault = c.in_err-outline.field-0.0 in
    let named = c.build.ensures.no_node n in
    let alike = no_node_alike fault n c.build.result c.from_residual.result c.in_err-outline.was (is_tree_fault c.from_residual.result fault c.from_residual.ensures.1) in (
      (λ e. named.0 (alike.0 e)),
      (λ first. alike.1 (named.1 first)),
    )
