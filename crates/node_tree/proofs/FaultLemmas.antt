-- An outline's fault as the tree's.
use Rattle.std.proofs.Common.{◌≡◌, ◌↔◌, ℕ, ap, ◌∙◌}
use Rattle.std.specs.Prelude.{Result, Ok, Err}
use Rattle.std.specs.Result.{IsErrAnd}
use Rattle.node_tree.specs.declared.fault.OutlineFault.{OutlineFault}
use Rattle.node_tree.specs.declared.fault.OutlineFault.TheVariants.{NoNode, Memory}
use Rattle.node_tree.specs.declared.fault.TreeFault.{TreeFault}
use Rattle.node_tree.specs.declared.fault.TreeFault.TheVariants.{NoNode as TreeNoNode}
use Rattle.node_tree.specs.Faults.{tree_fault}

pub is_tree_fault : {T : Type 0} (r : Result T TreeFault) (fault : OutlineFault) → IsErrAnd r (λ e. e ≡ tree_fault fault) → r ≡ Err (tree_fault fault)
is_tree_fault (Ok x) fault never = absurd never
is_tree_fault (Err e) fault is = ap Err is

-- a row is named by the one exactly where it is by the other
pub no_node_alike : {S T : Type 0} (fault : OutlineFault) (n : ℕ) (o : Result S OutlineFault) (r : Result T TreeFault) → o ≡ Err fault → r ≡ Err (tree_fault fault)
    → (r ≡ Err (TreeNoNode n)) ↔ (o ≡ Err (NoNode n))
no_node_alike (NoNode m) n o r was is = ((λ e. let same : m ≡ n = cc in was ∙ ap (λ k. Err (NoNode k)) same), (λ e. let same : m ≡ n = cc in is ∙ ap (λ k. Err (TreeNoNode k)) same))
no_node_alike Memory n o r was is = ((λ e. cc), (λ e. cc))
