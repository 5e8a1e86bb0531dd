use Rattle.std.proofs.Common.{arith}
use Rattle.step_sets.proofs.TreeLemmas.{child_inside}
use Rattle.snapshot_text.proofs.validity.configurations.is_child.Goals as goal

pub returns-then-len-node : goal.returns-then-len-node
returns-then-len-node c = (
  (λ yes. absurd cc),
  (λ is. absurd (let inside = child_inside c.args.tree.now c.args.node c.args.parent is in let count = c.len.ensures.count in omega arith)),
)
