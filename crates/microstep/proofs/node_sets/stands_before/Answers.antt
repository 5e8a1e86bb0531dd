use Rattle.microstep.proofs.UnionLemmas.{all-before}
use Rattle.microstep.proofs.node_sets.stands_before.Goals as goal

pub returns-else-is_empty-2 : goal.returns-else-is_empty-2
returns-else-is_empty-2 c = λ yes. all-before c.args.first.now c.args.second.now c.requires.first c.requires.second yes
