use Rattle.step_sets.proofs.NextLemmas.{next_is_legal}
use Rattle.step_sets.proofs.laws.next_configuration_is_legal.Goals as goal

pub returns : goal.returns
returns c = λ step legal fit enabled apart.
    next_is_legal c.args.tree.now c.len-nodes.ensures.tree c.requires step.active legal step.history step.transitions fit enabled apart
