use Rattle.step_sets.proofs.NextLemmas.{first_is_legal}
use Rattle.step_sets.proofs.laws.first_configuration_is_legal.Goals as goal

pub returns : goal.returns
returns c = first_is_legal c.args.tree.now c.len-nodes.ensures.tree c.requires
