use Rattle.actor_tree.proofs.StepLemmas as step
use Rattle.actor_tree.proofs.laws.steps_are_entries.Goals as goal

pub returns : goal.returns
returns c = step.steps_are_entries
