use Rattle.step_sets.proofs.LawLemmas.{unpreempted_apart}
use Rattle.step_sets.proofs.laws.preemption_keeps_apart.Goals as goal

pub returns : goal.returns
returns c = unpreempted_apart
