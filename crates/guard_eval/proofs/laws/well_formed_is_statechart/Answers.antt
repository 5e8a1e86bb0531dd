use Rattle.guard_eval.proofs.LawLemmas.{is_statechart}
use Rattle.guard_eval.proofs.laws.well_formed_is_statechart.Goals as goal

pub returns : goal.returns
returns c = is_statechart
