use Rattle.step_sets.proofs.LawLemmas.{stays_fit}
use Rattle.step_sets.proofs.laws.history_stays_fit.Goals as goal

pub returns : goal.returns
returns c = λ departure new legal within fit records. stays_fit c.args.tree.now departure new records legal within fit
