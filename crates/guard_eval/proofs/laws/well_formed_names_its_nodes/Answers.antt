use Rattle.guard_eval.proofs.LawLemmas.{names_its_nodes}
use Rattle.guard_eval.proofs.laws.well_formed_names_its_nodes.Goals as goal

pub returns : goal.returns
returns c = λ actors well. names_its_nodes actors c.args.def.now c.len-count.ensures.tree well
