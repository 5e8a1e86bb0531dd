use Rattle.node_tree.proofs.TargetLemmas.{longest_id_leads, no_id_leads_nowhere}
use Rattle.node_tree.proofs.laws.longest_id.Goals as goal

pub returns-clause-led : goal.returns-clause-led
returns-clause-led c = λ nodes source. longest_id_leads nodes

pub returns-clause-none : goal.returns-clause-none
returns-clause-none c = λ nodes source. no_id_leads_nowhere nodes
