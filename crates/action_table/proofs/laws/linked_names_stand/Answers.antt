use Rattle.action_table.proofs.LawLemmas.{names-stand}
use Rattle.action_table.proofs.laws.linked_names_stand.Goals as goal

pub returns : goal.returns
returns c = names-stand
