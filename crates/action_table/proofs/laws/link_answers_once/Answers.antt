use Rattle.action_table.proofs.LawLemmas.{never-both, one-fault}
use Rattle.action_table.proofs.laws.link_answers_once.Goals as goal

pub returns : goal.returns
returns c = record { one_fault = one-fault; never_both = never-both }
