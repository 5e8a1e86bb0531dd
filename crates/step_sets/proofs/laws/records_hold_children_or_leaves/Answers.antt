use Rattle.step_sets.proofs.LawLemmas.{holds_children_or_leaves}
use Rattle.step_sets.proofs.laws.records_hold_children_or_leaves.Goals as goal

pub returns : goal.returns
returns c = λ departure new records. holds_children_or_leaves c.args.tree.now departure new records
