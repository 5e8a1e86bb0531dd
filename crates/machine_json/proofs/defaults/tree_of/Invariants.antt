use Rattle.machine_json.proofs.DefaultLemmas.{HaveDefaultsUpTo}
use Rattle.machine_json.proofs.defaults.tree_of.Given as goal

abbrev pub invariant-loop-n : goal.invariant-loop-n
invariant-loop-n l = HaveDefaultsUpTo l.fn.outline l.defaults.items l.n l.outline
