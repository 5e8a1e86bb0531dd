use Rattle.std.specs.BTreeSet.{contains}
use Rattle.std.specs.Ordering.{nat_cmp}
use Rattle.machine_json.proofs.ClashLemmas.{HasLooked}
use Rattle.machine_json.proofs.clash.first_clash.Given as goal

abbrev pub invariant-loop-target : goal.invariant-loop-target
invariant-loop-target l =
    HasLooked l.outline l.source l.targets (contains nat_cmp l.around) (contains nat_cmp l.closed) l.first l.target-index
