use Rattle.std.specs.BTreeSet.{contains}
use Rattle.std.specs.Ordering.{nat_cmp}
use Rattle.machine_json.proofs.WalkLemmas.{HasWalked}
use Rattle.machine_json.proofs.clash.reach.Given as goal

abbrev pub invariant-loop-parent : goal.invariant-loop-parent
invariant-loop-parent l =
    HasWalked l.outline (contains nat_cmp l.fn.around) (contains nat_cmp l.fn.closed) (contains nat_cmp l.around) (contains nat_cmp l.closed) l.node l.at

abbrev pub decreases-loop-parent : goal.decreases-loop-parent
decreases-loop-parent l = l.at
