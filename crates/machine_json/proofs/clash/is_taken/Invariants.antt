use Rattle.std.specs.BTreeSet.{contains}
use Rattle.std.specs.Ordering.{nat_cmp}
use Rattle.machine_json.proofs.ReachLemmas.{HasClimbed}
use Rattle.machine_json.proofs.clash.is_taken.Given as goal

abbrev pub invariant-loop-parent : goal.invariant-loop-parent
invariant-loop-parent l =
    HasClimbed l.outline (contains nat_cmp l.around) (contains nat_cmp l.closed) l.fn.node l.at

abbrev pub decreases-loop-parent : goal.decreases-loop-parent
decreases-loop-parent l = l.at
