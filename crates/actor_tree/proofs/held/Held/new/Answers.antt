use Rattle.std.proofs.Common.{refl}
use Rattle.std.specs.List.Sorted.{IsStrictlySortedBy}
use Rattle.actor_tree.proofs.held.Held.new.Goals as goal

pub invariant_of-result : goal.invariant_of-result
unfolding IsStrictlySortedBy
invariant_of-result c =
    rw (c.new.ensures, c.new-2.ensures, c.new-3.ensures, c.new-4.ensures)
    (record { numbers_rise = tt; active = refl; waiting = refl; items_open = refl; numbered = tt; actors_given = tt; holders_given = tt; timers_given = tt })
