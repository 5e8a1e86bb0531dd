use Rattle.std.proofs.Common.{◌≡◌, ◌++◌, drop}
use Rattle.std.specs.List.{items_where_true}
use Rattle.microstep.proofs.selection.kept.Given as goal

-- those so far, and those to come
abbrev pub invariant-loop-i : goal.invariant-loop-i
invariant-loop-i l = l.taken.items ++ items_where_true (drop l.i l.flags) (drop l.i l.picked) ≡ items_where_true l.flags l.picked
