use Rattle.std.proofs.Common.{◌≡◌, take}
use Rattle.action_table.proofs.copies.copy_tree.Given as goal

abbrev pub invariant-loop-n : goal.invariant-loop-n
invariant-loop-n l = l.rows.items ≡ take l.n l.tree
