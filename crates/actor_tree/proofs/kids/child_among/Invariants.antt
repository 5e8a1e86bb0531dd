use Rattle.std.proofs.Common.{◌≡◌, bytes_eq, drop}
use Rattle.std.specs.Map.{lookup}
use Rattle.actor_tree.proofs.kids.child_among.Given as goal

abbrev pub invariant-loop-other : goal.invariant-loop-other
invariant-loop-other l = lookup (bytes_eq l.id) (drop l.other-index l.kids) ≡ lookup (bytes_eq l.id) l.kids
