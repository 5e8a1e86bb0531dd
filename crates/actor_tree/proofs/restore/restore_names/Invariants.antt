use Rattle.std.proofs.Common.{◌≡◌, take}
use Rattle.actor_tree.proofs.restore.restore_names.Given as goal

abbrev pub invariant-loop-name : goal.invariant-loop-name
invariant-loop-name l = l.made.names ≡ take l.name-index l.names
