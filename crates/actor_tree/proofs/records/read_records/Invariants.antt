use Rattle.std.proofs.Common.{◌≡◌, ◌++◌}
use Rattle.actor_tree.specs.Actors.{records_of}
use Rattle.actor_tree.proofs.records.read_records.Given as goal

abbrev pub invariant-loop-number : goal.invariant-loop-number
invariant-loop-number l = l.records.items ++ records_of l.number-iterator ≡ records_of l.actors.items
