use Rattle.std.proofs.Common.{◌≡◌, drop}
use Rattle.actor_tree.specs.Kids.{and_numbers}
use Rattle.actor_tree.proofs.kids.add_numbers.Given as goal

abbrev pub invariant-loop-child : goal.invariant-loop-child
invariant-loop-child l = and_numbers l.numbers.keys (drop l.child-index l.kids) ≡ and_numbers l.fn.numbers.keys l.kids
