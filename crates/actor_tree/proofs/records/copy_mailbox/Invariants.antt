use Rattle.std.proofs.Common.{◌≡◌, ◌++◌}
use Rattle.std.specs.VecDeque.Iter.{deque_iter_rest}
use Rattle.actor_tree.proofs.records.copy_mailbox.Given as goal

abbrev pub invariant-loop-letter : goal.invariant-loop-letter
invariant-loop-letter l = l.copies.items ++ deque_iter_rest l.letter-iterator ≡ l.mailbox.items
