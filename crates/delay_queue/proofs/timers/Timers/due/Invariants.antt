use Rattle.std.proofs.Common.{◌≡◌, ◌++◌, drop}
use Rattle.delay_queue.proofs.DueLemmas.{due_front}
use Rattle.delay_queue.proofs.timers.Timers.due.Given as goal

abbrev pub invariant-loop-order : goal.invariant-loop-order
invariant-loop-order l = l.due.items ++ due_front l.moment l.self.timers (drop l.order-index l.order-items) ≡ due_front l.moment l.self.timers l.order-items
