use Rattle.std.proofs.Common.{◌≡◌, ◌++◌}
use Rattle.delay_queue.specs.Queue.{timers_in}
use Rattle.delay_queue.proofs.timers.Timers.copies.Given as goal

abbrev pub invariant-loop-timer : goal.invariant-loop-timer
invariant-loop-timer l = l.copies.items ++ timers_in l.timer-iterator ≡ l.self.timers
