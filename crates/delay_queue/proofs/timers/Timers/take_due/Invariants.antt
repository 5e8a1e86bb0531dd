use Rattle.std.proofs.Common.{◌≡◌, ◌≤◌, length}
use Rattle.office_types.specs.Timers.{not_due}
use Rattle.delay_queue.proofs.timers.Timers.take_due.Given as goal

abbrev pub invariant-loop-order : goal.invariant-loop-order
invariant-loop-order l = record {
  same_others : not_due l.moment l.self.timers ≡ not_due l.moment l.fn.self.timers;
  keeps_room : l.fn.self.spare ≤ l.self.spare;
}

abbrev pub decreases-loop-order : goal.decreases-loop-order
decreases-loop-order l = length l.self.timers
