use Rattle.std.proofs.Common.{◌≡◌, ◌≤◌, length}
use Rattle.office_types.specs.Timers.{without_owner}
use Rattle.delay_queue.proofs.timers.Timers.drop_of.Given as goal

abbrev pub invariant-loop-order : goal.invariant-loop-order
invariant-loop-order l = record {
  same_others : without_owner l.actor l.self.timers ≡ without_owner l.actor l.fn.self.timers;
  keeps_room : l.fn.self.spare ≤ l.self.spare;
}

abbrev pub decreases-loop-order : goal.decreases-loop-order
decreases-loop-order l = length l.self.timers
