use Rattle.std.proofs.Common.{◌≡◌, take}
use Rattle.actor_tree.proofs.restore.restore_timers.Given as goal

abbrev pub invariant-loop-timer : goal.invariant-loop-timer
invariant-loop-timer l = l.made.timers ≡ take l.timer-index l.timers
