use Rattle.std.proofs.Common.{ℕ, ◌+◌, ◌<◌, get_or}
use Rattle.office_types.specs.declared.office.Timer.{Timer}
use Rattle.snapshot_text.proofs.validity.timers.do_timers_rise.Given as goal

abbrev pub invariant-loop-place : goal.invariant-loop-place
invariant-loop-place l = (k : ℕ) (d : Timer) → k + 1 < l.place → (get_or l.timers k d).order < (get_or l.timers (k + 1) d).order
