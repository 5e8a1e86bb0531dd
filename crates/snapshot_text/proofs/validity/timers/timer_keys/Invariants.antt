use Rattle.std.proofs.Common.{◌≡◌, map, take}
use Rattle.std.specs.List.{filter_map}
use Rattle.snapshot_text.specs.Validity.{timer_key}
use Rattle.snapshot_text.proofs.validity.timers.timer_keys.Given as goal

abbrev pub invariant-loop-timer : goal.invariant-loop-timer
invariant-loop-timer l = map (λ key. (key.0, key.1.now)) l.keys.items ≡ filter_map timer_key (take l.timer-index l.timers)
