use Rattle.std.proofs.Common.{ap, arith}
use Rattle.snapshot_text.proofs.KeyLemmas.{keys_push, keys_skip}
use Rattle.snapshot_text.proofs.validity.timers.timer_keys.Goals as goal

pub loop-timer-preserved-in_default : goal.loop-timer-preserved-in_default
loop-timer-preserved-in_default c =
    keys_skip (λ key. (key.0, key.1.now)) c.loop-timer.keys.items c.args.timers.now c.loop-timer.timer-index c.timer-item.result (omega arith) c.timer-item.is c.in_default.is c.loop-timer.invariant

pub loop-timer-preserved : goal.loop-timer-preserved
loop-timer-preserved c =
    keys_push (λ key. (key.0, key.1.now)) c.loop-timer.keys.items c.push.new.self.items (c.timer-item.result.owner, c.as_bytes.result) c.args.timers.now c.loop-timer.timer-index c.timer-item.result c.in-Some.id (omega arith) c.timer-item.is c.in-Some.is c.in_ok-push.ensures.items (ap (λ id. (c.timer-item.result.owner, id)) c.as_bytes.ensures) c.loop-timer.invariant
