use Rattle.snapshot_text.proofs.KeyLemmas.{apart_ids, ids_apart}
use Rattle.snapshot_text.proofs.validity.timers.are_timer_ids_once.Goals as goal

pub returns : goal.returns
returns c = (
  (λ once. ids_apart (λ key. (key.0, key.1.now)) c.in_ok-timer_keys.field-0.items c.args.timers.now c.in_ok-timer_keys.ensures (c.are_distinct.ensures.0 once)),
  (λ once. c.are_distinct.ensures.1 (apart_ids (λ key. (key.0, key.1.now)) c.in_ok-timer_keys.field-0.items c.args.timers.now c.in_ok-timer_keys.ensures once)),
)
