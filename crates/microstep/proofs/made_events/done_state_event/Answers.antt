use Rattle.std.proofs.Common.{refl}
use Rattle.microstep.proofs.made_events.done_state_event.Goals as goal

pub returns : goal.returns
returns c = rw (c.in_ok-put-2.ensures, c.in_ok-put.ensures, c.new-fields.ensures, c.in_ok-kind.ensures, c.as_str.ensures) refl
