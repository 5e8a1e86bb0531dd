use Rattle.std.proofs.Common.{refl}
use Rattle.actor_tree.proofs.events.fault_error.Goals as goal

pub returns : goal.returns
returns c = rw (c.in_ok-put.ensures, c.new-fields.ensures, c.in_ok-text.ensures, c.fault_text.ensures) refl
