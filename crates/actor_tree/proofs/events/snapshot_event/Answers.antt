use Rattle.std.proofs.Common.{refl}
use Rattle.actor_tree.proofs.events.snapshot_event.Goals as goal

pub returns : goal.returns
returns c =
    rw (c.in_ok-put-3.ensures, c.in_ok-put-2.ensures, c.in_ok-put.ensures, c.new-fields.ensures, c.in_ok-kind.ensures, c.in_ok-actor.ensures) refl
