use Rattle.std.proofs.Common.{refl, not, ◌<◌}
use Rattle.std.specs.Prelude.{nat_le}
use Rattle.office_types.specs.declared.office.Timer.{Timer}
use Rattle.actor_tree.proofs.HeldLemmas.{all_passing, held_with_timers}
use Rattle.actor_tree.proofs.held.Held.advance.Goals as goal

pub invariant_of-self : goal.invariant_of-self
invariant_of-self c =
    let inside = c.self.inside in
    let next = inside.counts.next_timer in
    rw c.take_due.ensures.timers
    (held_with_timers inside.actors.items inside.actors.items inside.names.names inside.timers.timers inside.items.items inside.counts c.self.invariant _ c.args.moment next refl
    (all_passing (λ (timer : Timer). timer.order < next) (λ (timer : Timer). not (nat_le timer.due c.args.moment)) inside.timers.timers c.self.invariant.timers_given))
