use Rattle.std.proofs.Common.{refl, not, ◌<◌}
use Rattle.office_types.specs.declared.office.Timer.{Timer}
use Rattle.office_types.specs.Timers.{has_id}
use Rattle.actor_tree.proofs.HeldLemmas.{all_passing, held_with_timers}
use Rattle.actor_tree.proofs.held.Held.cancel.Goals as goal

pub invariant_of-self : goal.invariant_of-self
invariant_of-self c =
    let inside = c.self.inside in
    let next = inside.counts.next_timer in
    rw c.cancel.ensures.timers
    (held_with_timers inside.actors.items inside.actors.items inside.names.names inside.timers.timers inside.items.items inside.counts c.self.invariant _ inside.counts.moment next refl
    (all_passing (λ (timer : Timer). timer.order < next) (λ (timer : Timer). not (has_id c.args.owner c.args.id.now timer)) inside.timers.timers c.self.invariant.timers_given))
