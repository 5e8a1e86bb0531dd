use Rattle.std.proofs.Common.{◌<◌, ◌+◌, refl, arith}
use Rattle.std.proofs.lemmas.List.Elements.{All-from_recursion}
use Rattle.office_types.specs.declared.office.Timer.{Timer}
use Rattle.actor_tree.specs.HeldOffice.{office_with}
use Rattle.actor_tree.specs.Parts.{CanBeScheduled}
use Rattle.actor_tree.proofs.HeldLemmas.{given_scheduled, held_with_timers}
use Rattle.actor_tree.proofs.PushLemmas.{all_so}
use Rattle.actor_tree.proofs.RoomLemmas.{timer_finds_number}
use Rattle.actor_tree.proofs.held.Held.schedule.Goals as goal

pub add_timer-requires-clause-newer : goal.add_timer-requires-clause-newer
add_timer-requires-clause-newer c =
    let inside = c.self.inside in
    let next = inside.counts.next_timer in
    let fits : CanBeScheduled (office_with inside.actors.items inside.names.names inside.timers.timers inside.counts) c.args.timer = rw (← c.self.view_is) at c.requires.fits in
    All-from_recursion (λ (other : Timer). other.order < c.args.timer.order) inside.timers.timers
    (all_so (λ (other : Timer). other.order < next) (λ (other : Timer). other.order < c.args.timer.order) inside.timers.timers (λ other less. omega (arith, fits.number)) c.self.invariant.timers_given)

pub invariant_of-self : goal.invariant_of-self
invariant_of-self c =
    let inside = c.self.inside in
    let next = inside.counts.next_timer in
    let fits : CanBeScheduled (office_with inside.actors.items inside.names.names inside.timers.timers inside.counts) c.args.timer = rw (← c.self.view_is) at c.requires.fits in
    rw c.add_timer.ensures.timers
    (held_with_timers inside.actors.items inside.actors.items inside.names.names inside.timers.timers inside.items.items inside.counts c.self.invariant _ inside.counts.moment (next + 1) refl
    (given_scheduled next c.args.timer inside.timers.timers (omega (arith, fits.number)) c.self.invariant.timers_given))

pub overflow_add-self : goal.overflow_add-self
overflow_add-self c =
    let inside = c.self.inside in
    let fits : CanBeScheduled (office_with inside.actors.items inside.names.names inside.timers.timers inside.counts) c.args.timer = rw (← c.self.view_is) at c.requires.fits in
    omega (arith, timer_finds_number (office_with inside.actors.items inside.names.names inside.timers.timers inside.counts) c.args.timer fits.room)
