use Rattle.std.proofs.Common.{arith}
use Rattle.actor_tree.specs.HeldOffice.{office_with}
use Rattle.actor_tree.proofs.HeldLemmas.{held_without, same_office}
use Rattle.actor_tree.proofs.held.Held.remove.Goals as goal

pub invariant_of-self : goal.invariant_of-self
invariant_of-self c =
    let inside = c.self.inside in
    rw (c.free.ensures.names, c.drop_of.ensures.timers, c.close.ensures.items)
    (held_without inside.actors.items _ inside.names.names inside.timers.timers inside.items.items inside.counts c.self.invariant c.args.number c.take_actor-gone.ensures.taken
    _ _ (omega (arith, c.self.invariant.active, c.take_actor-gone.ensures.active)) (omega (arith, c.self.invariant.waiting, c.take_actor-gone.ensures.count)))

pub returns-clause-office : goal.returns-clause-office
returns-clause-office c =
    let inside = c.self.inside in
    rw (← c.self.view_is)
    (same_office (office_with inside.actors.items inside.names.names inside.timers.timers inside.counts) _ _ _ _ _ _ c.take_actor-gone.ensures.taken.records c.free.ensures.names c.drop_of.ensures.timers)

pub returns-clause-room : goal.returns-clause-room
returns-clause-room c =
    let taken = c.take_actor-gone.ensures.taken in
    rw (← c.self.view_is)
    (record {
      actors = omega (arith, c.take_actor-gone.ensures.keeps_room);
      names = omega (arith, c.free.ensures.keeps_room);
      items = omega (arith, c.close.ensures.keeps_room);
      timers = omega (arith, c.drop_of.ensures.keeps_room);
      letters = taken.letters;
      kids = taken.kids;
    })
