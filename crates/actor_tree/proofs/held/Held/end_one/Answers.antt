use Rattle.std.proofs.Common.{arith}
use Rattle.actor_tree.specs.HeldOffice.{no_needs, office_with}
use Rattle.actor_tree.specs.Removal.{ended_by}
use Rattle.actor_tree.proofs.EndLemmas.{end_inactive, end_item, end_number}
use Rattle.actor_tree.proofs.HeldLemmas.{held_after_end, same_office}
use Rattle.actor_tree.proofs.held.Held.end_one.Goals as goal

pub invariant_of-self : goal.invariant_of-self
invariant_of-self c =
    let inside = c.self.inside in
    let ending = c.args.ending in
    rw (c.free.ensures.names, c.drop_of.ensures.timers, c.close.ensures.items)
    (held_after_end inside.actors.items _ inside.names.names inside.timers.timers inside.items.items inside.counts c.self.invariant c.args.number (ended_by ending) no_needs c.end_actor-gone.ensures.changed
    (end_number ending) (end_item ending) (end_inactive ending)
    _ _ (omega (arith, c.self.invariant.active, c.end_actor-gone.ensures.active)) (omega (arith, c.self.invariant.waiting, c.end_actor-gone.ensures.count)))

pub returns-clause-office : goal.returns-clause-office
returns-clause-office c =
    let inside = c.self.inside in
    rw (← c.self.view_is)
    (same_office (office_with inside.actors.items inside.names.names inside.timers.timers inside.counts) _ _ _ _ _ _ c.end_actor-gone.ensures.changed.records c.free.ensures.names c.drop_of.ensures.timers)

pub returns-clause-room : goal.returns-clause-room
returns-clause-room c =
    let changed = c.end_actor-gone.ensures.changed in
    rw (← c.self.view_is)
    (record {
      actors = omega (arith, c.end_actor-gone.ensures.keeps_room);
      names = omega (arith, c.free.ensures.keeps_room);
      items = omega (arith, c.close.ensures.keeps_room);
      timers = omega (arith, c.drop_of.ensures.keeps_room);
      letters = changed.letters;
      kids = changed.kids;
    })
