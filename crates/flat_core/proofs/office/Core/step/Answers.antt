use Rattle.std.proofs.Common.{◌-◌, List, ap, arith}
use Rattle.flat_core.specs.Office.{Actor, Office}
use Rattle.flat_core.proofs.QueueLemmas.{given-within, queue-step, actors-step}
use Rattle.flat_core.proofs.office.Core.step.Goals as goal

pub index_mut-flat_actor-requires : goal.index_mut-flat_actor-requires
index_mut-flat_actor-requires c =
    let within = given-within c.self.inside.flat_actors.items c.self.inside.queue.items c.self.inside.next_letter c.args.actor (rw (← c.self.view_is) at c.requires) in
    omega (arith, c.self.inside.flat_actors.ok.0)

pub invariant_of-self : goal.invariant_of-self
invariant_of-self c =
    rw c.take_letter.ensures.items (queue-step c.self.inside.flat_actors.items c.self.inside.queue.items _ c.self.inside.next_letter c.args.actor (c.args.actor - 1) c.self.invariant)

pub returns-clause-office : goal.returns-clause-office
returns-clause-office c =
    let within = given-within c.self.inside.flat_actors.items c.self.inside.queue.items c.self.inside.next_letter c.args.actor (rw (← c.self.view_is) at c.requires) in
    let with_actors : List Actor → Office = λ actors. record { actors = actors; next_letter = c.self.inside.next_letter } in
    rw (c.take_letter.ensures.items, ← c.self.view_is)
    (ap with_actors (actors-step c.self.inside.flat_actors.items c.self.inside.queue.items c.index_mut-flat_actor.result.now c.args.state c.args.actor within.0 within.1 c.index_mut-flat_actor.ensures.value))
