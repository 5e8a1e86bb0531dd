use Rattle.std.proofs.Common.{◌+◌, ◌-◌, List, ap, arith}
use Rattle.flat_core.specs.Office.{Actor, Office}
use Rattle.flat_core.proofs.QueueLemmas.{given-within, queue-post, actors_from-post}
use Rattle.flat_core.proofs.office.Core.post.Goals as goal

pub invariant_of-self : goal.invariant_of-self
invariant_of-self c =
    let queued = rw c.unwrap.ensures at c.push_back.ensures.items in
    let within = given-within c.self.inside.flat_actors.items c.self.inside.queue.items c.self.inside.next_letter c.args.actor (rw (← c.self.view_is) at c.requires.given) in
    rw queued (queue-post c.self.inside.flat_actors.items c.self.inside.queue.items _ c.self.inside.next_letter (omega arith) within.0 within.1 c.self.invariant)

pub returns-clause-office : goal.returns-clause-office
returns-clause-office c =
    let queued = rw c.unwrap.ensures at c.push_back.ensures.items in
    let within = given-within c.self.inside.flat_actors.items c.self.inside.queue.items c.self.inside.next_letter c.args.actor (rw (← c.self.view_is) at c.requires.given) in
    let with_actors : List Actor → Office = λ actors. record { actors = actors; next_letter = c.self.inside.next_letter + 1 } in
    rw (queued, ← c.self.view_is)
    (ap with_actors (actors_from-post 1 c.self.inside.flat_actors.items c.self.inside.queue.items _ (c.args.actor - 1) (omega arith) (omega arith)))
