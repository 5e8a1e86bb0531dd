use Rattle.std.proofs.Common.{◌+◌, List, ap, arith}
use Rattle.flat_core.specs.Office.{Actor, Office}
use Rattle.flat_core.proofs.QueueLemmas.{queue-begin, actors-begin}
use Rattle.flat_core.proofs.office.Core.begin.Goals as goal

pub invariant_of-self : goal.invariant_of-self
invariant_of-self c =
    let seated = rw c.unwrap.ensures at c.push.ensures.items in
    let queued = rw c.unwrap-2.ensures at c.push_back.ensures.items in
    rw (seated, queued) (queue-begin c.self.inside.flat_actors.items c.self.inside.queue.items _ _ c.self.inside.next_letter (omega arith) (omega (arith, c.len.ensures)) c.self.invariant)

pub returns-clause-office : goal.returns-clause-office
returns-clause-office c =
    let seated = rw c.unwrap.ensures at c.push.ensures.items in
    let queued = rw c.unwrap-2.ensures at c.push_back.ensures.items in
    let with_actors : List Actor → Office = λ actors. record { actors = actors; next_letter = c.self.inside.next_letter + 1 } in
    rw (seated, queued, ← c.self.view_is)
    (ap with_actors (actors-begin c.self.inside.flat_actors.items c.self.inside.queue.items _ _ c.self.inside.next_letter (omega (arith, c.len.ensures)) c.self.invariant))
