use Rattle.std.proofs.Common.{IfNone, IfSome}
use Rattle.delay_queue.specs.TimerKeys.{IsNumberOf, NoneIsOf}
use Rattle.delay_queue.specs.Queue.{timers_in}
use Rattle.delay_queue.proofs.QueueLemmas.{none_found, one_found}
use Rattle.delay_queue.proofs.timers.Timers.one_of.Goals as goal

pub returns-clause-some : goal.returns-clause-some
returns-clause-some c =
    let timers = timers_in c.self.inside.store.items in
    let by_owner = c.self.inside.by_owner.items in
    let held : IfSome c.any_of.result (IsNumberOf c.args.actor timers by_owner) = rw (← c.as_slice.ensures.value) c.any_of.ensures.some in
    rw (← c.self.view_is) (one_found timers c.self.inside.by_due.items by_owner c.self.invariant.indexes c.args.actor c.any_of.result held)

pub returns-clause-none : goal.returns-clause-none
returns-clause-none c =
    let timers = timers_in c.self.inside.store.items in
    let by_owner = c.self.inside.by_owner.items in
    let nobody : IfNone c.any_of.result (NoneIsOf c.args.actor timers by_owner) = rw (← c.as_slice.ensures.value) c.any_of.ensures.none in
    rw (← c.self.view_is) (none_found timers c.self.inside.by_due.items by_owner c.self.invariant.indexes c.args.actor c.any_of.result nobody)
