use Rattle.std.proofs.Common.{◌≡◌, Some}
use Rattle.delay_queue.specs.TimerKeys.{IsOwnerAt, IsOwnerGap}
use Rattle.delay_queue.specs.Queue.{timers_in}
use Rattle.delay_queue.proofs.QueueLemmas.{cancelled, not_there}
use Rattle.delay_queue.proofs.timers.Timers.cancel.Goals as goal

pub returns-in-Ok-clause-timers : goal.returns-in-Ok-clause-timers
returns-in-Ok-clause-timers c =
    let timers = timers_in c.self.inside.store.items in
    let by_owner = c.self.inside.by_owner.items in
    let at : IsOwnerAt timers by_owner c.args.owner (Some c.args.id.now) 0 c.in-Ok.rank = rw (← c.as_slice.ensures.value) c.in-Ok.ensures.found in
    let order : c.index-order.result.now ≡ _ = c.index-order.ensures in
    rw (c.remove.ensures.timers, order, ← c.self.view_is) (cancelled timers c.self.inside.by_due.items by_owner c.self.invariant.indexes c.args.owner c.args.id.now c.in-Ok.rank c.index-order.result.now at)

pub returns-in_default-clause-timers : goal.returns-in_default-clause-timers
returns-in_default-clause-timers c =
    let timers = timers_in c.self.inside.store.items in
    let by_owner = c.self.inside.by_owner.items in
    let gap : IsOwnerGap timers by_owner c.args.owner (Some c.args.id.now) 0 c.in_default.field-0 = rw (← c.as_slice.ensures.value) c.in_default.ensures.absent in
    rw (← c.self.view_is) (not_there timers c.self.inside.by_due.items by_owner c.self.invariant.indexes c.args.owner c.args.id.now c.in_default.field-0 gap)
