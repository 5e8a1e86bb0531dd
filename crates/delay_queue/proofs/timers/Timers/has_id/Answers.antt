use Rattle.std.proofs.Common.{Some, IfErr, IfOk}
use Rattle.delay_queue.specs.TimerKeys.{IsOwnerAt, IsOwnerGap}
use Rattle.delay_queue.specs.Queue.{timers_in}
use Rattle.delay_queue.proofs.IdLemmas.{id_searched}
use Rattle.delay_queue.proofs.timers.Timers.has_id.Goals as goal

pub returns : goal.returns
returns c =
    let timers = timers_in c.self.inside.store.items in
    let by_owner = c.self.inside.by_owner.items in
    let at : IfOk c.search_owner.result (IsOwnerAt timers by_owner c.args.owner (Some c.args.id.now) 0) = rw (← c.as_slice-numbers.ensures.value) c.search_owner.ensures.found in
    let gap : IfErr c.search_owner.result (IsOwnerGap timers by_owner c.args.owner (Some c.args.id.now) 0) = rw (← c.as_slice-numbers.ensures.value) c.search_owner.ensures.absent in
    rw (c.is_ok.ensures.value, ← c.self.view_is) (id_searched c.args.owner c.args.id.now timers c.self.inside.by_due.items by_owner c.self.invariant.indexes c.search_owner.result at gap)
