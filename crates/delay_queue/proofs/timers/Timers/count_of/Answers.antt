use Rattle.std.proofs.Common.{◌∙◌}
use Rattle.delay_queue.specs.Queue.{timers_in}
use Rattle.delay_queue.proofs.CountLemmas.{as_many}
use Rattle.delay_queue.proofs.timers.Timers.count_of.Goals as goal

pub returns : goal.returns
returns c =
    let timers = timers_in c.self.inside.store.items in
    rw (← c.self.view_is, c.count_owned.ensures, c.as_slice.ensures.value) (as_many timers c.self.inside.by_owner.items c.self.invariant.indexes.owner c.args.owner)
