use Rattle.delay_queue.proofs.QueueLemmas.{new_id, newer_beside}
use Rattle.delay_queue.proofs.timers.Timers.schedule.Goals as goal

pub add-requires-clause-newer : goal.add-requires-clause-newer
add-requires-clause-newer c = rw (c.make_way.ensures.timers, c.reserve.ensures.timers) (newer_beside c.args.timer c.args.self.now.timers c.requires)

pub add-requires-clause-new_id : goal.add-requires-clause-new_id
add-requires-clause-new_id c = rw (c.make_way.ensures.timers, c.reserve.ensures.timers) (new_id c.args.timer c.args.self.now.timers c.requires)
