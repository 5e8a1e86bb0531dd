use Rattle.std.proofs.Common.{sym}
use Rattle.delay_queue.specs.Queue.{timers_in}
use Rattle.delay_queue.proofs.QueueLemmas.{due_below, due_compared}
use Rattle.delay_queue.proofs.keys.compare_due.Goals as goal

pub returns-in-None : goal.returns-in-None
returns-in-None c = sym (due_below (timers_in c.args.store.now.items) c.args.number c.args.due c.args.order (sym c.in-None.ensures))

pub returns-in-Some : goal.returns-in-Some
returns-in-Some c =
    rw (c.then.ensures, c.cmp.ensures, c.cmp-in-Some.ensures)
    (sym (due_compared (timers_in c.args.store.now.items) c.args.number c.args.due c.args.order c.in-Some.timer.now (sym c.in-Some.ensures)))
