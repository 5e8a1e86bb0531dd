use Rattle.std.proofs.Common.{option_copied, sym}
use Rattle.delay_queue.specs.Queue.{timers_in}
use Rattle.delay_queue.proofs.QueueLemmas.{owner_below, owner_compared_by}
use Rattle.delay_queue.proofs.keys.compare_owner.Goals as goal

pub returns-in-None : goal.returns-in-None
returns-in-None c = sym (owner_below (timers_in c.args.store.now.items) c.args.number c.args.owner (option_copied c.args.id) c.args.order (sym c.in-None.ensures))

pub returns-in-Some : goal.returns-in-Some
returns-in-Some c =
    rw (c.then.ensures, c.cmp.ensures, c.compare_ids.ensures, c.id_of.ensures)
    (sym (owner_compared_by (timers_in c.args.store.now.items) c.args.number c.args.owner (option_copied c.args.id) c.args.order c.in-Some.timer.now (sym c.in-Some.ensures)))
