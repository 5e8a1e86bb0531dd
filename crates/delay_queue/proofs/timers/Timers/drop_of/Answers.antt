use Rattle.std.proofs.Common.{◌∙◌, arith}
use Rattle.delay_queue.specs.Queue.{is_owned}
use Rattle.delay_queue.proofs.QueueLemmas.{shorter, skipped}
use Rattle.delay_queue.proofs.timers.Timers.drop_of.Goals as goal

pub loop-order-preserved : goal.loop-order-preserved
loop-order-preserved c =
    let one = c.in-Some.ensures.some in
    record {
      same_others = rw c.remove.ensures.timers (skipped (is_owned c.args.actor) c.in-Some.order c.loop-order.self.timers one.passes ∙ c.loop-order.invariant.same_others);
      keeps_room = omega (arith, c.loop-order.invariant.keeps_room, c.remove.ensures.keeps_room);
    }

pub loop-order-smaller : goal.loop-order-smaller
loop-order-smaller c =
    let one = c.in-Some.ensures.some in
    rw c.remove.ensures.timers (shorter c.in-Some.order c.loop-order.self.timers one.timer one.is_in one.has_number)

pub returns-clause-timers : goal.returns-clause-timers
returns-clause-timers c = c.in_default.ensures.none ∙ c.loop-order.invariant.same_others
