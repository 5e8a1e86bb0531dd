use Rattle.std.proofs.Common.{◌≡◌, ◌++◌, ◌∷◌, List, [], suc, drop, sym, ap, ◌∙◌}
use Rattle.office_types.specs.declared.office.Timer.{Timer}
use Rattle.office_types.specs.Timers.{due_by}
use Rattle.delay_queue.specs.Queue.{timers_in}
use Rattle.delay_queue.proofs.DueLemmas.{due_front, front_ends, front_goes_on, front_is_due, front_is_over, not_empty}
use Rattle.delay_queue.proofs.timers.Timers.due.Goals as goal
use Rattle.delay_queue.proofs.timers.Timers.due.Goals.{else-loop-order-test, then-loop-order-test+in_default}

pub returns-in_err-copy_timer-clause-none_due : goal.returns-in_err-copy_timer-clause-none_due
returns-in_err-copy_timer-clause-none_due c = λ none.
    let numbers = c.deref-order-items.result.now in
    let timers = c.args.self.now.timers in
    let whole : due_front c.args.moment timers numbers ≡ due_by c.args.moment timers = rw (← c.self.view_is, c.deref-order-items.ensures.value) (front_is_due c.args.moment (timers_in c.self.inside.store.items) c.self.inside.by_due.items c.self.invariant.indexes.due) in
    let more = front_goes_on c.args.moment timers numbers c.loop-order.order-index 0 c.in-Some.timer.now c.loop-order-test.true c.in-Some.ensures in
    absurd (not_empty c.loop-order.due.items c.in-Some.timer.now (due_front c.args.moment timers (drop (suc c.loop-order.order-index) numbers))
    (ap (λ (l : List Timer). c.loop-order.due.items ++ l) (sym more) ∙ (c.loop-order.invariant ∙ (whole ∙ none))))

pub returns-in_err-push-clause-none_due : goal.returns-in_err-push-clause-none_due
returns-in_err-push-clause-none_due c = λ none.
    let numbers = c.deref-order-items.result.now in
    let timers = c.args.self.now.timers in
    let whole : due_front c.args.moment timers numbers ≡ due_by c.args.moment timers = rw (← c.self.view_is, c.deref-order-items.ensures.value) (front_is_due c.args.moment (timers_in c.self.inside.store.items) c.self.inside.by_due.items c.self.invariant.indexes.due) in
    let more = front_goes_on c.args.moment timers numbers c.loop-order.order-index 0 c.in-Some.timer.now c.loop-order-test.true c.in-Some.ensures in
    absurd (not_empty c.loop-order.due.items c.in-Some.timer.now (due_front c.args.moment timers (drop (suc c.loop-order.order-index) numbers))
    (ap (λ (l : List Timer). c.loop-order.due.items ++ l) (sym more) ∙ (c.loop-order.invariant ∙ (whole ∙ none))))

all_copied : (due rest : List Timer) → rest ≡ [] → due ≡ due ++ rest
all_copied [] rest e = sym e
all_copied (timer ∷ due) rest e = ap (λ (l : List Timer). timer ∷ l) (all_copied due rest e)

pub returns-clause-due : goal.returns-clause-due
returns-clause-due c =
    let numbers = c.deref-order-items.result.now in
    let timers = c.args.self.now.timers in
    let index = c.loop-order.order-index in
    let whole : due_front c.args.moment timers numbers ≡ due_by c.args.moment timers = rw (← c.self.view_is, c.deref-order-items.ensures.value) (front_is_due c.args.moment (timers_in c.self.inside.store.items) c.self.inside.by_due.items c.self.invariant.indexes.due) in
    let over : due_front c.args.moment timers (drop index numbers) ≡ [] =
    elim c.loop-order-test.branch [
      | else-loop-order-test w ↦ front_is_over c.args.moment timers numbers index w.loop-order-test.false
      | then-loop-order-test+in_default w ↦ front_ends c.args.moment timers numbers index 0 w.loop-order-test.true w.in_default.ensures
    ] in
    c.from_vec.ensures ∙ (all_copied c.loop-order.due.items (due_front c.args.moment timers (drop index numbers)) over ∙ (c.loop-order.invariant ∙ whole))
