use Rattle.std.proofs.Common.{◌≡◌, ℕ, Option, None, Some, IfNone, slice_get}
use Rattle.office_types.specs.declared.office.Timer.{Timer}
use Rattle.delay_queue.specs.Queue.{due_of, timer_of, timers_in}
use Rattle.delay_queue.proofs.DueLemmas.{first_found, first_left, none_first}
use Rattle.delay_queue.proofs.timers.Timers.first_due.Goals as goal

for_none : {P : Type 0} (r : Option ℕ) → P → IfNone r P
for_none None holds = holds
for_none (Some order) holds = tt

pub returns-in_err-order-clause-none : goal.returns-in_err-order-clause-none
returns-in_err-order-clause-none c =
    let by_due = c.self.inside.by_due.items in
    let nothing : ◌≡◌ {A = Option ℕ} None (slice_get by_due 0) = rw (← c.deref.ensures.value) c.in_err-order.ensures.value in
    for_none c.from_residual.result (rw (← c.self.view_is) (none_first c.args.moment (timers_in c.self.inside.store.items) by_due c.self.invariant.indexes.due nothing))

pub returns-in-Some-clause-some : goal.returns-in-Some-clause-some
returns-in-Some-clause-some c =
    let by_due = c.self.inside.by_due.items in
    let order = c.in_ok-order.field-0.now in
    let first : Some order ≡ slice_get by_due 0 = rw (← c.deref.ensures.value) c.in_ok-order.ensures.value in
    let due : Some c.in-Some.field-0.now ≡ due_of c.args.moment (timer_of order (timers_in c.self.inside.store.items)) = rw (← c.self.view_is) at c.in-Some.ensures in
    rw (← c.self.view_is) (first_found c.args.moment (timers_in c.self.inside.store.items) by_due c.self.invariant.indexes.due order first c.in-Some.field-0.now due)

pub returns-in-None-clause-none : goal.returns-in-None-clause-none
returns-in-None-clause-none c =
    let by_due = c.self.inside.by_due.items in
    let order = c.in_ok-order.field-0.now in
    let first : Some order ≡ slice_get by_due 0 = rw (← c.deref.ensures.value) c.in_ok-order.ensures.value in
    let nothing : ◌≡◌ {A = Option Timer} None (due_of c.args.moment (timer_of order (timers_in c.self.inside.store.items))) = rw (← c.self.view_is) at c.in-None.ensures in
    rw (← c.self.view_is) (first_left c.args.moment (timers_in c.self.inside.store.items) by_due c.self.invariant.indexes.due order first nothing)
