use Rattle.std.proofs.Common.{◌<◌, sym, ◌∙◌, arith}
use Rattle.std.specs.List.{All}
use Rattle.office_types.specs.declared.office.Timer.{Timer}
use Rattle.std.proofs.lemmas.Cmp.{nat_list_cmp_total}
use Rattle.office_books.proofs.KeyIndexLemmas.{held_at, none_is_some}
use Rattle.office_books.proofs.SortedLemmas.{within_gap}
use Rattle.delay_queue.specs.TimerKeys.{due_key, due_key_in, owner_key_in, IsDueAt, IsDueGap, IsOwnerAt, IsOwnerGap, keyed, owner_key_of}
use Rattle.delay_queue.specs.Queue.{timers_in}
use Rattle.delay_queue.proofs.NumberedLemmas.{newer_by_number, numbered_push, timers_push}
use Rattle.delay_queue.proofs.QueueLemmas.{indexes_with, new_due}
use Rattle.delay_queue.proofs.timers.Timers.add.Goals as goal

pub unreachable-requires : goal.unreachable-requires
unreachable-requires c =
    let timers = timers_in c.self.inside.store.items in
    let by_due = c.self.inside.by_due.items in
    let timer = c.args.timer in
    let newer : All (λ (other : Timer). other.order < timer.order) timers = rw (← c.self.view_is) at c.requires.newer in
    let at : IsDueAt timers by_due timer.due timer.order c.in_default.field-0 = rw (← c.as_slice.ensures.value) c.in_default.ensures.found in
    none_is_some (sym (new_due timers timer.due timer.order newer) ∙ held_at (keyed due_key timers) by_due c.self.invariant.indexes.due (due_key timer) c.in_default.field-0 0 at)

pub unreachable-requires-in_default-search_owner : goal.unreachable-requires-in_default-search_owner
unreachable-requires-in_default-search_owner c =
    let timers = timers_in c.self.inside.store.items in
    let by_owner = c.self.inside.by_owner.items in
    let timer = c.args.timer in
    let new_id = rw (← c.self.view_is) at c.requires.new_id in
    let at : IsOwnerAt timers by_owner timer.owner timer.id timer.order c.in_default-search_owner.field-0 =
    rw (← c.as_slice-2.ensures.value, ← c.id_of-id.ensures) c.in_default-search_owner.ensures.found in
    none_is_some (sym new_id ∙ held_at (keyed owner_key_of timers) by_owner c.self.invariant.indexes.owner (owner_key_of timer) c.in_default-search_owner.field-0 0 at)

pub insert-requires : goal.insert-requires
insert-requires c =
    let timers = timers_in c.self.inside.store.items in
    let by_due = c.self.inside.by_due.items in
    let gap : IsDueGap timers by_due c.args.timer.due c.args.timer.order c.in-Err.rank = rw (← c.as_slice.ensures.value) c.in-Err.ensures.absent in
    let within = within_gap nat_list_cmp_total (due_key_in timers) by_due (due_key c.args.timer) c.in-Err.rank gap in
    omega (arith, within, c.self.inside.by_due.ok.0)

pub insert-requires-2 : goal.insert-requires-2
insert-requires-2 c =
    let timers = timers_in c.self.inside.store.items in
    let by_owner = c.self.inside.by_owner.items in
    let gap : IsOwnerGap timers by_owner c.args.timer.owner c.args.timer.id c.args.timer.order c.in-Err-search_owner.place =
    rw (← c.as_slice-2.ensures.value, ← c.id_of-id.ensures) c.in-Err-search_owner.ensures.absent in
    let within = within_gap nat_list_cmp_total (owner_key_in timers) by_owner (owner_key_of c.args.timer) c.in-Err-search_owner.place gap in
    omega (arith, within, c.self.inside.by_owner.ok.0)

pub invariant_of-self : goal.invariant_of-self
invariant_of-self c =
    let timers = timers_in c.self.inside.store.items in
    let by_due = c.self.inside.by_due.items in
    let by_owner = c.self.inside.by_owner.items in
    let timer = c.args.timer in
    let newer : All (λ (other : Timer). other.order < timer.order) timers = rw (← c.self.view_is) at c.requires.newer in
    let room = rw (← c.self.view_is) at c.requires.room in
    let due_gap : IsDueGap timers by_due timer.due timer.order c.in-Err.rank = rw (← c.as_slice.ensures.value) c.in-Err.ensures.absent in
    let owner_gap : IsOwnerGap timers by_owner timer.owner timer.id timer.order c.in-Err-search_owner.place =
    rw (← c.as_slice-2.ensures.value, ← c.id_of-id.ensures) c.in-Err-search_owner.ensures.absent in
    let due_ok = c.insert.ensures.succeeds (omega (arith, room)) in
    let owner_ok = c.insert-2.ensures.succeeds (omega (arith, room)) in
    rw (c.push.ensures.items, c.insert.ensures.items, due_ok, c.insert-2.ensures.items, owner_ok) (record {
      numbered = numbered_push c.self.inside.store.items timer c.self.invariant.numbered;
      indexes = rw (timers_push c.self.inside.store.items timer.order timer)
          (indexes_with timers by_due by_owner c.self.invariant.indexes timer newer c.in-Err.rank c.in-Err-search_owner.place due_gap owner_gap);
    })

pub push-requires-clause-newer : goal.push-requires-clause-newer
push-requires-clause-newer c =
    let timers = timers_in c.self.inside.store.items in
    let newer : All (λ (other : Timer). other.order < c.args.timer.order) timers = rw (← c.self.view_is) at c.requires.newer in
    newer_by_number c.args.timer.order c.self.inside.store.items c.self.invariant.numbered newer

pub returns-clause-timers : goal.returns-clause-timers
returns-clause-timers c = rw (c.push.ensures.items, ← c.self.view_is) (timers_push c.self.inside.store.items c.args.timer.order c.args.timer)
