use Rattle.std.proofs.Common.{◌∷◌, [], sym}
use Rattle.office_books.proofs.KeyIndexLemmas.{stands}
use Rattle.delay_queue.specs.TimerKeys.{due_key, IsDueAt, IsDueGap, IsOwnerAt, IsOwnerGap, keyed, owner_key, owner_key_of}
use Rattle.delay_queue.specs.Queue.{timers_in}
use Rattle.delay_queue.proofs.NumberedLemmas.{numbered_without, same_without}
use Rattle.delay_queue.proofs.QueueLemmas.{has_due, has_owner, indexes_without, none_kept}
use Rattle.delay_queue.proofs.timers.Timers.remove.Goals as goal

pub returns-in_default-clause-timers : goal.returns-in_default-clause-timers
returns-in_default-clause-timers c = rw (← c.self.view_is) (none_kept (timers_in c.self.inside.store.items) c.args.order (sym c.in_default.ensures))

pub unreachable-requires : goal.unreachable-requires
unreachable-requires c =
    let timers = timers_in c.self.inside.store.items in
    let by_due = c.self.inside.by_due.items in
    let timer = c.in-Some.timer.now in
    let gap : IsDueGap timers by_due timer.due c.args.order c.in_default-search_due.field-0 = rw (← c.as_slice.ensures.value) c.in_default-search_due.ensures.absent in
    stands (keyed due_key timers) by_due c.self.invariant.indexes.due (timer.due ∷ c.args.order ∷ []) c.in_default-search_due.field-0 c.args.order
    (has_due timers by_due c.self.inside.by_owner.items c.self.invariant.indexes c.args.order timer (sym c.in-Some.ensures)) gap

pub unreachable-requires-in_default-search_owner : goal.unreachable-requires-in_default-search_owner
unreachable-requires-in_default-search_owner c =
    let timers = timers_in c.self.inside.store.items in
    let by_owner = c.self.inside.by_owner.items in
    let timer = c.in-Some.timer.now in
    let gap : IsOwnerGap timers by_owner timer.owner timer.id c.args.order c.in_default-search_owner.field-0 =
    rw (← c.as_slice-2.ensures.value, ← c.id_of-id.ensures) c.in_default-search_owner.ensures.absent in
    stands (keyed owner_key_of timers) by_owner c.self.invariant.indexes.owner (owner_key timer.owner timer.id c.args.order) c.in_default-search_owner.field-0 c.args.order
    (has_owner timers c.self.inside.by_due.items by_owner c.self.invariant.indexes c.args.order timer (sym c.in-Some.ensures)) gap

pub invariant_of-self : goal.invariant_of-self
invariant_of-self c =
    let timers = timers_in c.self.inside.store.items in
    let by_due = c.self.inside.by_due.items in
    let by_owner = c.self.inside.by_owner.items in
    let timer = c.in-Some.timer.now in
    let due_at : IsDueAt timers by_due timer.due c.args.order c.in-Ok.rank = rw (← c.as_slice.ensures.value) c.in-Ok.ensures.found in
    let owner_at : IsOwnerAt timers by_owner timer.owner timer.id c.args.order c.in-Ok-search_owner.place =
    rw (← c.as_slice-2.ensures.value, ← c.id_of-id.ensures) c.in-Ok-search_owner.ensures.found in
    rw (c.take.ensures.items, c.remove.ensures.items, c.remove-2.ensures.items) (record {
      numbered = numbered_without c.args.order c.self.inside.store.items c.self.invariant.numbered;
      indexes = rw (same_without c.args.order c.self.inside.store.items c.self.invariant.numbered)
          (indexes_without timers by_due by_owner c.self.invariant.indexes c.args.order timer (sym c.in-Some.ensures) c.in-Ok.rank c.in-Ok-search_owner.place due_at owner_at);
    })

pub returns-clause-timers : goal.returns-clause-timers
returns-clause-timers c = rw (c.take.ensures.items, ← c.self.view_is) (same_without c.args.order c.self.inside.store.items c.self.invariant.numbered)
