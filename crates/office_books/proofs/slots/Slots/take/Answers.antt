use Rattle.std.proofs.Common.{◌≡◌, None, sym, ap, ◌∙◌}
use Rattle.office_books.specs.NumberedItems.{numbered_item}
use Rattle.office_books.specs.Slots.{HoldsItem, in_slots}
use Rattle.office_books.specs.declared.slots.Slot.{Slot}
use Rattle.office_books.proofs.SlotLemmas.{emptied, found_slot, none_kept, slots_emptied, some_filled}
use Rattle.office_books.proofs.slots.Slots.take.Goals as goal

pub returns-in_err-place-clause-item : goal.returns-in_err-place-clause-item
returns-in_err-place-clause-item g c =
    let slots = c.self.inside.slots.items in
    let none : numbered_item c.args.number (in_slots slots) ≡ None = rw (← c.as_slice.ensures.value) c.in_err-place.ensures.none in
    rw (c.from_residual.ensures, ← c.self.view_is) (sym none)

pub returns-in_err-place-clause-items : goal.returns-in_err-place-clause-items
returns-in_err-place-clause-items g c =
    let slots = c.self.inside.slots.items in
    let none : numbered_item c.args.number (in_slots slots) ≡ None = rw (← c.as_slice.ensures.value) c.in_err-place.ensures.none in
    rw (← c.self.view_is) (none_kept c.args.number (in_slots slots) none)

pub overflow_sub-self : goal.overflow_sub-self
overflow_sub-self g c =
    let slots = c.self.inside.slots.items in
    let holds : HoldsItem c.args.number slots c.in_ok-place.place = rw (← c.as_slice.ensures.value) c.in_ok-place.ensures.some in
    some_filled slots c.self.inside.filled c.args.number c.in_ok-place.place c.self.invariant holds

pub invariant_of-self : goal.invariant_of-self
invariant_of-self g c =
    let slots = c.self.inside.slots.items in
    let there = c.index_mut.result.now in
    let holds : HoldsItem c.args.number slots c.in_ok-place.place = rw (← c.as_slice.ensures.value) c.in_ok-place.ensures.some in
    rw c.take.ensures.after (slots_emptied slots c.self.inside.filled c.args.number c.in_ok-place.place c.self.invariant holds there c.index_mut.ensures.value)

pub returns-clause-item : goal.returns-clause-item
returns-clause-item g c =
    let slots = c.self.inside.slots.items in
    let there = c.index_mut.result.now in
    let holds : HoldsItem c.args.number slots c.in_ok-place.place = rw (← c.as_slice.ensures.value) c.in_ok-place.ensures.some in
    rw (← c.self.view_is)
    (c.take.ensures.value ∙ (ap (λ (slot : Slot g.row.T.Denot). slot.item) c.index_mut.ensures.value ∙ sym (found_slot slots c.args.number c.in_ok-place.place there holds.at)))

pub returns-clause-items : goal.returns-clause-items
returns-clause-items g c =
    let slots = c.self.inside.slots.items in
    let holds : HoldsItem c.args.number slots c.in_ok-place.place = rw (← c.as_slice.ensures.value) c.in_ok-place.ensures.some in
    rw (c.take.ensures.after, ← c.self.view_is) (emptied slots c.args.number c.in_ok-place.place c.index_mut.result.now.number holds.at)
