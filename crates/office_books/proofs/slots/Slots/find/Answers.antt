use Rattle.std.proofs.Common.{◌≡◌, None, sym, ap, ◌∙◌}
use Rattle.office_books.specs.NumberedItems.{numbered_item}
use Rattle.office_books.specs.Slots.{HoldsItem, in_slots}
use Rattle.office_books.specs.declared.slots.Slot.{Slot}
use Rattle.office_books.proofs.SlotLemmas.{found_slot}
use Rattle.office_books.proofs.slots.Slots.find.Goals as goal

pub returns-in_err-place : goal.returns-in_err-place
returns-in_err-place g c =
    let slots = c.self.inside.slots.items in
    let none : numbered_item c.args.number (in_slots slots) ≡ None = rw (← c.as_slice.ensures.value) c.in_err-place.ensures.none in
    rw (c.from_residual.ensures, ← c.self.view_is) (sym none)

pub returns : goal.returns
returns g c =
    let slots = c.self.inside.slots.items in
    let there = c.index.result.now in
    let holds : HoldsItem c.args.number slots c.in_ok-place.place = rw (← c.as_slice.ensures.value) c.in_ok-place.ensures.some in
    rw (← c.self.view_is)
    (c.as_ref.ensures.value ∙ (ap (λ (slot : Slot g.row.T.Denot). slot.item) c.index.ensures ∙ sym (found_slot slots c.args.number c.in_ok-place.place there holds.at)))
