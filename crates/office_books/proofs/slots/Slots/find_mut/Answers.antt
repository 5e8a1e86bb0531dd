use Rattle.std.proofs.Common.{◌≡◌, true, None, sym, ap, ◌∙◌, inl, inr}
use Rattle.std.specs.Option.{is_some}
use Rattle.std.proofs.Math.Path.{fun_ext}
use Rattle.office_books.specs.Books.{vec_room}
use Rattle.office_books.specs.NumberedItems.{numbered_item}
use Rattle.office_books.specs.Slots.{HoldsItem, in_slots}
use Rattle.office_books.specs.declared.slots.Slot.{Slot}
use Rattle.office_books.proofs.SlotLemmas.{found_slot, items_refilled, slots_refilled}
use Rattle.office_books.proofs.slots.Slots.find_mut.Goals as goal

pub item_mut-requires : goal.item_mut-requires
item_mut-requires g c =
    let slots = c.self.inside.slots.items in
    let there = c.index_mut.result.now in
    let holds : HoldsItem c.args.number slots c.in-Some.place = rw (← c.as_slice.ensures.value) c.in-Some.ensures.some in
    ap (λ (slot : Slot g.row.T.Denot). is_some slot.item) c.index_mut.ensures.value ∙ holds.filled there

pub invariant_of-self-lent : goal.invariant_of-self-lent
invariant_of-self-lent g c w =
    let slots = c.self.inside.slots.items in
    let there = c.index_mut.result.now in
    let holds : HoldsItem c.args.number slots c.in-Some.place = rw (← c.as_slice.ensures.value) c.in-Some.ensures.some in
    slots_refilled slots c.in-Some.place there there c.index_mut.ensures.value (ap (λ (slot : Slot g.row.T.Denot). is_some slot.item) c.index_mut.ensures.value ∙ holds.filled there) w c.self.inside.filled c.self.invariant holds.within

pub returns-in-Some : goal.returns-in-Some
returns-in-Some g c =
    let slots = c.self.inside.slots.items in
    let there = c.index_mut.result.now in
    let holds : HoldsItem c.args.number slots c.in-Some.place = rw (← c.as_slice.ensures.value) c.in-Some.ensures.some in
    let some : is_some there.item ≡ true = ap (λ (slot : Slot g.row.T.Denot). is_some slot.item) c.index_mut.ensures.value ∙ holds.filled there in (
      ap (λ f. inl (c.item_mut.result.ghost_name, f))
          (fun_ext (λ w. rw (← c.self.view_is) (ap (λ l. record { items = l; spare = vec_room c.self.inside.slots }) (items_refilled slots c.in-Some.place there there c.index_mut.ensures.value some w c.args.number holds.at)))),
      record {
        writes_back = tt;
        value = rw (← c.self.view_is)
            (sym (found_slot slots c.args.number c.in-Some.place there holds.at ∙ (ap (λ (slot : Slot g.row.T.Denot). slot.item) (sym c.index_mut.ensures.value) ∙ c.item_mut.ensures.value)));
      },
    )

pub returns-in-None : goal.returns-in-None
returns-in-None g c =
    let slots = c.self.inside.slots.items in
    let none : numbered_item c.args.number (in_slots slots) ≡ None = rw (← c.as_slice.ensures.value) c.in-None.ensures.none in
    (ap inr c.self.view_is, record { writes_back = tt; value = rw (← c.self.view_is) (sym none) })
