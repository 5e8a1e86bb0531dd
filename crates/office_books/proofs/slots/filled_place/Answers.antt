use Rattle.std.proofs.Common.{◌≡◌, true, false, get_or, sym, ap, ◌∙◌}
use Rattle.std.specs.Option.{is_some}
use Rattle.std.proofs.lemmas.List.{get_or_read}
use Rattle.office_books.specs.declared.slots.Slot.{Slot}
use Rattle.office_books.proofs.SlotLemmas.{found_slot, no_slot, none_there}
use Rattle.office_books.proofs.slots.filled_place.Goals as goal

pub returns-in-Ok : goal.returns-in-Ok
returns-in-Ok g c =
    let slots = c.args.slots.now in
    let there = c.index-slots-place.result in
    let filled : is_some (get_or slots c.in-Ok.place there).item ≡ true = sym c.is_some.ensures ∙ c.if-is_some.true in
    record {
      some = record {
        within = c.in-Ok.ensures.within;
        at = c.in-Ok.ensures.found;
        filled = λ other. ap (λ (slot : Slot g.row.T.Denot). is_some slot.item) (sym (get_or_read slots c.in-Ok.place there c.in-Ok.ensures.within c.index-slots-place.is other) ∙ c.index-slots-place.is) ∙ filled;
      };
      none = tt;
    }

pub returns-in_default : goal.returns-in_default
returns-in_default g c =
    let slots = c.args.slots.now in
    let there = c.index-slots-place.result in
    let empty : is_some (get_or slots c.in-Ok.place there).item ≡ false = sym c.is_some.ensures ∙ c.if-is_some.false in
    record { some = tt; none = found_slot slots c.args.number c.in-Ok.place there c.in-Ok.ensures.found ∙ none_there (get_or slots c.in-Ok.place there).item empty }

pub returns-in_default-2-clause-none : goal.returns-in_default-2-clause-none
returns-in_default-2-clause-none g c = no_slot c.args.slots.now c.args.number _ c.in_default.ensures.absent
