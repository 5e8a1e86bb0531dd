use Rattle.std.proofs.Common.{◌≡◌, filter, rules}
use Rattle.std.proofs.lemmas.Fn.{filter_same}
use Rattle.office_books.proofs.SlotLemmas.{is_filled, same_items, slots_filter}
use Rattle.office_books.proofs.slots.Slots.reserve.Goals as goal
use Rattle.office_books.proofs.slots.Slots.reserve.Goals.{then-self-len, else-self-len}

pub invariant_of-self : goal.invariant_of-self
invariant_of-self g c =
    let slots = c.self.inside.slots.items in
    let filled = c.self.inside.filled in
    rw c.reserve.ensures.items (
    elim c.if-self-len.branch [
      | then-self-len w ↦
          let kept : w.retain.new.self.items ≡ filter is_filled slots = filter_same _ is_filled _ (λ x b f called. search rules) slots _ w.retain.ensures.filtered in
          rw (w.self-inside-is, kept) (slots_filter slots filled c.self.invariant)
      | else-self-len w ↦ rw w.self-inside-is c.self.invariant
    ]
    )

pub returns-clause-items : goal.returns-clause-items
returns-clause-items g c =
    let slots = c.self.inside.slots.items in
    rw (c.reserve.ensures.items, ← c.self.view_is) (
    elim c.if-self-len.branch [
      | then-self-len w ↦
          let kept : w.retain.new.self.items ≡ filter is_filled slots = filter_same _ is_filled _ (λ x b f called. search rules) slots _ w.retain.ensures.filtered in
          rw (w.self-inside-is, kept) (same_items slots)
      | else-self-len w ↦ rw w.self-inside-is
    ]
    )
