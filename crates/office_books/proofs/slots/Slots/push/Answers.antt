use Rattle.std.proofs.Common.{ℕ, ◌<◌, arith}
use Rattle.std.specs.List.{All}
use Rattle.office_books.specs.Slots.{BeginsAt, in_slots}
use Rattle.office_books.proofs.SlotLemmas.{count_within, slots_with, with_pair}
use Rattle.office_books.proofs.slots.Slots.push.Goals as goal

pub overflow_add-self : goal.overflow_add-self
overflow_add-self g c = omega (arith, count_within c.self.inside.slots.items, c.self.invariant.counted)

pub invariant_of-self : goal.invariant_of-self
invariant_of-self g c =
    let slots = c.self.inside.slots.items in
    let newer : All (λ (pair : ℕ × g.row.T.Denot). pair.0 < c.args.number) (in_slots slots) = rw (← c.self.view_is) at c.requires.newer in
    let begins : BeginsAt c.args.number c.beginning_of-end.result slots = rw (← c.as_slice.ensures.value) c.beginning_of-end.ensures in
    rw (c.push_reserved.ensures.items, c.truncate.ensures.items) (slots_with slots c.self.inside.filled c.self.invariant c.args.number c.args.item newer c.beginning_of-end.result begins)

pub returns-clause-items : goal.returns-clause-items
returns-clause-items g c =
    let slots = c.self.inside.slots.items in
    let newer : All (λ (pair : ℕ × g.row.T.Denot). pair.0 < c.args.number) (in_slots slots) = rw (← c.self.view_is) at c.requires.newer in
    let begins : BeginsAt c.args.number c.beginning_of-end.result slots = rw (← c.as_slice.ensures.value) c.beginning_of-end.ensures in
    rw (c.push_reserved.ensures.items, c.truncate.ensures.items, ← c.self.view_is) (with_pair slots c.self.inside.filled c.self.invariant c.args.number c.args.item newer c.beginning_of-end.result begins)
