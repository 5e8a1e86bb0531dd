use Rattle.office_books.proofs.SlotLemmas.{numbers_rise}
use Rattle.office_books.proofs.slots.Slots.iter.Goals as goal

pub returns-clause-by_number : goal.returns-clause-by_number
returns-clause-by_number g c = rw c.as_slice.ensures.value (numbers_rise c.self.inside.slots.items c.self.invariant.rise)
