use Rattle.std.proofs.Common.{◌≡◌, length}
use Rattle.office_books.specs.Slots.{in_slots}
use Rattle.office_books.proofs.slots.SlotItemsIterator.next.Given as goal

-- only empty places were passed over
abbrev pub invariant-loop-slot : goal.invariant-loop-slot
invariant-loop-slot g l = in_slots l.self-inside.slots.now ≡ l.fn.self

abbrev pub decreases-loop-slot : goal.decreases-loop-slot
decreases-loop-slot g l = length l.self-inside.slots.now
