use Rattle.office_books.proofs.KeyIndexLemmas.{index_empty}
use Rattle.delay_queue.proofs.timers.Timers.new.Goals as goal

pub invariant_of-result : goal.invariant_of-result
invariant_of-result c = rw (c.new.ensures, c.new-2.ensures.items, c.new-3.ensures.items) (record { numbered = tt; indexes = record { due = index_empty; owner = index_empty } })
