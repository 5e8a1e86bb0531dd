use Rattle.office_books.proofs.KeyIndexLemmas.{index_empty}
use Rattle.office_books.proofs.registry.Registry.new.Goals as goal

pub invariant_of-result : goal.invariant_of-result
invariant_of-result c = rw (c.new.ensures.items, c.new-2.ensures.items) index_empty
