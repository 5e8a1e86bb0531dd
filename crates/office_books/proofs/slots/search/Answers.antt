use Rattle.std.proofs.Common.{rules}
use Rattle.std.specs.Ordering.{nat_cmp}
use Rattle.std.proofs.lemmas.Cmp.{nat_cmp_total}
use Rattle.std.proofs.lemmas.Fn.{always_returns_same}
use Rattle.office_books.proofs.SortedLemmas.{searched}
use Rattle.office_books.specs.declared.slots.Slot.{Slot}
use Rattle.office_books.proofs.slots.search.Goals as goal

pub returns : goal.returns
returns g c =
    let facts = c.binary_search_by.ensures in
    let by_number = facts.position (λ (slot : Slot g.row.T.Denot). nat_cmp slot.number c.args.number) (always_returns_same _ _ _ (λ a r f called. search rules)) in
    let all = searched nat_cmp_total (λ (slot : Slot g.row.T.Denot). slot.number) c.args.slots.now c.args.number c.binary_search_by.result c.requires facts.bound by_number in
    record { within = all.0; found = all.1; absent = all.2 }
