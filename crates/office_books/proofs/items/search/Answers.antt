use Rattle.std.proofs.Common.{rules}
use Rattle.std.specs.Ordering.{nat_cmp}
use Rattle.std.proofs.lemmas.Cmp.{nat_cmp_total}
use Rattle.std.proofs.lemmas.Fn.{always_returns_same}
use Rattle.office_types.specs.declared.office.Item.{Item}
use Rattle.office_books.proofs.SortedLemmas.{searched}
use Rattle.office_books.proofs.items.search.Goals as goal

pub returns : goal.returns
returns c =
    let facts = c.binary_search_by.ensures in
    let by_number = facts.position (λ (item : Item). nat_cmp item.actor c.args.actor) (always_returns_same _ _ _ (λ a r f called. search rules)) in
    let both = searched nat_cmp_total (λ (item : Item). item.actor) c.args.items.now c.args.actor c.binary_search_by.result c.requires facts.bound by_number in
    record { within = both.0; found = both.1; absent = both.2 }
