use Rattle.std.proofs.Common.{ℕ, rules}
use Rattle.std.proofs.lemmas.Cmp.{nat_list_cmp_total}
use Rattle.std.proofs.lemmas.Fn.{always_returns_same}
use Rattle.xs_model.specs.Rising.{key_cmp}
use Rattle.office_books.specs.KeyIndex.{text_of_number}
use Rattle.office_books.proofs.SortedLemmas.{searched}
use Rattle.office_books.proofs.registry.search_names.Goals as goal

pub returns : goal.returns
returns c =
    let facts = c.binary_search_by.ensures in
    let by_name = facts.position (λ (actor : ℕ). key_cmp (text_of_number c.args.holders.now actor) c.args.name.now) (always_returns_same _ _ _ (λ a r f called. search rules)) in
    let both = searched nat_list_cmp_total (text_of_number c.args.holders.now) c.args.by_name.now c.args.name.now c.binary_search_by.result c.requires.keys_rise facts.bound by_name in
    record { within = both.0; found = both.1; absent = both.2 }
