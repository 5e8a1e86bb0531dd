use Rattle.std.proofs.Common.{sym, ◌∙◌}
use Rattle.std.proofs.lemmas.Cmp.{nat_list_cmp_total}
use Rattle.office_books.specs.KeyIndex.{text_of_number}
use Rattle.office_books.proofs.SortedLemmas.{within_gap}
use Rattle.office_books.proofs.KeyIndexLemmas.{held_at, none_is_some}
use Rattle.office_books.proofs.registry.gap.Goals as goal

pub unreachable-requires : goal.unreachable-requires
unreachable-requires c =
    none_is_some (sym c.requires.free ∙ held_at c.args.holders.now c.args.by_name.now c.requires.index c.args.name.now c.in_default.field-0 0 c.in_default.ensures.found)

pub returns-clause-within : goal.returns-clause-within
returns-clause-within c = within_gap nat_list_cmp_total (text_of_number c.args.holders.now) c.args.by_name.now c.args.name.now _ c.in-Err.ensures.absent
