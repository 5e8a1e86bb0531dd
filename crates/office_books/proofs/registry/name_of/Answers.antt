use Rattle.std.proofs.Common.{sym, ◌∙◌}
use Rattle.office_books.proofs.KeyIndexLemmas.{name_at, no_name}
use Rattle.office_books.proofs.registry.name_of.Goals as goal

pub returns-in-Ok : goal.returns-in-Ok
returns-in-Ok c =
    let holder = c.index-holders-place.result in
    c.as_bytes.ensures ∙ sym (name_at c.args.holders.now c.args.actor c.in-Ok.place holder c.in-Ok.ensures.found)

pub returns-in-Err : goal.returns-in-Err
returns-in-Err c = sym (no_name c.args.holders.now c.args.actor c.in-Err.field-0 c.in-Err.ensures.absent)
