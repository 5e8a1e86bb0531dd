use Rattle.std.proofs.Common.{Some, map, sym, ap, ◌∙◌}
use Rattle.xs_model.specs.Rising.{key_cmp}
use Rattle.office_books.specs.KeyIndex.{text_of_number}
use Rattle.office_books.specs.Sorted.{IsAt, IsAbsentAt}
use Rattle.office_books.proofs.KeyIndexLemmas.{held_at, nobody_at}
use Rattle.office_books.proofs.registry.Registry.held.Goals as goal

pub returns-in-Ok : goal.returns-in-Ok
returns-in-Ok c =
    let holders = c.self.inside.holders.items in
    let by_name = c.self.inside.by_name.items in
    let at : IsAt key_cmp c.args.name.now c.in-Ok.rank (map (text_of_number holders) by_name) = rw (← c.as_slice.ensures.value, ← c.as_slice-2.ensures.value) c.in-Ok.ensures.found in
    rw (← c.self.view_is) (ap Some c.index.ensures ∙ sym (held_at holders by_name c.self.invariant c.args.name.now c.in-Ok.rank c.index.result.now at))

pub returns-in-Err : goal.returns-in-Err
returns-in-Err c =
    let holders = c.self.inside.holders.items in
    let by_name = c.self.inside.by_name.items in
    let gap : IsAbsentAt key_cmp c.args.name.now c.in-Err.field-0 (map (text_of_number holders) by_name) = rw (← c.as_slice.ensures.value, ← c.as_slice-2.ensures.value) c.in-Err.ensures.absent in
    rw (← c.self.view_is) (sym (nobody_at holders by_name c.self.invariant c.args.name.now c.in-Err.field-0 gap))
