use Rattle.std.proofs.Common.{Some, map, ap, sym, ◌∙◌, arith}
use Rattle.std.specs.Ordering.{nat_cmp}
use Rattle.std.proofs.lemmas.Cmp.{nat_cmp_total}
use Rattle.office_types.specs.declared.office.Item.{Item}
use Rattle.office_books.specs.Sorted.{IsAt, IsAbsentAt}
use Rattle.office_books.proofs.SortedLemmas.{rises_filter, within_at}
use Rattle.office_books.proofs.ItemLemmas.{removed, kept, item_at, no_item}
use Rattle.office_books.proofs.items.Items.close.Goals as goal

pub remove-requires : goal.remove-requires
remove-requires c = omega (arith, within_at nat_cmp_total (λ (item : Item). item.actor) c.as_slice.result.now c.args.actor c.in-Ok.place c.in-Ok.ensures.found, c.as_slice.ensures.len)

pub invariant_of-self : goal.invariant_of-self
invariant_of-self c =
    let items = c.self.inside.items.items in
    let at : IsAt nat_cmp c.args.actor c.in-Ok.place (map (λ (item : Item). item.actor) items) = rw (← c.as_slice.ensures.value) c.in-Ok.ensures.found in
    rw (c.remove.ensures.items, removed items c.args.actor c.in-Ok.place at) (rises_filter nat_cmp_total (λ (item : Item). item.actor) _ items c.self.invariant)

pub returns-in-Ok-clause-item : goal.returns-in-Ok-clause-item
returns-in-Ok-clause-item c =
    let items = c.self.inside.items.items in
    let at : IsAt nat_cmp c.args.actor c.in-Ok.place (map (λ (item : Item). item.actor) items) = rw (← c.as_slice.ensures.value) c.in-Ok.ensures.found in
    rw (← c.self.view_is) (ap Some c.remove.ensures.value ∙ sym (item_at items c.args.actor c.in-Ok.place c.remove.result at))

pub returns-in-Ok-clause-items : goal.returns-in-Ok-clause-items
returns-in-Ok-clause-items c =
    let items = c.self.inside.items.items in
    let at : IsAt nat_cmp c.args.actor c.in-Ok.place (map (λ (item : Item). item.actor) items) = rw (← c.as_slice.ensures.value) c.in-Ok.ensures.found in
    rw (← c.self.view_is) (c.remove.ensures.items ∙ removed items c.args.actor c.in-Ok.place at)

pub returns-in-Err-clause-item : goal.returns-in-Err-clause-item
returns-in-Err-clause-item c =
    let items = c.self.inside.items.items in
    let gap : IsAbsentAt nat_cmp c.args.actor c.in-Err.field-0 (map (λ (item : Item). item.actor) items) = rw (← c.as_slice.ensures.value) c.in-Err.ensures.absent in
    rw (← c.self.view_is) (sym (no_item items c.args.actor c.in-Err.field-0 gap))

pub returns-in-Err-clause-items : goal.returns-in-Err-clause-items
returns-in-Err-clause-items c =
    let items = c.self.inside.items.items in
    let gap : IsAbsentAt nat_cmp c.args.actor c.in-Err.field-0 (map (λ (item : Item). item.actor) items) = rw (← c.as_slice.ensures.value) c.in-Err.ensures.absent in
    rw (← c.self.view_is) (kept items c.args.actor c.in-Err.field-0 gap)
