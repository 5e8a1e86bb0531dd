use Rattle.std.proofs.Common.{◌≡◌, ℕ, List, map, sym, ap, ◌∙◌}
use Rattle.std.specs.Ordering.{nat_cmp}
use Rattle.xs_model.specs.Rising.{key_cmp}
use Rattle.office_books.specs.KeyIndex.{text_of_number}
use Rattle.office_books.specs.Sorted.{IsAt, IsAbsentAt}
use Rattle.office_books.proofs.KeyIndexLemmas.{name_at, holds_at, stands, index_free, holders_removed, holders_kept}
use Rattle.office_books.proofs.registry.Registry.free.Goals as goal

pub returns-in_default-clause-names : goal.returns-in_default-clause-names
returns-in_default-clause-names c =
    let holders = c.self.inside.holders.items in
    let gap : IsAbsentAt nat_cmp c.args.actor c.in_default.field-0 (map (λ (holder : List ℕ × ℕ). holder.1) holders) = rw (← c.as_slice.ensures.value) c.in_default.ensures.absent in
    rw (← c.self.view_is) (holders_kept holders c.args.actor c.in_default.field-0 gap)

pub unreachable-requires : goal.unreachable-requires
unreachable-requires c =
    let holders = c.self.inside.holders.items in
    let by_name = c.self.inside.by_name.items in
    let here : IsAt nat_cmp c.args.actor c.in-Ok.place (map (λ (holder : List ℕ × ℕ). holder.1) holders) = rw (← c.as_slice.ensures.value) c.in-Ok.ensures.found in
    let name = c.as_bytes-name.result.now in
    let named : text_of_number holders c.args.actor ≡ name =
    name_at holders c.args.actor c.in-Ok.place c.index.result.now here ∙ (ap (λ (h : List ℕ × ℕ). h.0) (sym c.index.ensures) ∙ sym c.as_bytes-name.ensures) in
    let gap : IsAbsentAt key_cmp name c.in_default-search_names.field-0 (map (text_of_number holders) by_name) =
    rw (← c.as_slice-2.ensures.value, ← c.as_slice-3.ensures.value) c.in_default-search_names.ensures.absent in
    stands holders by_name c.self.invariant name c.in_default-search_names.field-0 c.args.actor
    (holds_at holders name c.args.actor c.in-Ok.place here named) gap

pub invariant_of-self : goal.invariant_of-self
invariant_of-self c =
    let holders = c.self.inside.holders.items in
    let by_name = c.self.inside.by_name.items in
    let here : IsAt nat_cmp c.args.actor c.in-Ok.place (map (λ (holder : List ℕ × ℕ). holder.1) holders) = rw (← c.as_slice.ensures.value) c.in-Ok.ensures.found in
    let name = c.as_bytes-name.result.now in
    let named : text_of_number holders c.args.actor ≡ name =
    name_at holders c.args.actor c.in-Ok.place c.index.result.now here ∙ (ap (λ (h : List ℕ × ℕ). h.0) (sym c.index.ensures) ∙ sym c.as_bytes-name.ensures) in
    let at : IsAt key_cmp name c.in-Ok-search_names.rank (map (text_of_number holders) by_name) =
    rw (← c.as_slice-2.ensures.value, ← c.as_slice-3.ensures.value) c.in-Ok-search_names.ensures.found in
    rw (c.remove-2.ensures.items, c.remove.ensures.items, holders_removed holders c.args.actor c.in-Ok.place here)
    (index_free holders by_name c.self.invariant name c.args.actor c.in-Ok-search_names.rank (holds_at holders name c.args.actor c.in-Ok.place here named) at)

pub returns-clause-names : goal.returns-clause-names
returns-clause-names c =
    let holders = c.self.inside.holders.items in
    let here : IsAt nat_cmp c.args.actor c.in-Ok.place (map (λ (holder : List ℕ × ℕ). holder.1) holders) = rw (← c.as_slice.ensures.value) c.in-Ok.ensures.found in
    rw (← c.self.view_is) (c.remove-2.ensures.items ∙ holders_removed holders c.args.actor c.in-Ok.place here)
