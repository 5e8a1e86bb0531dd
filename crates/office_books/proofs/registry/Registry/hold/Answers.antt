use Rattle.std.proofs.Common.{◌<◌, ℕ, List, map, sym}
use Rattle.std.specs.List.{All}
use Rattle.xs_model.specs.Rising.{key_cmp}
use Rattle.office_books.specs.KeyIndex.{text_of_number}
use Rattle.office_books.specs.Sorted.{IsAbsentAt}
use Rattle.office_books.proofs.KeyIndexLemmas.{index_hold, has_room}
use Rattle.office_books.proofs.registry.Registry.hold.Goals as goal

pub invariant_of-self-2 : goal.invariant_of-self-2
invariant_of-self-2 c =
    let holders = c.self.inside.holders.items in
    let by_name = c.self.inside.by_name.items in
    let above : All (λ (holder : List ℕ × ℕ). holder.1 < c.args.actor) holders = rw (← c.self.view_is) at c.requires.newer in
    let gap : IsAbsentAt key_cmp c.args.name c.gap-place.result (map (text_of_number holders) by_name) =
    rw (← c.reserve.ensures.items, ← c.reserve-else-is_err.ensures.items, ← c.as_slice.ensures.value, ← c.as_slice-2.ensures.value, ← c.as_bytes.ensures) c.gap-place.ensures.absent in
    let ok = c.insert.ensures.succeeds (has_room _ _ _ (sym c.if-is_err-2.ensures.value) c.reserve-else-is_err.ensures.ok) in
    rw (c.push_reserved.ensures.items, c.reserve.ensures.items, c.insert.ensures.items, ok, c.reserve-else-is_err.ensures.items)
    (index_hold holders by_name c.self.invariant c.args.name c.args.actor above c.gap-place.result gap)
