use Rattle.std.proofs.Common.{◌≡◌, sym, ◌∙◌, false, true, cond, ap, map, take}
use Rattle.std.proofs.lemmas.Map.Text.{btree_set_updates_text}
use Rattle.std.specs.BTreeSet.{contains_text}
use Rattle.std.specs.List.{list_any}
use Rattle.std.specs.Str.{bytes_eq}
use Rattle.std.specs.String.{string_bytes}
use Rattle.flat_core.proofs.PlaceLemmas.{id_added, not_distinct, still_distinct}
use Rattle.flat_core.proofs.flat_text.are_distinct.Goals as goal

pub returns-then-contains : goal.returns-then-contains
returns-then-contains c =
    let known : list_any (bytes_eq c.machine-item.result.id) (map (λ machine. machine.id) (take c.loop-machine.machine-index c.args.machines.now)) ≡ true =
    ap (λ id. list_any (bytes_eq id) (map (λ machine. machine.id) (take c.loop-machine.machine-index c.args.machines.now))) (sym c.as_str-id.ensures)
    ∙ (sym (c.loop-machine.invariant.0 c.as_str-id.result.now) ∙ (sym c.contains.ensures ∙ c.if-contains.true)) in
    sym (not_distinct c.args.machines.now c.loop-machine.machine-index c.machine-item.result c.loop-machine-test.true c.machine-item.is known c.loop-machine.invariant.1)

pub loop-machine-preserved : goal.loop-machine-preserved
loop-machine-preserved c =
    let new : list_any (bytes_eq c.machine-item.result.id) (map (λ machine. machine.id) (take c.loop-machine.machine-index c.args.machines.now)) ≡ false =
    ap (λ id. list_any (bytes_eq id) (map (λ machine. machine.id) (take c.loop-machine.machine-index c.args.machines.now))) (sym c.as_str-id.ensures)
    ∙ (sym (c.loop-machine.invariant.0 c.as_str-id.result.now) ∙ (sym c.contains.ensures ∙ c.if-contains.false)) in
    let same : string_bytes c.in_ok-from_str.field-0 ≡ c.machine-item.result.id = c.in_ok-from_str.ensures.ok ∙ c.as_str-id.ensures in (
      id_added c.args.machines.now c.loop-machine.machine-index c.machine-item.result c.loop-machine-test.true c.machine-item.is _ _ c.loop-machine.invariant.0
          (λ q. btree_set_updates_text _ _ _ true c.in_ok-insert.ensures.updates q ∙ ap (λ id. cond (bytes_eq id q) true (contains_text c.loop-machine.ids q)) same),
      still_distinct c.args.machines.now c.loop-machine.machine-index c.machine-item.result c.loop-machine-test.true c.machine-item.is new c.loop-machine.invariant.1,
    )
