use Rattle.std.proofs.Common.{◌≡◌, ◌<◌, length, Some, sym, ap, arith}
use Rattle.std.specs.Arc.{arc_value}
use Rattle.std.specs.Prelude.{slice_get}
use Rattle.office_run.proofs.CountLemmas.{count-more, none-within}
use Rattle.office_run.proofs.definitions_lines.node_count.Goals.{in-Some, in_default}
use Rattle.office_run.proofs.definitions_lines.node_count.Goals as goal

pub loop-number-preserved : goal.loop-number-preserved
loop-number-preserved c =
    let before = c.loop-number.invariant in
    let end : c.loop-number.number < length c.args.defs.now = omega (arith, c.loop-number-test.true, c.len-number-end.ensures) in
    elim c.match-get.branch [
      | in-Some w ↦
          let at : slice_get c.args.defs.now c.loop-number.number ≡ Some (arc_value w.in-Some.def.now) = sym (rw w.in-Some.is at c.get.ensures) in
          let more = count-more c.args.defs.now c.loop-number.number (arc_value w.in-Some.def.now) at in
          let tree = ap (λ d. length d.tree) w.deref.ensures in
          record {
            counted = omega (arith, w.nodes-is, w.from-nodes.ensures, w.len.ensures.count, tree, more, before.counted);
            few = omega (arith, w.nodes-is, w.from-nodes.ensures, w.len.type_inv, before.few);
          }
      | in_default w ↦ absurd (none-within c.args.defs.now c.loop-number.number end (sym (rw w.in_default.is at c.get.ensures)))
    ]
