use Rattle.std.proofs.Common.{◌≡◌, Some, slice_get}
use Rattle.xs_model.specs.Rising.{HasGapAt}
use Rattle.xs_model.proofs.RisingLemmas.{put_held, put_gap, rises_put}
use Rattle.xs_model.proofs.fields.Entries.put.Goals as goal
use Rattle.xs_model.proofs.fields.Entries.put.Goals.{in-Ok-insert, in-Err-insert}

pub invariant_of-self : goal.invariant_of-self
invariant_of-self g c =
    let held = c.in-Ok.ensures.found in
    let pairs = c.self.inside.pairs.items in
    let at : slice_get pairs c.in-Ok.place ≡ Some (c.args.key, held.0) = rw (← c.as_slice.ensures.value, ← c.as_bytes.ensures) held.1 in
    rw (put_held pairs c.in-Ok.place c.args.key c.args.value held.0 c.self.invariant at) (rises_put pairs c.args.key c.args.value c.self.invariant)

pub returns-in-Ok-clause-ok : goal.returns-in-Ok-clause-ok
returns-in-Ok-clause-ok g c =
    let held = c.in-Ok.ensures.found in
    let pairs = c.self.inside.pairs.items in
    let at : slice_get pairs c.in-Ok.place ≡ Some (c.args.key, held.0) = rw (← c.as_slice.ensures.value, ← c.as_bytes.ensures) held.1 in
    rw (← c.self.view_is) (put_held pairs c.in-Ok.place c.args.key c.args.value held.0 c.self.invariant at)

pub invariant_of-self-in-Err : goal.invariant_of-self-in-Err
invariant_of-self-in-Err g c =
    let pairs = c.self.inside.pairs.items in
    let gap : HasGapAt c.args.key c.in-Err.place pairs = rw (← c.as_slice.ensures.value, ← c.as_bytes.ensures) c.in-Err.ensures.absent in
    let placed = put_gap pairs c.in-Err.place c.args.key c.args.value gap in
    elim c.match-insert.branch [
      | in-Ok-insert w ↦ rw (w.in-Ok-insert.ensures.items, placed) (rises_put pairs c.args.key c.args.value c.self.invariant)
      | in-Err-insert w ↦ rw w.in-Err-insert.ensures.items c.self.invariant
    ]

pub returns-after-insert-clause-ok : goal.returns-after-insert-clause-ok
returns-after-insert-clause-ok g c =
    let pairs = c.self.inside.pairs.items in
    let gap : HasGapAt c.args.key c.in-Err.place pairs = rw (← c.as_slice.ensures.value, ← c.as_bytes.ensures) c.in-Err.ensures.absent in
    let placed = put_gap pairs c.in-Err.place c.args.key c.args.value gap in
    elim c.match-insert.branch [
      | in-Ok-insert w ↦ rw (w.result-is, w.in-Ok-insert.ensures.items, ← c.self.view_is) placed
      | in-Err-insert w ↦ rw w.result-is tt
    ]
