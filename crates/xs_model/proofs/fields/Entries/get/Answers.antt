use Rattle.std.proofs.Common.{◌≡◌, Some, slice_get, sym, ◌∙◌, ap}
use Rattle.xs_model.proofs.RisingLemmas.{get_held, get_gap, read_at}
use Rattle.xs_model.proofs.fields.Entries.get.Goals as goal

pub returns-in-Ok : goal.returns-in-Ok
returns-in-Ok g c =
    let held = c.in-Ok.ensures.found in
    let pairs = c.self.inside.pairs.items in
    let at : slice_get pairs c.in-Ok.place ≡ Some (c.args.key.now, held.0) = rw (← c.as_slice.ensures.value) held.1 in
    let read = read_at pairs c.in-Ok.place (c.args.key.now, held.0) c.index.result.now at c.index.ensures in
    rw (← c.self.view_is) (ap (λ p. Some p.1) read ∙ sym (get_held pairs c.in-Ok.place c.args.key.now held.0 c.self.invariant at))

pub returns-in-Err : goal.returns-in-Err
returns-in-Err g c = rw (← c.self.view_is, ← c.as_slice.ensures.value) (sym (get_gap _ c.in-Err.field-0 c.args.key.now c.in-Err.ensures.absent))
