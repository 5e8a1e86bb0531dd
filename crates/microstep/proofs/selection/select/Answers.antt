use Rattle.std.proofs.Common.{refl}
use Rattle.microstep.specs.Selection.{taken}
use Rattle.microstep.proofs.TakenLemmas.{can-be-taken}
use Rattle.microstep.proofs.selection.select.Goals as goal

pub returns-clause-selected : goal.returns-clause-selected
returns-clause-selected c = (refl, rw c.from_vec.ensures (taken c.in_ok-picked.ensures.1 c.in_ok-taken.ensures))

pub returns-clause-taken : goal.returns-clause-taken
returns-clause-taken c =
    rw c.from_vec.ensures
    (can-be-taken (record { def = c.args.def.now; own = c.args.own.now; event = c.args.event.now; eventless = c.args.eventless }) c.in_ok-taken.taken.items c.in_ok-taken.ensures)
