use Rattle.microstep.specs.Micro.{Enters}
use Rattle.microstep.specs.Selection.{transition_at}
use Rattle.microstep.proofs.MoveLemmas.{moved-all, moved-more, moved-start}
use Rattle.microstep.proofs.moves.entered_by_all.Goals as goal

pub loop-place-init : goal.loop-place-init
loop-place-init c = rw c.new-entered.ensures.items (moved-start (Enters c.args.def.now c.args.history.now))

pub union-requires-clause-all : goal.union-requires-clause-all
union-requires-clause-all c = c.loop-place.invariant.in_order

pub loop-place-preserved : goal.loop-place-preserved
loop-place-preserved c =
    moved-more (Enters c.args.def.now c.args.history.now) (transition_at c.args.def.now c.args.eventless) c.args.places.now c.loop-place.place-index (0, 0) _ _ _
    c.loop-place-test.true c.loop-place.invariant c.in_ok-more.ensures (rw c.as_slice.ensures.nodes at c.in_ok-entered.ensures)

pub from_rising-requires : goal.from_rising-requires
from_rising-requires c = rw c.from_vec.ensures c.loop-place.invariant.in_order

pub returns : goal.returns
returns c =
    rw (c.from_rising.ensures, c.from_vec.ensures)
    (moved-all (Enters c.args.def.now c.args.history.now) (transition_at c.args.def.now c.args.eventless) c.args.places.now c.loop-place.place-index _ c.loop-place-test.false c.loop-place.invariant)
