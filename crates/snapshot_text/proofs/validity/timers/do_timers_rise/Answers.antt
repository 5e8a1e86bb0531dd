use Rattle.std.proofs.Common.{◌-◌, arith, refl}
use Rattle.office_types.specs.declared.office.Timer.{Timer}
use Rattle.snapshot_text.proofs.OrderLemmas.{falls, rise_by_neighbours}
use Rattle.snapshot_text.proofs.validity.timers.do_timers_rise.Goals as goal

pub returns-then-timers-place : goal.returns-then-timers-place
returns-then-timers-place c = (
  (λ yes. absurd cc),
  (λ rising. absurd (falls (λ (x : Timer). x.order) c.args.timers.now (c.loop-place.place - 1) c.loop-place.place c.index-timers-place.result c.index-timers-place-in-loop-place.result (omega arith) (omega arith) c.if-timers-place.true rising)),
)

pub returns : goal.returns
returns c = ((λ yes. rise_by_neighbours (λ (x : Timer). x.order) c.args.timers.now c.loop-place.place (omega arith) c.loop-place.invariant), (λ rising. refl))
