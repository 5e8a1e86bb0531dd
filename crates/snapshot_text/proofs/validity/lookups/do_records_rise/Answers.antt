use Rattle.std.proofs.Common.{◌-◌, arith, refl}
use Rattle.office_types.specs.declared.office.ActorRecord.{ActorRecord}
use Rattle.snapshot_text.proofs.OrderLemmas.{falls, rise_by_neighbours}
use Rattle.snapshot_text.proofs.validity.lookups.do_records_rise.Goals as goal

pub returns-then-actors-place : goal.returns-then-actors-place
returns-then-actors-place c = (
  (λ yes. absurd cc),
  (λ rising. absurd (falls (λ (x : ActorRecord). x.number) c.args.actors.now (c.loop-place.place - 1) c.loop-place.place c.index-actors-place.result c.index-actors-place-in-loop-place.result (omega arith) (omega arith) c.if-actors-place.true rising)),
)

pub returns : goal.returns
returns c = ((λ yes. rise_by_neighbours (λ (x : ActorRecord). x.number) c.args.actors.now c.loop-place.place (omega arith) c.loop-place.invariant), (λ rising. refl))
