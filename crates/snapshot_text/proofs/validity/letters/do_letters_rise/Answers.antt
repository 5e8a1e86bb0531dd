use Rattle.std.proofs.Common.{◌-◌, arith, refl}
use Rattle.office_types.specs.declared.office.Letter.{Letter}
use Rattle.snapshot_text.proofs.OrderLemmas.{falls, rise_by_neighbours}
use Rattle.snapshot_text.proofs.validity.letters.do_letters_rise.Goals as goal

pub returns-then-letters-place : goal.returns-then-letters-place
returns-then-letters-place c = (
  (λ yes. absurd cc),
  (λ rising. absurd (falls (λ (x : Letter). x.number) c.args.letters.now (c.loop-place.place - 1) c.loop-place.place c.index-letters-place.result c.index-letters-place-in-loop-place.result (omega arith) (omega arith) c.if-letters-place.true rising)),
)

pub returns : goal.returns
returns c = ((λ yes. rise_by_neighbours (λ (x : Letter). x.number) c.args.letters.now c.loop-place.place (omega arith) c.loop-place.invariant), (λ rising. refl))
