use Rattle.std.proofs.Common.{◌-◌, ℕ, List, arith, refl}
use Rattle.snapshot_text.proofs.OrderLemmas.{falls, rise_by_neighbours}
use Rattle.snapshot_text.proofs.validity.histories.do_history_nodes_rise.Goals as goal

pub returns-then-history-place : goal.returns-then-history-place
returns-then-history-place c = (
  (λ yes. absurd cc),
  (λ rising. absurd (falls (λ (x : (ℕ × List ℕ)). x.0) c.args.history.now (c.loop-place.place - 1) c.loop-place.place c.index-history-place.result c.index-history-place-in-loop-place.result (omega arith) (omega arith) c.if-history-place.true rising)),
)

pub returns : goal.returns
returns c = ((λ yes. rise_by_neighbours (λ (x : (ℕ × List ℕ)). x.0) c.args.history.now c.loop-place.place (omega arith) c.loop-place.invariant), (λ rising. refl))
