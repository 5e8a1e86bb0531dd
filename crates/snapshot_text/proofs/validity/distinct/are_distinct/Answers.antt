use Rattle.std.proofs.Common.{◌-◌, arith, ap, refl, sym, ◌∙◌}
use Rattle.std.specs.Ordering.{is_eq}
use Rattle.std.proofs.lemmas.Cmp.{is_eq_index}
use Rattle.snapshot_text.proofs.DistinctLemmas.{distinct_by_neighbours, neighbours_distinct, neighbours_more}
use Rattle.snapshot_text.proofs.validity.distinct.are_distinct.Goals as goal

pub loop-place-init : goal.loop-place-init
loop-place-init g c = λ k d within. absurd (omega arith)

pub returns-then-eq : goal.returns-then-eq
returns-then-eq g c = (
  (λ yes. absurd cc),
  (λ pairs. absurd (neighbours_distinct g.met.K.Ord.total c.args.keys.items c.sort_unstable.new.self.items (c.loop-place.place - 1) c.loop-place.place c.index.result.now c.index-in-loop-place.result.now
      c.sort_unstable.ensures.permutation (omega arith) (omega arith) c.index.ensures c.index-in-loop-place.ensures
      (ap is_eq (sym c.cmp.ensures) ∙ is_eq_index c.cmp.result ∙ sym c.eq.ensures ∙ c.if-eq.true) pairs)),
)

pub loop-place-preserved : goal.loop-place-preserved
loop-place-preserved g c =
    neighbours_more g.met.K.Ord.total c.sort_unstable.new.self.items (c.loop-place.place - 1) c.loop-place.place c.index.result.now c.index-in-loop-place.result.now
    (omega arith) (omega arith) c.index.ensures c.index-in-loop-place.ensures
    (ap is_eq (sym c.cmp.ensures) ∙ is_eq_index c.cmp.result ∙ sym c.eq.ensures ∙ c.if-eq.false) c.loop-place.invariant

pub returns : goal.returns
returns g c = (
  (λ yes. distinct_by_neighbours g.met.K.Ord.total c.args.keys.items c.sort_unstable.new.self.items c.loop-place.place c.sort_unstable.ensures.permutation c.sort_unstable.ensures.sorted (omega arith) c.loop-place.invariant),
  (λ pairs. refl),
)
