use Rattle.std.proofs.Common.{ℕ, List, refl, arith}
use Rattle.std.specs.List.{All}
use Rattle.office_types.specs.declared.office.ActorRecord.{ActorRecord}
use Rattle.office_types.specs.ValidOffice.{HasParent}
use Rattle.snapshot_text.proofs.ListLemmas.{item_in, more_in, whole_in}
use Rattle.snapshot_text.proofs.validity.parents.do_kids_have_parents.Goals as goal

pub returns-then-not-have_parent : goal.returns-then-not-have_parent
returns-then-not-have_parent c = (
  (λ holds. absurd cc),
  (λ all. absurd (
      let here = item_in (λ (actor : ActorRecord). All (λ (kid : List ℕ × ℕ). HasParent c.args.state.now actor.number kid.1) actor.kids) c.args.state.now.actors c.as_slice-actor-items.result.now c.as_slice-actor-items.ensures c.loop-actor.actor-index c.actor-item.result (omega arith) c.actor-item.is all in
      let good = c.have_parent.ensures.1 (rw c.as_slice.ensures here) in
      let bad = c.if-not-have_parent.true in
      cc)),
)

pub loop-actor-preserved : goal.loop-actor-preserved
loop-actor-preserved c =
    more_in (λ (actor : ActorRecord). All (λ (kid : List ℕ × ℕ). HasParent c.args.state.now actor.number kid.1) actor.kids) c.args.state.now.actors c.as_slice-actor-items.result.now c.as_slice-actor-items.ensures c.loop-actor.actor-index c.actor-item.result (omega arith) c.actor-item.is c.loop-actor.invariant
    (rw c.as_slice.ensures at (c.have_parent.ensures.0 c.if-not-have_parent.false))

pub returns : goal.returns
returns c = (
  (λ holds. whole_in (λ (actor : ActorRecord). All (λ (kid : List ℕ × ℕ). HasParent c.args.state.now actor.number kid.1) actor.kids) c.args.state.now.actors c.as_slice-actor-items.result.now c.as_slice-actor-items.ensures c.loop-actor.actor-index (omega arith) c.loop-actor.invariant),
  (λ all. refl),
)
