use Rattle.std.proofs.Common.{List, refl, arith, subst, sym}
use Rattle.std.specs.List.{Contains}
use Rattle.office_types.specs.declared.office.ActorRecord.{ActorRecord}
use Rattle.office_types.specs.ValidOffice.{IsActor}
use Rattle.action_table.specs.Definitions.{office_definitions}
use Rattle.snapshot_text.proofs.ListLemmas.{item_in, more_in, whole_in}
use Rattle.snapshot_text.proofs.validity.actors.are_actors.Goals as goal

pub is_actor-requires-clause-actor : goal.is_actor-requires-clause-actor
is_actor-requires-clause-actor c =
    let P : List ActorRecord → Type 0 = λ l. Contains l c.actor-item.result in
    subst P c.as_slice-actor-items.ensures (c.loop-actor.actor-index, c.loop-actor-test.true, sym c.actor-item.is)

pub returns-then-not-branch : goal.returns-then-not-branch
returns-then-not-branch c = (
  (λ holds. absurd cc),
  (λ all. absurd (
      let here = item_in (IsActor (office_definitions c.args.defs.now) c.args.state.now) c.args.state.now.actors c.as_slice-actor-items.result.now c.as_slice-actor-items.ensures c.loop-actor.actor-index c.actor-item.result (omega arith) c.actor-item.is all in
      let good = c.in_ok-is_actor.ensures.1 here in
      let bad = c.if-not-branch.true in
      cc)),
)

pub loop-actor-preserved : goal.loop-actor-preserved
loop-actor-preserved c =
    more_in (IsActor (office_definitions c.args.defs.now) c.args.state.now) c.args.state.now.actors c.as_slice-actor-items.result.now c.as_slice-actor-items.ensures c.loop-actor.actor-index c.actor-item.result (omega arith) c.actor-item.is c.loop-actor.invariant
    (c.in_ok-is_actor.ensures.0 c.if-not-branch.false)

pub returns : goal.returns
returns c = (
  (λ holds. whole_in (IsActor (office_definitions c.args.defs.now) c.args.state.now) c.args.state.now.actors c.as_slice-actor-items.result.now c.as_slice-actor-items.ensures c.loop-actor.actor-index (omega arith) c.loop-actor.invariant),
  (λ all. refl),
)
