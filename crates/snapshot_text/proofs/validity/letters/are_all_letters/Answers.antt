use Rattle.std.proofs.Common.{refl, arith}
use Rattle.std.specs.List.{All}
use Rattle.office_types.specs.declared.office.ActorRecord.{ActorRecord}
use Rattle.office_types.specs.ValidOffice.{IsLetter}
use Rattle.snapshot_text.proofs.ListLemmas.{all_joined, item_in, joined_all, more_in, whole_in}
use Rattle.snapshot_text.proofs.validity.letters.are_all_letters.Goals as goal

pub returns-then-not-are_letters : goal.returns-then-not-are_letters
returns-then-not-are_letters c = (
  (λ yes. absurd cc),
  (λ all. absurd (
      let each = joined_all (IsLetter c.args.state.now) (λ (actor : ActorRecord). actor.mailbox) c.args.state.now.actors all in
      let here = item_in (λ (actor : ActorRecord). All (IsLetter c.args.state.now) actor.mailbox) c.args.state.now.actors c.as_slice-actor-items.result.now c.as_slice-actor-items.ensures c.loop-actor.actor-index c.actor-item.result (omega arith) c.actor-item.is each in
      let no = c.are_letters.ensures.1 (rw c.as_slice.ensures here) in
      cc)),
)

pub loop-actor-preserved : goal.loop-actor-preserved
loop-actor-preserved c =
    more_in (λ (actor : ActorRecord). All (IsLetter c.args.state.now) actor.mailbox) c.args.state.now.actors c.as_slice-actor-items.result.now c.as_slice-actor-items.ensures c.loop-actor.actor-index c.actor-item.result (omega arith) c.actor-item.is c.loop-actor.invariant
    (rw c.as_slice.ensures at (c.are_letters.ensures.0 c.if-not-are_letters.false))

pub returns : goal.returns
returns c = (
  (λ yes. all_joined (IsLetter c.args.state.now) (λ (actor : ActorRecord). actor.mailbox) c.args.state.now.actors
      (whole_in (λ (actor : ActorRecord). All (IsLetter c.args.state.now) actor.mailbox) c.args.state.now.actors c.as_slice-actor-items.result.now c.as_slice-actor-items.ensures c.loop-actor.actor-index (omega arith) c.loop-actor.invariant)),
  (λ all. refl),
)
