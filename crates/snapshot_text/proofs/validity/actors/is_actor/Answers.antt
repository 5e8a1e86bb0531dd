use Rattle.std.proofs.Common.{List, ℕ, sym, ◌∙◌}
use Rattle.std.specs.List.{All}
use Rattle.std.proofs.lemmas.List.Elements.{All-contains}
use Rattle.office_types.specs.declared.office.ActorRecord.{ActorRecord}
use Rattle.office_types.specs.ValidOffice.{HasParent}
use Rattle.snapshot_text.proofs.ListLemmas.{if_ok_weaker}
use Rattle.snapshot_text.proofs.validity.actors.is_actor.Goals as goal

pub returns-then-not-is_plain : goal.returns-then-not-is_plain
returns-then-not-is_plain c = (
  (λ holds. absurd cc),
  (λ is. absurd (
      let good = c.is_plain.ensures.1 (record { ended = is.ended; system = is.system; values = record { output = is.output; error = is.error; short = is.values }; mailbox = is.mailbox }) in
      let bad = c.if-not-is_plain.true in
      cc)),
)

pub returns : goal.returns
returns c =
    let plain = c.is_plain.ensures.0 c.if-not-is_plain.false in
    if_ok_weaker c.is_of_one_kind.result c.is_of_one_kind.ensures
    (λ valid tells. (
      (λ holds. record {
        number = c.is_given.ensures.0 c.if-not-is_given.false;
        kind = tells.0 holds;
        parent = c.has_its_parent.ensures.0 c.if-not-has_its_parent.false;
        kids = All-contains (λ (actor : ActorRecord). All (λ (kid : List ℕ × ℕ). HasParent c.args.state.now actor.number kid.1) actor.kids) c.args.state.now.actors c.args.actor.now c.requires.parents c.requires.actor;
        levels = sym c.is_within_levels.ensures ∙ c.if-not-is_within_levels.false;
        ended = plain.ended;
        system = plain.system;
        output = plain.values.output;
        error = plain.values.error;
        values = plain.values.short;
        mailbox = plain.mailbox;
      }),
      (λ is. tells.1 is.kind),
    ))
