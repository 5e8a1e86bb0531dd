use Rattle.std.proofs.Common.{◌≡◌, ◌∙◌, Some, ap, arith, subst, sym}
use Rattle.std.specs.Prelude.{count_by}
use Rattle.office_types.specs.declared.office.ActorRecord.{ActorRecord}
use Rattle.office_types.specs.Records.{is_active}
use Rattle.office_types.specs.ValidOffice.{is_kid}
use Rattle.snapshot_text.proofs.ParentLemmas.{child_listed}
use Rattle.snapshot_text.proofs.validity.parents.is_child_of.Goals as goal

pub is_listed-requires : goal.is_listed-requires
is_listed-requires c = c.requires.listed.rise

pub returns-in_default : goal.returns-in_default
returns-in_default c = ((λ holds. absurd cc), (λ is. absurd (let none = c.in_default.ensures in let some = is.record' in cc)))

pub returns-then-parent-actor : goal.returns-then-parent-actor
returns-then-parent-actor c = ((λ holds. absurd cc), (λ is. absurd (let less = is.smaller in let not-less = c.if-parent-actor.true in omega arith)))

pub returns-then-not-may_be_under : goal.returns-then-not-may_be_under
returns-then-not-may_be_under c = (
  (λ holds. absurd cc),
  (λ is. absurd (
      let e : Some is.parent ≡ Some c.in-Some.above.now = sym is.record' ∙ sym c.in-Some.ensures in
      let same : is.parent ≡ c.in-Some.above.now = cc in
      let good = c.may_be_under.ensures.1 (λ active. ap is_active (sym same) ∙ is.active active) in
      let bad = c.if-not-may_be_under.true in
      cc)),
)

pub returns : goal.returns
returns c =
    let found = sym c.in-Some.ensures in
    let listed = child_listed c.args.state.now c.requires.rise c.requires.parents c.args.listed.now c.requires.listed c.args.actor.now c.in-Some.above.now c.args.parent c.requires.actor c.requires.parent found in (
      (λ holds. record {
        parent = c.in-Some.above.now;
        record' = found;
        smaller = let less = c.if-parent-actor.false in omega arith;
        listed = listed.0 (c.is_listed.ensures.0 holds);
        active = c.may_be_under.ensures.0 c.if-not-may_be_under.false;
      }),
      (λ is. c.is_listed.ensures.1 (listed.1 (
          let e : Some is.parent ≡ Some c.in-Some.above.now = sym is.record' ∙ found in
          let same : is.parent ≡ c.in-Some.above.now = cc in
          let P : ActorRecord → Type 0 = λ a. count_by (is_kid c.args.actor.now.number) a.kids ≡ 1 in
          subst P same is.listed))),
    )
