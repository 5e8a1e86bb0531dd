use Rattle.std.proofs.Common.{◌≡◌, ℕ, ◌∙◌, Err, Ok, ap, get_or, rules, sym}
use Rattle.office_types.specs.declared.outcome.Effect.{Effect}
use Rattle.office_types.specs.declared.outcome.FaultName.{FaultName}
use Rattle.office_types.specs.Effects.{after_effect, after_effects}
use Rattle.office_types.specs.Outcomes.{children_after}
use Rattle.action_table.specs.Definitions.{office_definitions}
use Rattle.actor_tree.specs.declared.unfit.Unfit.TheVariants.{Fault}
use Rattle.actor_tree.specs.Changes.{AheadOffice, at_office}
use Rattle.actor_tree.proofs.StepLemmas.{allowed_at, effects_end, effects_more, effects_stop, goes_wrong}
use Rattle.actor_tree.proofs.step_parts.add_effects.Goals as goal

pub returns-in_err-ahead : goal.returns-in_err-ahead
returns-in_err-ahead c =
    let definitions = office_definitions c.args.defs.now in
    let old = c.args.ahead in
    let middle = c.loop-effect.ahead in
    let item = c.effect-item.result in
    let actor : middle.actor ≡ old.actor = ap (λ (a : AheadOffice). a.actor) c.loop-effect.invariant.kept in
    let known : (name : FaultName) → c.in_err-ahead.field-0.0 ≡ Fault name → after_effects definitions old.actor c.args.effects.now old.office ≡ Err name =
    λ name is. c.loop-effect.invariant.left
    ∙ effects_stop definitions old.actor c.args.effects.now c.loop-effect.effect-index item middle.office name c.loop-effect-test.true
    (ap (λ (e : Effect). after_effect definitions old.actor e middle.office) (sym c.effect-item.is)
    ∙ ap (λ (n : ℕ). after_effect definitions n item middle.office) (sym actor) ∙ (rw is at c.in_err-ahead.ensures.goes)) in
    let same : c.from_residual.result ≡ Err c.in_err-ahead.field-0.0 = search rules in
    record {
      goes = goes_wrong (λ (a : AheadOffice). after_effects definitions a.actor c.args.effects.now a.office) old c.in_err-ahead.field-0.0 c.from_residual.result same known;
    }

pub loop-effect-preserved : goal.loop-effect-preserved
loop-effect-preserved c =
    let definitions = office_definitions c.args.defs.now in
    let old = c.args.ahead in
    let middle = c.loop-effect.ahead in
    let new = c.in_ok-ahead.ahead in
    let place = c.loop-effect.effect-index in
    let item = c.effect-item.result in
    let invariant = c.loop-effect.invariant in
    let goes = c.in_ok-ahead.ensures.goes in
    let actor : middle.actor ≡ old.actor = ap (λ (a : AheadOffice). a.actor) invariant.kept in
    let step : after_effect definitions old.actor (get_or c.args.effects.now place item) middle.office ≡ Ok new.office =
    ap (λ (e : Effect). after_effect definitions old.actor e middle.office) (sym c.effect-item.is)
    ∙ ap (λ (n : ℕ). after_effect definitions n item middle.office) (sym actor) ∙ goes.0 in
    record {
      left = invariant.left ∙ effects_more definitions old.actor c.args.effects.now place item middle.office new.office c.loop-effect-test.true step;
      kept = goes.1 ∙ ap (λ (a : AheadOffice). at_office a new.office) invariant.kept;
      allowed = (
        children_after invariant.allowed.0 (get_or c.args.effects.now place item),
        (allowed_at definitions c.args.effects.now place item invariant.allowed.0 c.loop-effect-test.true invariant.allowed.1).1,
      );
    }

pub returns : goal.returns
returns c = record {
  goes = (
    c.loop-effect.invariant.left
        ∙ effects_end (office_definitions c.args.defs.now) c.args.ahead.actor c.args.effects.now c.loop-effect.effect-index c.loop-effect.ahead.office c.loop-effect-test.false,
    c.loop-effect.invariant.kept,
  );
}
