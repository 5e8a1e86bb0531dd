-- The parts of a step make the step.
use Rattle.std.proofs.Common.{◌≡◌, ℕ, suc, zero, ◌+◌, ◌<◌, ◌≤◌, List, [], ◌∷◌, length, get_or, drop, add-one, refl, ap, sym, subst, ◌∙◌, arith}
use Rattle.std.specs.Prelude.{Err, Ok, Result}
use Rattle.office_types.specs.declared.office.OfficeState.{OfficeState}
use Rattle.office_types.specs.declared.outcome.Effect.{Effect}
use Rattle.office_types.specs.declared.outcome.FaultName.{FaultName}
use Rattle.office_types.specs.declared.outcome.Outcome.{Outcome}
use Rattle.office_types.specs.Definitions.{OfficeDefinitions}
use Rattle.office_types.specs.Effects.{after_effect, after_effects}
use Rattle.office_types.specs.Fitting.{Fitted, ◌>>=◌}
use Rattle.office_types.specs.Outcomes.{AreAllowedEffects, IsAllowedEffect, children_after}
use Rattle.office_types.specs.Step.{took}
use Rattle.actor_tree.specs.declared.unfit.Unfit.{Unfit}
use Rattle.actor_tree.specs.declared.unfit.Unfit.TheVariants.{Fault, Memory}
use Rattle.actor_tree.specs.Changes.{AheadOffice, Goes}
use Rattle.actor_tree.specs.Laws.{StepsAreEntries}

module _ (definitions : OfficeDefinitions) (number : ℕ) where
  -- an effect that fits is followed by the others
  pub effects_more : (effects : List Effect) (place : ℕ) (d : Effect) (state next : OfficeState) → place < length effects → after_effect definitions number (get_or effects place d) state ≡ Ok next
      → after_effects definitions number (drop place effects) state ≡ after_effects definitions number (drop (place + 1) effects) next
  unfolding after_effects
  effects_more [] place d state next within is = absurd (omega (arith, within))
  effects_more (first ∷ others) zero d state next within is = ap (λ (fitted : Fitted). fitted >>= after_effects definitions number others) is
  effects_more (first ∷ others) (suc place) d state next within is = rw add-one (rw add-one at (effects_more others place d state next (omega (arith, within)) is))

  -- one that doesn't ends them
  pub effects_stop : (effects : List Effect) (place : ℕ) (d : Effect) (state : OfficeState) (name : FaultName) → place < length effects → after_effect definitions number (get_or effects place d) state ≡ Err name
      → after_effects definitions number (drop place effects) state ≡ Err name
  unfolding after_effects
  effects_stop [] place d state name within is = absurd (omega (arith, within))
  effects_stop (first ∷ others) zero d state name within is = ap (λ (fitted : Fitted). fitted >>= after_effects definitions number others) is
  effects_stop (first ∷ others) (suc place) d state name within is = effects_stop others place d state name (omega (arith, within)) is

  -- after all of them nothing is left
  pub effects_end : (effects : List Effect) (place : ℕ) (state : OfficeState) → length effects ≤ place → after_effects definitions number (drop place effects) state ≡ Ok state
  unfolding after_effects
  effects_end [] zero state past = refl
  effects_end [] (suc place) state past = refl
  effects_end (first ∷ others) zero state past = absurd (omega (arith, past))
  effects_end (first ∷ others) (suc place) state past = effects_end others place state (omega (arith, past))

-- effects that are allowed in turn are allowed one by one
pub allowed_at : (definitions : OfficeDefinitions) (effects : List Effect) (place : ℕ) (d : Effect) (ids : List (List ℕ)) → place < length effects
    → AreAllowedEffects definitions ids (drop place effects)
    → IsAllowedEffect definitions ids (get_or effects place d) × AreAllowedEffects definitions (children_after ids (get_or effects place d)) (drop (place + 1) effects)
allowed_at definitions [] place d ids within allowed = absurd (omega (arith, within))
allowed_at definitions (first ∷ others) zero d ids within allowed = allowed
allowed_at definitions (first ∷ others) (suc place) d ids within allowed = rw add-one (rw add-one at (allowed_at definitions others place d ids (omega (arith, within)) allowed))

-- what goes wrong is named, or memory was short
pub goes_wrong : (change : AheadOffice → Fitted) (old : AheadOffice) (unfit : Unfit) (result : Result AheadOffice Unfit) → result ≡ Err unfit
    → ((name : FaultName) → unfit ≡ Fault name → change old ≡ Err name) → Goes change old result
goes_wrong change old unfit result is known = subst (Goes change old) (sym is) (by_unfit unfit known) where
  by_unfit : (u : Unfit) → ((name : FaultName) → u ≡ Fault name → change old ≡ Err name) → Goes change old (Err u)
  by_unfit (Fault name) named = named name refl
  by_unfit Memory named = tt

-- the step of an office, with one entry more, is the one that a journal tells
pub steps_are_entries : StepsAreEntries
unfolding took
steps_are_entries definitions number outcome state = refl
