-- What is done so far is what a step may have done.
use Rattle.std.specs.Prelude.{◌≡◌, ◌≤◌, fold}
use Rattle.office_types.specs.declared.limits.TheConstants.{MAX_NEXT_NUMBER}
use Rattle.office_types.specs.declared.outcome.Own.{Own}
use Rattle.office_types.specs.Definitions.{OfficeDefinitions}
use Rattle.office_types.specs.Outcomes.{AreAllowedEffects, children_after}
use Rattle.office_types.specs.OwnParts.{AreChildIds, IsContext}
use Rattle.microstep.specs.declared.progress.Progress.{Progress}

-- beside these definitions, a step of this own part may have come so far
pub record IsAllowedSoFar (definitions : OfficeDefinitions) (own : Own) (progress : Progress) : Type 0 where
  pub effects : AreAllowedEffects definitions own.children progress.effects
  pub children : progress.children ≡ fold children_after own.children progress.effects
  pub context : IsContext progress.context
  pub ids : AreChildIds progress.children
  pub unnamed : own.unnamed ≤ progress.unnamed
  pub numbers : progress.unnamed ≤ MAX_NEXT_NUMBER
