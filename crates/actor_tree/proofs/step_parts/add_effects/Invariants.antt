use Rattle.std.proofs.Common.{◌≡◌, ℕ, List, drop}
use Rattle.office_types.specs.Effects.{after_effects}
use Rattle.office_types.specs.Outcomes.{AreAllowedEffects}
use Rattle.action_table.specs.Definitions.{office_definitions}
use Rattle.actor_tree.specs.Changes.{at_office}
use Rattle.actor_tree.proofs.step_parts.add_effects.Given as goal

-- what is left of the effects is done to the office by now
abbrev pub invariant-loop-effect : goal.invariant-loop-effect
invariant-loop-effect l = record {
  left : after_effects (office_definitions l.defs) l.fn.ahead.actor l.effects l.fn.ahead.office
      ≡ after_effects (office_definitions l.defs) l.fn.ahead.actor (drop l.effect-index l.effects) l.ahead.office;
  kept : l.ahead ≡ at_office l.fn.ahead l.ahead.office;
  allowed : (ids : List (List ℕ)) × AreAllowedEffects (office_definitions l.defs) ids (drop l.effect-index l.effects);
}
