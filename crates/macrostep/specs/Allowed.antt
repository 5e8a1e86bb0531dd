-- That what a macrostep gives is what the rules of an office allow.
use Rattle.std.specs.Prelude.{◌≡◌, ◌≤◌, ℕ, fold, length}
use Rattle.guard_eval.specs.declared.def.Def.{Def}
use Rattle.guard_eval.specs.Definitions.{IsWellFormed}
use Rattle.office_types.specs.declared.limits.TheConstants.{MAX_MICROSTEPS}
use Rattle.office_types.specs.declared.outcome.Outcome.{Outcome}
use Rattle.office_types.specs.declared.outcome.Own.{Own}
use Rattle.office_types.specs.Definitions.{OfficeDefinitions, nodes_of}
use Rattle.office_types.specs.Outcomes.{AreAllowedEffects, IsAllowedOutcome, children_after}
use Rattle.office_types.specs.OwnParts.{HasBegun}
use Rattle.macrostep.specs.Macro.{Run}

-- a run of an actor with this own part, beside a table of so many actors, is one that a step may have
pub record IsAllowedRun (actors : ℕ) (def : Def) (own : Own) (run : Run) : Type 0 where
  pub machine : run.own.def ≡ own.def
  pub begun : HasBegun def.tree run.own
  pub effects : (definitions : OfficeDefinitions) → length definitions.actors ≡ actors
      → AreAllowedEffects definitions own.children run.effects
  pub children : run.own.children ≡ fold children_after own.children run.effects
  pub unnamed : own.unnamed ≤ run.own.unnamed
  pub micros : length run.read ≤ MAX_MICROSTEPS

-- the machine of this number is this one, well formed beside the table of actors
pub record IsMachineOf (definitions : OfficeDefinitions) (machine : ℕ) (def : Def) : Type 0 where
  pub nodes : nodes_of definitions machine ≡ def.tree
  pub well_formed : IsWellFormed (length definitions.actors) def

-- in each office with this machine the rules allow the outcome
abbrev pub IsAllowedFor : Def → Own → Outcome → Type 0
IsAllowedFor def own outcome =
    (definitions : OfficeDefinitions) → IsMachineOf definitions own.def def → IsAllowedOutcome definitions own outcome

-- what is allowed of one run is allowed of what comes of it
abbrev pub KeepsAllowed : Def → Run → Run → Type 0
KeepsAllowed def before after =
    (actors : ℕ) (own : Own) → IsWellFormed actors def → IsAllowedRun actors def own before → IsAllowedRun actors def own after

-- where the run is allowed of an actor with this own part, the outcome that comes of it is
abbrev pub IsAllowedEnd : Def → Run → Outcome → Type 0
IsAllowedEnd def run outcome =
    (definitions : OfficeDefinitions) (own : Own) → IsMachineOf definitions own.def def
    → IsAllowedRun (length definitions.actors) def own run → IsAllowedOutcome definitions own outcome
