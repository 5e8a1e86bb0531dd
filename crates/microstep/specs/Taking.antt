-- What a microstep is given, and what its call answers.
use Rattle.std.specs.Prelude.{◌≡◌, ◌≤◌, ℕ, All, AllPairs, Contains, List, [], ◌∷◌, Result, Ok, Err, Some, ⊤, filter_map, fold, length, map}
use Rattle.std.specs.List.Sorted.{IsStrictlyIncreasing}
use Rattle.guard_eval.specs.declared.def.Def.{Def}
use Rattle.guard_eval.specs.declared.transition.Transition.{Transition}
use Rattle.office_types.specs.declared.outcome.Own.{Own}
use Rattle.office_types.specs.Definitions.{OfficeDefinitions}
use Rattle.office_types.specs.Outcomes.{AreAllowedEffects, children_after}
use Rattle.office_types.specs.OwnParts.{HasBegun}
use Rattle.microstep.specs.declared.micro.Micro.{Micro}
use Rattle.microstep.specs.declared.micro.Picked.{Picked}
use Rattle.microstep.specs.declared.micro.StepFault.{StepFault}
use Rattle.microstep.specs.declared.micro.StepFault.TheVariants.{Fault, Memory}
use Rattle.microstep.specs.Micro.{IsLeft}
use Rattle.microstep.specs.Parts.{Stepped}
use Rattle.microstep.specs.Selection.{Place, transition_at}

-- the transitions at these places
abbrev pub transitions_at : Def → Picked → List Transition
transitions_at def picked = filter_map (transition_at def picked.eventless) picked.taken

-- the transition at a place leaves a node
abbrev pub IsLeftFrom : Def → Own → Picked → Place → ℕ → Type 0
IsLeftFrom def own picked place n =
    (transition : Transition) × (transition_at def picked.eventless place ≡ Some transition)
    × IsLeft def own (transition ∷ []) n

-- transitions that can be taken together: of active nodes, in document order, of which no two leave a common node
pub record CanBeTaken (def : Def) (own : Own) (picked : Picked) : Type 0 where
  pub in_order : IsStrictlyIncreasing (map (λ (place : Place). place.0) picked.taken)
  pub active : All (λ (place : Place). Contains own.nodes place.0) picked.taken
  pub in_range : All (λ (place : Place). (transition : Transition) × (transition_at def picked.eventless place ≡ Some transition)) picked.taken
  pub apart : AllPairs (λ (a b : Place). (n : ℕ) → IsLeftFrom def own picked a n → ¬ IsLeftFrom def own picked b n) picked.taken

-- what is given is this, or the name of its fault; want of memory may come at any time
abbrev pub IsAnswered : {X : Type 0} → (Stepped X → Type 0) → Result X StepFault → Type 0
IsAnswered Gives (Ok x) = Gives (Ok x)
IsAnswered Gives (Err (Fault name)) = Gives (Err name)
IsAnswered Gives (Err Memory) = ⊤

-- what a microstep of a well-formed definition leaves, beside a table of so many actors: an own part that has begun, and effects that
-- a step may have
pub record LeavesAllowed (actors : ℕ) (def : Def) (own : Own) (micro : Micro) : Type 0 where
  pub machine : micro.own.def ≡ own.def
  pub begun : HasBegun def.tree micro.own
  pub effects : (definitions : OfficeDefinitions) → length definitions.actors ≡ actors
      → AreAllowedEffects definitions own.children micro.effects
  pub children : micro.own.children ≡ fold children_after own.children micro.effects
  pub unnamed : own.unnamed ≤ micro.own.unnamed
