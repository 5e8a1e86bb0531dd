-- What a microstep has done so far.
use Rattle.std.specs.Prelude.{ℕ, ◌+◌, ◌-◌, ◌^◌, List, [], ◌∷◌, ◌++◌, Option, min, if◌then◌else◌}
use Rattle.std.specs.List.{list_any}
use Rattle.std.specs.Str.{bytes_eq}
use Rattle.xs_model.specs.declared.value.Value.{Value}
use Rattle.office_types.specs.declared.outcome.Effect.{Effect}
use Rattle.office_types.specs.declared.outcome.Effect.TheVariants as effect
use Rattle.office_types.specs.declared.outcome.Own.{Own}
use Rattle.office_types.specs.Outcomes.{children_after}
use Rattle.microstep.specs.declared.progress.Progress.{Progress}

-- nothing is done yet
abbrev pub progress_of : Own → Progress
progress_of own = record { context = own.context; children = own.children; unnamed = own.unnamed; raised = []; effects = []; actions = 0 }

-- one action more, up to the greatest number that is counted
abbrev pub counted : Progress → Progress
counted progress = record progress { actions = min (progress.actions + 1) (2 ^ 32 - 1) }

-- one effect more, with what it makes of the children
abbrev pub with_effect : Progress → Effect → Progress
with_effect progress effect = record progress { effects = progress.effects ++ effect ∷ []; children = children_after progress.children effect }

-- one raised event more, the newest last
abbrev pub with_raised : Progress → Value → Progress
with_raised progress event = record progress { raised = progress.raised ++ event ∷ [] }

-- a child with this id is stopped, if there is one
abbrev pub with_stop : Progress → List ℕ → Progress
with_stop progress id = if list_any (bytes_eq id) progress.children then with_effect progress (effect.Stop id) else progress

-- a new child; one that has its id already is stopped first
abbrev pub with_child : Progress → List ℕ → ℕ → Value → Option (List ℕ) → Progress
with_child progress id src input system = with_effect (with_stop progress id) (effect.Spawn id src input system)
