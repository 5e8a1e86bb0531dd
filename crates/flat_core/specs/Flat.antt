-- Where an event leads in a flat machine.
use Rattle.std.specs.Prelude.{ℕ, List, [], Option, find, option_map, unwrap_or, slice_get}
use Rattle.std.specs.Option.{option_map_or}
use Rattle.std.specs.Str.{bytes_eq}
use Rattle.flat_core.specs.declared.flat.FlatTransition.{FlatTransition}
use Rattle.flat_core.specs.declared.flat.FlatMachine.{FlatMachine}

-- the transitions of the state at a place
abbrev pub transitions_at : FlatMachine → ℕ → List FlatTransition
transitions_at machine place =
    option_map_or (λ state. state.transitions) (slice_get machine.states place) []

-- the transition that an event of this type takes, if there is one
abbrev pub transition_for : FlatMachine → ℕ → List ℕ → Option FlatTransition
transition_for machine place event =
    find (λ transition. bytes_eq transition.descriptor event) (transitions_at machine place)

-- where an event of this type leads from a state: by the transition of that descriptor, and nowhere else without one
abbrev pub state_after : FlatMachine → ℕ → List ℕ → ℕ
state_after machine place event =
    unwrap_or (option_map (λ transition. transition.state) (transition_for machine place event)) place
