-- One step of an actor, for a given outcome of its macrostep.
use Rattle.std.specs.Prelude.{ℕ, ◌+◌, Some, Ok, Err}
use Rattle.office_types.specs.declared.office.ActorRecord.{ActorRecord}
use Rattle.office_types.specs.declared.office.OfficeState.{OfficeState}
use Rattle.office_types.specs.declared.outcome.End.{End}
use Rattle.office_types.specs.declared.outcome.End.TheVariants as end
use Rattle.office_types.specs.declared.outcome.Outcome.{Outcome}
use Rattle.office_types.specs.declared.outcome.Own.{Own}
use Rattle.office_types.specs.Definitions.{OfficeDefinitions}
use Rattle.office_types.specs.Effects.{after_effects}
use Rattle.office_types.specs.Ends.{after_done, after_failure}
use Rattle.office_types.specs.Events.{fault_error}
use Rattle.office_types.specs.Fitting.{Fitted, ◌>>=◌}
use Rattle.office_types.specs.Mailboxes.{without_head}
use Rattle.office_types.specs.Observation.{after_observation}
use Rattle.office_types.specs.Records.{with_actor}

-- the actor has another own part
abbrev pub with_own : ℕ → Own → OfficeState → OfficeState
with_own number own state = with_actor state number (λ (actor : ActorRecord). record actor { own = Some own })

-- what follows the effects: an actor that stays active tells a parent that observes it what it is now,
-- and one that ends tells its parent of its end
abbrev pub after_conclusion : OfficeDefinitions → ℕ → Own → End → OfficeState → Fitted
after_conclusion definitions number own end.Active state = after_observation definitions number own state
after_conclusion definitions number own (end.Done output) state = after_done number output state
after_conclusion definitions number own (end.Error error) state = Ok (after_failure number error state)

-- the own part, the effects in their order, and the end
abbrev pub after_outcome : OfficeDefinitions → ℕ → Outcome → OfficeState → Fitted
after_outcome definitions number outcome state =
    after_effects definitions number outcome.effects (with_own number outcome.own state) >>= after_conclusion definitions number outcome.own outcome.end

-- the state, or the actor's end in error by the name of what doesn't fit, on the state before
abbrev pub or_failure : ℕ → OfficeState → Fitted → OfficeState
or_failure number before (Ok state) = state
or_failure number before (Err name) = after_failure number (fault_error name) before

-- one entry more
abbrev pub with_entry : OfficeState → OfficeState
with_entry state = record state { entries = state.entries + 1 }

-- an actor takes its head letter, with this outcome
unfoldable pub took : OfficeDefinitions → ℕ → Outcome → OfficeState → OfficeState
took definitions number outcome state =
    let taken : OfficeState = without_head state number in
    with_entry (or_failure number taken (after_outcome definitions number outcome taken))
