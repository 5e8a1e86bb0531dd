-- Entries one after the other, and which are legal.
use Rattle.std.specs.Prelude.{◌≡◌, ℕ, ◌<◌, List, [], ◌∷◌, length, Option, None, IsTrue, slice_get}
use Rattle.std.specs.Option.{option_map, option_map_or, option_and_then}
use Rattle.xs_model.specs.declared.value.Value.{Value}
use Rattle.office_types.specs.declared.entry.Entry.{Entry}
use Rattle.office_types.specs.declared.entry.Entry.TheVariants.{Decided, Step}
use Rattle.office_types.specs.declared.limits.TheConstants.{MAX_ENTRIES}
use Rattle.office_types.specs.declared.office.ActorRecord.{ActorRecord}
use Rattle.office_types.specs.declared.office.Letter.{Letter}
use Rattle.office_types.specs.declared.office.OfficeState.{OfficeState}
use Rattle.office_types.specs.declared.outcome.Outcome.{Outcome}
use Rattle.office_types.specs.declared.outcome.Own.{Own}
use Rattle.office_types.specs.Decisions.{decided, undecided}
use Rattle.office_types.specs.Definitions.{OfficeDefinitions, nodes_of}
use Rattle.office_types.specs.Limits.{is_event}
use Rattle.office_types.specs.Observation.{own_of}
use Rattle.office_types.specs.Outcomes.{IsAllowedOutcome}
use Rattle.office_types.specs.OwnParts.{IsOwnPart}
use Rattle.office_types.specs.Records.{is_ready, actor_record}
use Rattle.office_types.specs.RequestLines.{IsRequest}
use Rattle.office_types.specs.Step.{took}

-- the outcome of a macrostep, by the own part and the event that it reads
abbrev pub Macrostep : Type 0
Macrostep = Own → Value → Outcome

-- each outcome is one that the rules allow, where the own part is one of a machine of the definitions,
-- and the event is one
abbrev pub IsAllowedMacrostep : OfficeDefinitions → Macrostep → Type 0
IsAllowedMacrostep definitions macrostep =
    (own : Own) (event : Value) → own.def < length definitions.machines
    → IsOwnPart (nodes_of definitions own.def) own → IsTrue (is_event event)
    → IsAllowedOutcome definitions own (macrostep own event)

-- the letter that an actor takes next
abbrev pub head_of : OfficeState → ℕ → Option Letter
head_of state number = option_and_then (λ (actor : ActorRecord). slice_get actor.mailbox 0) (actor_record state number)

-- the outcome of an actor's next step
abbrev pub next_outcome : Macrostep → OfficeState → ℕ → Option Outcome
next_outcome macrostep state number =
    option_and_then (λ (own : Own). option_map (λ (letter : Letter). macrostep own letter.event) (head_of state number)) (own_of state number)

-- the office after an entry
abbrev pub after_entry : OfficeDefinitions → Macrostep → OfficeState → Entry → OfficeState
after_entry definitions macrostep state (Decided request) = (decided definitions state request).after
after_entry definitions macrostep state (Step number) =
    option_map_or (λ (outcome : Outcome). took definitions number outcome state) (next_outcome macrostep state number) state

-- the office after entries, one after the other
abbrev pub after : OfficeDefinitions → Macrostep → OfficeState → List Entry → OfficeState
after definitions macrostep state [] = state
after definitions macrostep state (entry ∷ entries) = after definitions macrostep (after_entry definitions macrostep state entry) entries

-- a request that a line gives and that is decided, or a step of a ready actor
abbrev pub IsLegalEntry : OfficeState → Entry → Type 0
IsLegalEntry state (Decided request) = IsRequest request × (undecided state request ≡ None)
IsLegalEntry state (Step number) = IsTrue (is_ready state number) × (state.entries < MAX_ENTRIES)

-- each entry is legal at the office that those before it leave
abbrev pub AreLegal : OfficeDefinitions → Macrostep → OfficeState → List Entry → Type 0
AreLegal definitions macrostep state [] = Unit {0}
AreLegal definitions macrostep state (entry ∷ entries) =
    IsLegalEntry state entry × AreLegal definitions macrostep (after_entry definitions macrostep state entry) entries
