-- Where a send goes.
use Rattle.std.specs.Prelude.{ℕ, Option, None, Some, if◌then◌else◌}
use Rattle.std.specs.Map.{lookup}
use Rattle.std.specs.Option.{option_and_then}
use Rattle.std.specs.Str.{bytes_eq}
use Rattle.office_types.specs.declared.office.ActorRecord.{ActorRecord}
use Rattle.office_types.specs.declared.office.OfficeState.{OfficeState}
use Rattle.office_types.specs.declared.outcome.To.{To}
use Rattle.office_types.specs.declared.outcome.To.TheVariants as to
use Rattle.office_types.specs.Records.{actor_record, is_active_machine}
use Rattle.office_types.specs.SystemNames.{holder_of}

-- whom a target names, if anybody
abbrev pub named_by : OfficeState → ActorRecord → To → Option ℕ
named_by state actor to.Own = Some actor.number
named_by state actor to.Parent = actor.parent
named_by state actor (to.Child id) = lookup (bytes_eq id) actor.kids
named_by state actor (to.System name) = holder_of name state.names

-- the number, if a letter can go there: to a machine actor that is active
abbrev pub if_active_machine : OfficeState → ℕ → Option ℕ
if_active_machine state number = if is_active_machine state number then Some number else None

-- the actor to which a send goes; what goes to nobody is a dead letter
abbrev pub receiver_of : OfficeState → ℕ → To → Option ℕ
receiver_of state number target =
    option_and_then (if_active_machine state) (option_and_then (λ (actor : ActorRecord). named_by state actor target) (actor_record state number))
