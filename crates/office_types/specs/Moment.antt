-- The advance of an office's moment.
use Rattle.std.specs.Prelude.{ℕ, length, filter, fold, if◌then◌else◌}
use Rattle.office_types.specs.declared.office.OfficeState.{OfficeState}
use Rattle.office_types.specs.declared.office.Origin.TheVariants as origin
use Rattle.office_types.specs.declared.office.Timer.{Timer}
use Rattle.office_types.specs.Mailboxes.{with_letter}
use Rattle.office_types.specs.Records.{is_active_machine}
use Rattle.office_types.specs.Timers.{due_by, not_due}

-- a timer becomes a letter from its owner, or a dead letter if its target is not an active machine actor
abbrev pub with_delivery : OfficeState → Timer → OfficeState
with_delivery state timer =
    if is_active_machine state timer.target then with_letter state (origin.Actor timer.owner) timer.target timer.event else state

-- how many letters the timers become that are due at a moment
abbrev pub due_letters : OfficeState → ℕ → ℕ
due_letters state moment = length (filter (λ (timer : Timer). is_active_machine state timer.target) (due_by moment state.timers))

-- the moment is set, and each timer that is due is taken out and delivered, in the order of due, and then of number
unfoldable pub after_advance : ℕ → OfficeState → OfficeState
after_advance moment state = fold with_delivery (record state { moment = moment; timers = not_due moment state.timers }) (due_by moment state.timers)
