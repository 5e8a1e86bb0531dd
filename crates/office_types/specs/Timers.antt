-- Timers, by their numbers.
use Rattle.std.specs.Prelude.{ℕ, Bool, false, not, ◌&&◌, List, [], ◌∷◌, ◌++◌, filter, nat_eq, nat_le, if◌then◌else◌}
use Rattle.std.specs.Option.{option_map_or}
use Rattle.std.specs.Str.{bytes_eq}
use Rattle.office_types.specs.declared.office.Timer.{Timer}

-- the timer is its owner's one of this id
abbrev pub has_id : ℕ → List ℕ → Timer → Bool
has_id owner id timer = nat_eq timer.owner owner && option_map_or (bytes_eq id) timer.id false

-- the timers but for the owner's one of this id
abbrev pub without_id : ℕ → List ℕ → List Timer → List Timer
without_id owner id timers = filter (λ (timer : Timer). not (has_id owner id timer)) timers

-- the timers that stay beside a new one; a timer without an id replaces none
abbrev pub beside : Timer → List Timer → List Timer
beside timer timers = option_map_or (λ (id : List ℕ). without_id timer.owner id timers) timer.id timers

-- a new timer stands last, and replaces its owner's one of the same id
abbrev pub with_scheduled : List Timer → Timer → List Timer
with_scheduled timers timer = beside timer timers ++ timer ∷ []

-- the timers but for those of an actor
abbrev pub without_owner : ℕ → List Timer → List Timer
without_owner actor timers = filter (λ (timer : Timer). not (nat_eq timer.owner actor)) timers

-- a timer among others in the order of due: before those that are due when it is, or later
abbrev pub insert_by_due : Timer → List Timer → List Timer
insert_by_due timer [] = timer ∷ []
insert_by_due timer (other ∷ others) =
    if nat_le timer.due other.due then timer ∷ other ∷ others else other ∷ insert_by_due timer others

-- timers in the order of due; those that are due at once keep their order
abbrev pub by_due : List Timer → List Timer
by_due [] = []
by_due (timer ∷ timers) = insert_by_due timer (by_due timers)

-- the timers that are due at a moment, in the order of due, and then of number
abbrev pub due_by : ℕ → List Timer → List Timer
due_by moment timers = by_due (filter (λ (timer : Timer). nat_le timer.due moment) timers)

-- the timers that aren't yet
abbrev pub not_due : ℕ → List Timer → List Timer
not_due moment timers = filter (λ (timer : Timer). not (nat_le timer.due moment)) timers
