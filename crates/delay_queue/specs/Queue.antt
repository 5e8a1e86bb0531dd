-- What contracts see of the timers of an office: the list of them by number, and for how many more there is room.
use Rattle.std.specs.Prelude.{◌≡◌, ℕ, min, Bool, true, List, map, find, Option, None, Some, not, filter, nat_eq, nat_le, if◌then◌else◌}
use Rattle.std.specs.List.{AllByRecursion}
use Rattle.office_types.specs.declared.office.Timer.{Timer}
use Rattle.office_books.specs.KeyIndex.{IsIn, IsKeyIndex}
use Rattle.delay_queue.specs.TimerKeys.{due_key, owner_key_of, keyed}

pub record TimerQueue : Type 0 where
  pub timers : List Timer
  pub spare : ℕ

-- the timers that are held by number
abbrev pub timers_in : List (ℕ × Timer) → List Timer
timers_in items = map (λ (pair : ℕ × Timer). pair.1) items

-- each timer is held under its own number
abbrev pub HaveTheirNumbers : List (ℕ × Timer) → Type 0
HaveTheirNumbers items = AllByRecursion (λ (pair : ℕ × Timer). pair.1.order ≡ pair.0) items

-- the timers, and the smallest of three rooms for more
abbrev pub queue_with_room : List Timer → ℕ → ℕ → ℕ → TimerQueue
queue_with_room timers room other_room third_room = record { timers = timers; spare = min room (min other_room third_room) }

-- the timer is an actor's
abbrev pub is_owned : ℕ → Timer → Bool
is_owned actor timer = nat_eq timer.owner actor

-- the timer is due at a moment
abbrev pub falls_due : ℕ → Timer → Bool
falls_due moment timer = nat_le timer.due moment

-- the timer of this number
abbrev pub timer_of : ℕ → List Timer → Option Timer
timer_of order timers = find (λ (timer : Timer). nat_eq timer.order order) timers

-- the timer, if it is due at a moment
abbrev pub due_of : ℕ → Option Timer → Option Timer
due_of moment None = None
due_of moment (Some timer) = if falls_due moment timer then Some timer else None

-- the timers but for the one of this number
abbrev pub without_number : ℕ → List Timer → List Timer
without_number order timers = filter (λ (timer : Timer). not (nat_eq timer.order order)) timers

-- there is a timer of this number, and it passes the test
pub record IsOneOf (test : Timer → Bool) (order : ℕ) (timers : List Timer) : Type 0 where
  pub timer : Timer
  pub is_in : IsIn timer timers
  pub has_number : timer.order ≡ order
  pub passes : (other : Timer) → IsIn other timers → other.order ≡ order → test other ≡ true

-- two lists of the timers' numbers: in the order of due, and by owner and id
pub record HasIndexes (timers : List Timer) (by_due : List ℕ) (by_owner : List ℕ) : Type 0 where
  pub due : IsKeyIndex (keyed due_key timers) by_due
  pub owner : IsKeyIndex (keyed owner_key_of timers) by_owner

-- timers under their own numbers, and two lists of these
pub record AreTimers (items : List (ℕ × Timer)) (by_due : List ℕ) (by_owner : List ℕ) : Type 0 where
  pub numbered : HaveTheirNumbers items
  pub indexes : HasIndexes (timers_in items) by_due by_owner
