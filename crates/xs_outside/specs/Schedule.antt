-- Which calls of an object in memory fail.
use Rattle.std.specs.Prelude.{◌≡◌, ℕ, List, ◌-◌, Bool, false, ◌||◌, ◌==◌, None, Some, if◌then◌else◌}
use Rattle.std.specs.List.{list_any}
use Rattle.std.specs.declared.option.Option.{Option}
use Rattle.xs_outside.specs.Counts.{saturating_next}
use Rattle.xs_outside.specs.declared.memory.schedule.Schedule.{Schedule}

-- no call of the disk is left
abbrev pub is_stopped : Option ℕ → Bool
is_stopped None = false
is_stopped (Some left) = left == 0

-- the next call is to fail: its number is in the list, or the disk has stopped
abbrev pub is_due : Schedule → Bool
is_due schedule = is_stopped schedule.disk_calls_left || list_any (λ number. number == saturating_next schedule.calls) schedule.fails.items

-- how many calls of the disk are left after one of them
abbrev pub one_less : Option ℕ → Option ℕ
one_less None = None
one_less (Some left) = Some (left - 1)

-- a call was counted
pub record Counted (old new : Schedule) : Type 0 where
  pub calls : new.calls ≡ saturating_next old.calls
  pub fails : new.fails ≡ old.fails
  pub left : new.disk_calls_left ≡ old.disk_calls_left

-- a call of the disk was counted
pub record DiskCallCounted (old new : Schedule) : Type 0 where
  pub calls : new.calls ≡ saturating_next old.calls
  pub fails : new.fails ≡ old.fails
  pub left : new.disk_calls_left ≡ one_less old.disk_calls_left

-- a count of faults after a call that succeeded or not
abbrev pub faults_after : Bool → ℕ → ℕ
faults_after ok before = if ok then before else saturating_next before

-- no call was counted, and those of this list are to fail
pub record IsFresh (schedule : Schedule) (fails : List ℕ) : Type 0 where
  pub listed : schedule.fails.items ≡ fails
  pub calls : schedule.calls ≡ 0
  pub unstopped : schedule.disk_calls_left ≡ None
