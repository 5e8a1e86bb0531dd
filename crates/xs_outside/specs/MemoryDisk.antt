-- What a disk in memory tells, and what its calls do.
use Rattle.std.specs.Prelude.{◌≡◌, ℕ, Bool, true, not, List, IsTrue}
use Rattle.xs_outside.specs.Beside.{nothing}
use Rattle.xs_outside.specs.Disk.{DiskState, IsSettled, SameImages}
use Rattle.xs_outside.specs.DiskHistory.{sides_of_history, MayLeave}
use Rattle.xs_outside.specs.Schedule.{is_due, DiskCallCounted, faults_after, IsFresh}
use Rattle.xs_outside.specs.declared.memory.disk.MemoryDisk.{MemoryDisk}

-- all that it tells
abbrev pub state_of_disk : MemoryDisk → DiskState
state_of_disk disk = record {
  content = sides_of_history disk.sides;
  clock = disk.sides.clock;
  may_leave = MayLeave disk.sides;
  faults = disk.faults;
  fetched = disk.fetched;
  honest = true;
  beside = nothing;
}

-- an honest disk whose sides hold these bytes, nothing pending, and on which nothing was counted
pub record IsFreshDisk (a b : List ℕ) (disk : DiskState) : Type 0 where
  pub honest : IsTrue disk.honest
  pub content : disk.content ≡ record { a = a; b = b }
  pub settled : IsSettled disk
  pub clock : disk.clock ≡ 0
  pub faults : disk.faults ≡ 0
  pub fetched : disk.fetched ≡ 0

-- its calls with these numbers are to fail, and none was counted yet
abbrev pub DiskFailsAt : List ℕ → MemoryDisk → Type 0
DiskFailsAt fails disk = IsFresh disk.schedule fails

-- a length or a read fails where its number is listed, and only there
pub record LooksAtDisk (ok : Bool) (old new : MemoryDisk) : Type 0 where
  pub schedule : DiskCallCounted old.schedule new.schedule
  pub failed : ok ≡ not (is_due old.schedule)
  pub faults : new.faults ≡ faults_after ok old.faults

-- a write or a sync fails where its number is listed; one that fails, there or for want of memory, does nothing
pub record StoresOnDisk (ok : Bool) (old new : MemoryDisk) : Type 0 where
  pub schedule : DiskCallCounted old.schedule new.schedule
  pub failed : IsTrue (is_due old.schedule) → IsTrue (not ok)
  pub faults : new.faults ≡ faults_after ok old.faults
  pub content : IsTrue (not ok) → sides_of_history new.sides ≡ sides_of_history old.sides
  pub images : IsTrue (not ok) → SameImages (state_of_disk old) (state_of_disk new)
