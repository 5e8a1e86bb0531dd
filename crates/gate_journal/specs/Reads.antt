-- Runs of calls that only read a disk.
use Rattle.std.specs.Prelude.{◌≡◌}
use Rattle.xs_outside.specs.Disk.{DiskState, Later, AllSince, SameImages, MayLeaveNow}

-- A run of lengths and reads: the disk reads what it read, its images are those of before, and at each moment of the run it had no others.
pub record OnlyReads (old new : DiskState) : Type 0 where
  pub content : new.content ≡ old.content
  pub honest : new.honest ≡ old.honest
  pub beside : new.beside ≡ old.beside
  pub images : SameImages old new
  pub since : AllSince old.clock (MayLeaveNow old) new
  pub time : Later old new
