-- What runs of device calls do to a disk.
use Rattle.std.specs.Prelude.{◌≡◌, Bool, IsTrue, MatchBool}
use Rattle.xs_outside.specs.Counts.{Rose}
use Rattle.xs_outside.specs.Disk.{DiskState, Later, AllSince, MayLeaveNow}

-- What each call of a journal keeps to, whatever it answers: honesty and what is beside the sides stay, the count of faults
-- rises where the answer is a fault and only there, and time goes on.
pub record IsJournalCall (faulty : Bool) (old new : DiskState) : Type 0 where
  pub honest : new.honest ≡ old.honest
  pub beside : new.beside ≡ old.beside
  pub faults : MatchBool faulty (Rose old.faults new.faults) (new.faults ≡ old.faults)
  pub time : Later old new

-- What is read stays, and each image since the start is one of those at the start.
pub record KeepsSides (old new : DiskState) : Type 0 where
  pub content : new.content ≡ old.content
  pub images : IsTrue old.honest → AllSince old.clock (MayLeaveNow old) new
