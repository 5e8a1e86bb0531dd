-- What a station's disk has beside it, and what a call of the station's streams leaves of the disk.
use Rattle.std.specs.Prelude.{◌≡◌, ℕ, List}
use Rattle.std.specs.declared.option.Option.{Option}
use Rattle.xs_outside.specs.Beside.{Stamped, HasMoments}
use Rattle.xs_outside.specs.Disk.{DiskState, SameImages, Passes}

-- beside the disk are these: what is left of the input, how much was taken of it, and its count of faults
pub record TellsInput (left : Option (List ℕ)) (taken faults : ℕ) (disk : DiskState) : Type 0 where
  pub input : disk.beside.left ≡ left
  pub handed_out : disk.beside.taken ≡ taken
  pub read_faults : disk.beside.read_faults ≡ faults

-- and these: the output, each byte with its moment, and its count of faults
pub record TellsOutput (written : Option (List ℕ)) (faults : ℕ) (disk : DiskState) : Type 0 where
  pub output : disk.beside.output ≡ written
  pub write_faults : disk.beside.write_faults ≡ faults
  pub moments : HasMoments disk.clock disk.beside

-- time goes by on a disk, and nothing else happens to it
pub record KeepsDisk (old new : DiskState) : Type 0 where
  pub content : new.content ≡ old.content
  pub images : SameImages old new
  pub honest : new.honest ≡ old.honest
  pub faults : new.faults ≡ old.faults
  pub fetched : new.fetched ≡ old.fetched
  pub time : Passes old new

-- a read of the input leaves the disk, and the moments of the output
pub record LeavesDisk (old new : DiskState) : Type 0 where
  pub disk : KeepsDisk old new
  pub moments : new.beside.moments ≡ old.beside.moments

-- a write of output leaves the disk, and gives its bytes a moment of the call
pub record StampsOutput (old new : DiskState) : Type 0 where
  pub disk : KeepsDisk old new
  pub moments : Stamped old.clock new.clock old.beside.moments new.beside.moments
