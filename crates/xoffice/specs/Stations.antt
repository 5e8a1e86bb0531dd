-- What a station over streams and files leaves as it was.
use Rattle.std.specs.Prelude.{◌≡◌}
use Rattle.xoffice.specs.Untold.{TakesTime}
use Rattle.xoffice.specs.declared.standard_station.StandardStation.{StandardStation}

-- a read of the input leaves the count of the output and those of the disk, and takes time
pub record LeavesOutputAndDisk {R W S F : Type 0} (old new : StandardStation R W S F) : Type 0 where
  pub time : TakesTime old.clock new.clock
  pub write_faults : new.write_faults.count ≡ old.write_faults.count
  pub disk_faults : new.disk.faults.count ≡ old.disk.faults.count
  pub fetched : new.disk.fetched ≡ old.disk.fetched

-- a write of output leaves the counts of the input and those of the disk, and takes time
pub record LeavesInputAndDisk {R W S F : Type 0} (old new : StandardStation R W S F) : Type 0 where
  pub time : TakesTime old.clock new.clock
  pub taken : new.tally.taken ≡ old.tally.taken
  pub read_faults : new.tally.faults.count ≡ old.tally.faults.count
  pub disk_faults : new.disk.faults.count ≡ old.disk.faults.count
  pub fetched : new.disk.fetched ≡ old.disk.fetched
