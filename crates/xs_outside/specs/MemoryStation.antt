-- What a station in memory tells, and what its calls do.
use Rattle.std.specs.Prelude.{◌≡◌, ℕ, Bool, List, Some, Result}
use Rattle.xs_outside.specs.Buffers.{left_of, ReadsInput, WritesOutput}
use Rattle.xs_outside.specs.Disk.{DiskState}
use Rattle.xs_outside.specs.DiskHistory.{tried_images}
use Rattle.xs_outside.specs.MemoryDisk.{state_of_disk, LooksAtDisk, StoresOnDisk}
use Rattle.xs_outside.specs.Schedule.{is_due, Counted, IsFresh}
use Rattle.xs_outside.specs.Spans.{moments_of}
use Rattle.xs_outside.specs.Station.{LeavesDisk, StampsOutput}
use Rattle.xs_outside.specs.declared.memory.crash.Image.{Image}
use Rattle.xs_outside.specs.declared.memory.station.MemoryStation.{MemoryStation}
use Rattle.xs_outside.specs.declared.streams.Failed.{Failed as Refusal}
use Rattle.xs_outside.specs.declared.streams.Got.{Got}

-- all that it tells: its disk, with the input and the output beside it
abbrev pub state_of_station : MemoryStation → DiskState
state_of_station station = record (state_of_disk station.disk) {
  beside = record {
    left = Some (left_of station.input);
    taken = station.input.place;
    read_faults = station.input.faults;
    write_faults = station.output.buffer.faults;
    output = Some station.output.buffer.bytes.items;
    moments = moments_of station.output.spans.items;
  };
}

-- a read of the input leaves the output and the disk
pub record ReadsStation (got : Got) (old new : MemoryStation) : Type 0 where
  pub schedule : Counted old.disk.schedule new.disk.schedule
  pub input : ReadsInput (is_due old.disk.schedule) got old.input new.input
  pub output : new.output ≡ old.output
  pub disk : LeavesDisk (state_of_station old) (state_of_station new)

-- a write of output leaves the input and the disk, and gives its bytes a moment of the call
pub record WritesStation (result : Result Unit Refusal) (old new : MemoryStation) : Type 0 where
  pub schedule : Counted old.disk.schedule new.disk.schedule
  pub output : WritesOutput (is_due old.disk.schedule) result old.output.buffer new.output.buffer
  pub input : new.input ≡ old.input
  pub disk : StampsOutput (state_of_station old) (state_of_station new)

-- a length or a read of the disk
abbrev pub LooksAtStation : Bool → MemoryStation → MemoryStation → Type 0
LooksAtStation ok old new = LooksAtDisk ok old.disk new.disk

-- a write or a sync of the disk
abbrev pub StoresOnStation : Bool → MemoryStation → MemoryStation → Type 0
StoresOnStation ok old new = StoresOnDisk ok old.disk new.disk

-- its calls with these numbers are to fail, and none was counted yet
abbrev pub StationFailsAt : List ℕ → MemoryStation → Type 0
StationFailsAt fails station = IsFresh station.disk.schedule fails

-- so many calls of the disk are left, and nothing else changed
abbrev pub IsStoppedAfter : ℕ → MemoryStation → MemoryStation → Type 0
IsStoppedAfter k old new = new ≡ record old { disk = record (old.disk) { schedule = record (old.disk.schedule) { disk_calls_left = Some k } } }

-- the images that a station gives to try
abbrev pub images_of_station : MemoryStation → List Image
images_of_station station = tried_images station.disk.sides station.output.buffer.bytes.items
