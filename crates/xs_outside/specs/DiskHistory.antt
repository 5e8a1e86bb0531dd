-- What a disk in memory tells of itself, from the histories of its sides.
use Rattle.std.specs.Prelude.{ℕ, List, reverse, true}
use Rattle.xs_outside.specs.Beside.{nothing}
use Rattle.xs_outside.specs.Crash.{sides_after_crashes, images_of}
use Rattle.xs_outside.specs.Disk.{Sides, DiskState}
use Rattle.xs_outside.specs.History.{CrashLeaves, made_by}
use Rattle.xs_outside.specs.declared.memory.crash.Image.{Image}
use Rattle.xs_outside.specs.declared.memory.disk_history.DiskHistory.{DiskHistory}
use Rattle.xs_outside.specs.declared.memory.history.SideHistory.{SideHistory}

-- what both sides read
abbrev pub sides_of_history : DiskHistory → Sides
sides_of_history disk = record { a = disk.a.content.items; b = disk.b.content.items }

-- what a crash at a moment may have left of a side
abbrev pub SideMayLeave : SideHistory → ℕ → List ℕ → Type 0
SideMayLeave side moment = CrashLeaves side.start.items (made_by moment (reverse side.changes.items))

-- what a crash at a moment may have left of both
abbrev pub MayLeave : DiskHistory → ℕ → Sides → Type 0
MayLeave disk moment image = SideMayLeave disk.a moment image.a × SideMayLeave disk.b moment image.b

-- all that the histories tell, with nothing counted and nothing beside them
abbrev pub state_of_history : DiskHistory → DiskState
state_of_history disk = record {
  content = sides_of_history disk;
  clock = disk.clock;
  may_leave = MayLeave disk;
  faults = 0;
  fetched = 0;
  honest = true;
  beside = nothing;
}

-- each way in which a crash may end for the one side with each for the other, and the output
abbrev pub tried_images : DiskHistory → List ℕ → List Image
tried_images disk output = images_of (sides_after_crashes disk.a.start.items (reverse disk.a.changes.items)) (sides_after_crashes disk.b.start.items (reverse disk.b.changes.items)) output

-- the sides of an image
abbrev pub sides_of_image : Image → Sides
sides_of_image image = record { a = image.a; b = image.b }
