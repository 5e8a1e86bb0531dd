-- What calls of a side in a file do, at any file system.
use Rattle.std.specs.Prelude.{◌≡◌, ◌⊎◌, ℕ, [], true, Ok, None, Some}
use Rattle.xs_outside.specs.declared.Side.{Side}
use Rattle.xs_outside.specs.declared.Side.TheVariants.{A, B}
use Rattle.xs_outside.specs.Disk.{other}
use Rattle.xoffice.specs.Calls.{Calls, Transfer}
use Rattle.xoffice.specs.Files.{Finds, IfFound, IsMissing}
use Rattle.xoffice.specs.declared.file_disk.FileDisk.{FileDisk}
use Rattle.xoffice.specs.declared.side_file.SideFile.{SideFile}
use Rattle.xoffice.specs.declared.file_system.Access.TheVariants.{Update, Create}

-- where there is a file, this holds of it; else the system said so, and that holds
abbrev pub OfFile : {S F : Type 0} → Calls F → SideFile S F → (F → Type 0) → Type 0 → Type 0
OfFile calls side there missing = elim side.file.file [
  | None ↦ IsMissing calls side.file.path.now × missing
  | Some file ↦ there file
]

-- the file at the side's path, which was open or is opened now
abbrev pub IsItsFile : {S F : Type 0} → Calls F → SideFile S F → F → Type 0
IsItsFile calls old file = Finds (calls.opens Update old.file.path.now) old.file.file file

-- the file that was found has this length; where there is none, it is 0
abbrev pub IsLength : {S F : Type 0} → Calls F → SideFile S F → SideFile S F → ℕ → Type 0
IsLength calls old new n =
    OfFile calls new (λ file. IsItsFile calls old file × calls.measures file (Ok n)) (n ≡ 0)

-- the file that was found gave these bytes; where there is none, there are none
abbrev pub GivesBytes : {S F : Type 0} → Calls F → Transfer → SideFile S F → SideFile S F → Type 0
GivesBytes calls transfer old new = OfFile calls new
    (λ file. IfFound (calls.opens Update old.file.path.now) (λ found. calls.reads transfer (Ok tt) found file) old.file.file)
    (transfer.bytes ≡ [])

-- all bytes went into the file that was found or made
abbrev pub TakesBytes : {S F : Type 0} → Calls F → Transfer → SideFile S F → SideFile S F → Type 0
TakesBytes calls transfer old new = OfFile calls new
    (λ file. IfFound (λ answer. calls.opens Update old.file.path.now answer ⊎ calls.opens Create old.file.path.now answer)
    (λ found. calls.writes transfer (Ok tt) found file) old.file.file)
    ⊥

-- the entry of the file was synced, now or before
abbrev pub HasEntrySynced : {S F : Type 0} → Calls F → SideFile S F → Type 0
HasEntrySynced calls old = (old.is_entry_synced ≡ true) ⊎ calls.syncs_entry old.file.path.now (Ok tt)

-- the file that was found was synced, and its entry; or there is none
abbrev pub IsSynced : {S F : Type 0} → Calls F → SideFile S F → SideFile S F → Type 0
IsSynced calls old new = OfFile calls new
    (λ file. IsItsFile calls old file × calls.syncs file (Ok tt) × HasEntrySynced calls old)
    (Unit {0})

-- one of the two sides
abbrev pub side_of : {S F : Type 0} → Side → FileDisk S F → SideFile S F
side_of A disk = disk.a
side_of B disk = disk.b

-- nothing of the other side changed
abbrev pub KeepsOther : {S F : Type 0} → Side → FileDisk S F → FileDisk S F → Type 0
KeepsOther side old new = side_of (other side) new ≡ side_of (other side) old

-- a length or a read of one of the sides answered
abbrev pub LooksAtSide : {S F : Type 0} → Calls F → FileDisk S F → FileDisk S F → Type 0
LooksAtSide calls old new = (side : Side) × KeepsOther side old new
    × (((n : ℕ) × IsLength calls (side_of side old) (side_of side new) n)
    ⊎ ((transfer : Transfer) × GivesBytes calls transfer (side_of side old) (side_of side new)))

-- a write or a sync of one of the sides answered
abbrev pub StoresOnSide : {S F : Type 0} → Calls F → FileDisk S F → FileDisk S F → Type 0
StoresOnSide calls old new = (side : Side) × KeepsOther side old new
    × (((transfer : Transfer) × TakesBytes calls transfer (side_of side old) (side_of side new))
    ⊎ IsSynced calls (side_of side old) (side_of side new))
