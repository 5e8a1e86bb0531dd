-- A side in memory keeps how it came to what it reads. Of a history the last change stands first.
use Rattle.std.specs.Prelude.{◌≡◌, ℕ, ◌+◌, List, [], ◌∷◌, ◌++◌, length, take, drop, leb, Bool, true, ◌&&◌, if◌then◌else◌}
use Rattle.xs_outside.specs.declared.memory.history.SideChange.{SideChange}
use Rattle.xs_outside.specs.declared.memory.history.SideChange.TheVariants.{Write, Sync}
use Rattle.xs_outside.specs.Disk.{Torn}

-- the moment of a change
abbrev pub moment_of : SideChange → ℕ
moment_of (Write moment at bytes) = moment
moment_of (Sync moment) = moment

-- the moment of the last change, or 0
abbrev pub latest : List SideChange → ℕ
latest [] = 0
latest (change ∷ earlier) = moment_of change

-- the part of a history up to a moment
abbrev pub made_by : ℕ → List SideChange → List SideChange
made_by moment [] = []
made_by moment (change ∷ earlier) = if leb (moment_of change) moment then change ∷ earlier else made_by moment earlier

-- bytes in the place of those that stand there, and past the end
abbrev pub side_after_write : ℕ → List ℕ → List ℕ → List ℕ
side_after_write at bytes old = take at old ++ bytes ++ drop (at + length bytes) old

-- what a side reads after these changes
abbrev pub content_of : List ℕ → List SideChange → List ℕ
content_of start [] = start
content_of start (Write moment at bytes ∷ earlier) = side_after_write at bytes (content_of start earlier)
content_of start (Sync moment ∷ earlier) = content_of start earlier

-- what a crash after these changes may leave of a side: each write is torn, until a sync leaves what is read
abbrev pub CrashLeaves : List ℕ → List SideChange → List ℕ → Type 0
CrashLeaves start [] side = side ≡ start
CrashLeaves start (Write moment at bytes ∷ earlier) side = (from : List ℕ) × CrashLeaves start earlier from × Torn at (length bytes) from side
CrashLeaves start (Sync moment ∷ earlier) side = CrashLeaves start earlier side × (side ≡ content_of start earlier)

-- each write began inside the side or at its end
abbrev pub in_place : List ℕ → List SideChange → Bool
in_place start [] = true
in_place start (Write moment at bytes ∷ earlier) = leb at (length (content_of start earlier)) && in_place start earlier
in_place start (Sync moment ∷ earlier) = in_place start earlier
