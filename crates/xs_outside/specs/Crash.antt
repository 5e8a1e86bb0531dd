-- Some of the ways in which a crash may end for a side in memory.
use Rattle.std.specs.Prelude.{ℕ, List, [], ◌∷◌, length, take, replicate, map}
use Rattle.std.specs.List.{flat_map}
use Rattle.xs_outside.specs.declared.memory.crash.Fate.{Fate}
use Rattle.xs_outside.specs.declared.memory.crash.Fate.TheVariants.{LeftOut, Done, Filled, FilledAndGrown}
use Rattle.xs_outside.specs.declared.memory.crash.Image.{Image}
use Rattle.xs_outside.specs.declared.memory.history.SideChange.{SideChange}
use Rattle.xs_outside.specs.declared.memory.history.SideChange.TheVariants.{Write, Sync}
use Rattle.xs_outside.specs.History.{side_after_write, content_of}

-- a side after a write that met this fate
abbrev pub side_after_fate : Fate → ℕ → List ℕ → List ℕ → List ℕ
side_after_fate LeftOut at bytes side = side
side_after_fate Done at bytes side = side_after_write at bytes side
side_after_fate (Filled byte) at bytes side = take (length side) (side_after_write at (replicate (length bytes) byte) side)
side_after_fate (FilledAndGrown byte) at bytes side = side_after_write at (replicate (length bytes) byte) side

-- a side after these changes, where each write since the last sync met this fate
abbrev pub side_after_crash : Fate → List ℕ → List SideChange → List ℕ
side_after_crash fate start [] = start
side_after_crash fate start (Sync moment ∷ earlier) = content_of start earlier
side_after_crash fate start (Write moment at bytes ∷ earlier) = side_after_fate fate at bytes (side_after_crash fate start earlier)

-- the fates that are tried: all of them where a write isn't synced
abbrev pub fates_of : List SideChange → List Fate
fates_of [] = Done ∷ []
fates_of (Sync moment ∷ earlier) = Done ∷ []
fates_of (Write moment at bytes ∷ earlier) = LeftOut ∷ Done ∷ Filled 0 ∷ FilledAndGrown 0 ∷ Filled 1 ∷ FilledAndGrown 1 ∷ Filled 255 ∷ FilledAndGrown 255 ∷ []

-- the sides that these leave
abbrev pub sides_after_crashes : List ℕ → List SideChange → List (List ℕ)
sides_after_crashes start history = map (λ fate. side_after_crash fate start history) (fates_of history)

-- each way of the one side with each of the other
abbrev pub images_of : List (List ℕ) → List (List ℕ) → List ℕ → List Image
images_of sides others output = flat_map (λ a. map (λ b. record { a = a; b = b; output = output }) others) sides
