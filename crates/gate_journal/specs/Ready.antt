-- Sides that may be written with no call before.
use Rattle.std.specs.Prelude.{ℕ, ◌≤◌, List, length}
use Rattle.gate_journal.specs.Layout.{IsClosed}

-- closed, with two bytes or more
abbrev pub IsReady : List ℕ → Type 0
IsReady side = (2 ≤ length side) × IsClosed side
