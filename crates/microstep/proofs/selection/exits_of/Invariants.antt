use Rattle.std.proofs.Common.{take}
use Rattle.std.specs.List.{AllZip}
use Rattle.step_sets.specs.Sets.{IsSetOf}
use Rattle.microstep.specs.Readings.{looking_of}
use Rattle.microstep.specs.Selection.{IsLeftBy}
use Rattle.microstep.proofs.selection.exits_of.Given as goal

-- the exit sets so far
abbrev pub invariant-loop-place : goal.invariant-loop-place
invariant-loop-place l = AllZip (λ place. IsSetOf (IsLeftBy (looking_of l.reading) place)) (take l.place-index l.picked) l.exits.items
