use Rattle.std.proofs.Common.{drop, reverse}
use Rattle.microstep.specs.Readings.{looking_of}
use Rattle.microstep.proofs.WalkLemmas.{IsWalked}
use Rattle.microstep.proofs.picks.picks.Given as goal

-- what the nodes from here on pick
abbrev pub invariant-loop-i : goal.invariant-loop-i
invariant-loop-i l = IsWalked (looking_of l.reading) (drop l.i l.nodes) (reverse l.picked.items)
