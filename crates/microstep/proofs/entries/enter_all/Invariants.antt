use Rattle.std.proofs.Common.{ℕ, Ok, take}
use Rattle.microstep.specs.Working.{AreActsOf, IsActiveUpTo, IsGivenBy}
use Rattle.microstep.proofs.EntryLemmas.{AreEntriesOf}
use Rattle.microstep.proofs.entries.enter_all.Given as goal

-- what the entries so far give
abbrev pub invariant-loop-i : goal.invariant-loop-i
invariant-loop-i l =
    IsGivenBy (AreEntriesOf (λ (n : ℕ). AreActsOf l.def (IsActiveUpTo l.configuration l.entered n) n) (take l.i l.entered)) l.event l.fn.progress (Ok l.progress)
