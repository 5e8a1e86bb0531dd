use Rattle.std.proofs.Common.{◌≡◌, true}
use Rattle.std.specs.List.{enumerate_from}
use Rattle.microstep.specs.Candidates.{Candidate}
use Rattle.microstep.specs.Readings.{looking_of}
use Rattle.microstep.specs.Selection.{first_enabled}
use Rattle.microstep.proofs.FirstLemmas.{first_from}
use Rattle.microstep.proofs.candidates.first_of.Given as goal

-- none so far is enabled
abbrev pub invariant-loop-place : goal.invariant-loop-place
invariant-loop-place l =
    first_enabled (looking_of l.reading) (enumerate_from 0 l.transitions) ≡ first_from (looking_of l.reading) (λ (candidate : Candidate). true) l.transitions l.place
