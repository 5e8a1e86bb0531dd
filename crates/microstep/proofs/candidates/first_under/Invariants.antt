use Rattle.std.proofs.Common.{◌≡◌}
use Rattle.std.specs.Str.{bytes_eq}
use Rattle.microstep.specs.Candidates.{Candidate, candidates_under}
use Rattle.microstep.specs.Patterns.{pattern_text}
use Rattle.microstep.specs.Readings.{looking_of}
use Rattle.microstep.specs.Selection.{first_enabled}
use Rattle.microstep.proofs.FirstLemmas.{first_from}
use Rattle.microstep.proofs.candidates.first_under.Given as goal

-- none so far is enabled
abbrev pub invariant-loop-place : goal.invariant-loop-place
invariant-loop-place l =
    first_enabled (looking_of l.reading) (candidates_under l.transitions (pattern_text l.reading.kind.now l.pattern))
    ≡ first_from (looking_of l.reading) (λ (candidate : Candidate). bytes_eq candidate.1.descriptor (pattern_text l.reading.kind.now l.pattern)) l.transitions l.place
