use Rattle.std.proofs.Common.{◌≡◌, map}
use Rattle.std.specs.List.{flat_map}
use Rattle.microstep.specs.Candidates.{candidates_under}
use Rattle.microstep.specs.Patterns.{pattern_text}
use Rattle.microstep.specs.Readings.{looking_of}
use Rattle.microstep.specs.Selection.{first_enabled}
use Rattle.microstep.proofs.FirstLemmas.{under_from}
use Rattle.microstep.proofs.candidates.first_for.Given as goal

-- none under the descriptors so far is enabled
abbrev pub invariant-loop-pattern : goal.invariant-loop-pattern
invariant-loop-pattern l =
    first_enabled (looking_of l.reading) (flat_map (candidates_under l.transitions) (map (pattern_text l.reading.kind.now) l.reading.patterns.now))
    ≡ first_enabled (looking_of l.reading) (under_from l.transitions l.reading.kind.now l.reading.patterns.now l.pattern-index)
