use Rattle.std.proofs.Common.{◌≡◌, ◌++◌, ◌∷◌, suc, length, map}
use Rattle.microstep.specs.Patterns.{pattern_text}
use Rattle.microstep.proofs.PatternLemmas.{wildcards_below}
use Rattle.microstep.proofs.patterns.patterns_of.Given as goal

-- the descriptors so far and those to come
abbrev pub invariant-loop-count : goal.invariant-loop-count
invariant-loop-count l = map (pattern_text l.kind) l.patterns.items ++ wildcards_below l.kind l.count ≡ l.kind ∷ wildcards_below l.kind (suc (length l.kind))
