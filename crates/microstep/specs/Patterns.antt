-- Descriptors that match a type, told by where they end in it.
use Rattle.std.specs.Prelude.{ℕ, List, ◌++◌, take, codes}
use Rattle.microstep.specs.declared.patterns.Pattern.{Pattern}
use Rattle.microstep.specs.declared.patterns.Pattern.TheVariants.{Whole, Part, Any}

-- the descriptor
abbrev pub pattern_text : List ℕ → Pattern → List ℕ
pattern_text type Whole = type
pattern_text type (Part count) = take count type ++ codes ".*"
pattern_text type Any = codes "*"
