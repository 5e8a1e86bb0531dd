-- The moments of the bytes of an output in memory.
use Rattle.std.specs.Prelude.{ℕ, List, [], ◌∷◌, ◌++◌, replicate}
use Rattle.xs_outside.specs.declared.memory.buffers.Span.{Span}

-- the moment of each byte
abbrev pub moments_of : List Span → List ℕ
moments_of [] = []
moments_of (span ∷ spans) = replicate span.count span.moment ++ moments_of spans
