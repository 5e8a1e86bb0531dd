-- What the buffer of a line has of it.
use Rattle.std.specs.Prelude.{◌≡◌, ℕ, ◌+◌, ◌-◌, List, ◌++◌, length, take}
use Rattle.flat_core.specs.declared.request_line.TheConstants.{MAX_LINE}
use Rattle.office_run.specs.declared.line_buffer.LineBuffer.{LineBuffer}

-- the line has these bytes more
pub record Extends (old new : LineBuffer) (more : List ℕ) : Type 0 where
  pub len : new.len ≡ old.len + length more
  pub bytes : new.bytes.items
      ≡ old.bytes.items ++ take (MAX_LINE - length old.bytes.items) more

-- the buffer holds this line: as many of its first bytes as a line may have, and how many it has
pub record Holds (buffer : LineBuffer) (line : List ℕ) : Type 0 where
  pub len : buffer.len ≡ length line
  pub bytes : buffer.bytes.items ≡ take MAX_LINE line
