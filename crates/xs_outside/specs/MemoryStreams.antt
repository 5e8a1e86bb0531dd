-- What a call of a stream in memory counts, and what it leaves as it was.
use Rattle.std.specs.Prelude.{◌≡◌, ℕ, List, Result}
use Rattle.xs_outside.specs.Buffers.{ReadsInput, WritesOutput}
use Rattle.xs_outside.specs.Schedule.{is_due, Counted, IsFresh}
use Rattle.xs_outside.specs.declared.memory.streams.MemoryLink.{MemoryLink}
use Rattle.xs_outside.specs.declared.memory.streams.MemorySink.{MemorySink}
use Rattle.xs_outside.specs.declared.memory.streams.MemorySource.{MemorySource}
use Rattle.xs_outside.specs.declared.streams.Failed.{Failed as Refusal}
use Rattle.xs_outside.specs.declared.streams.Got.{Got}

-- its calls with these numbers are to fail, and none was counted yet
abbrev pub SourceFailsAt : List ℕ → MemorySource → Type 0
SourceFailsAt fails source = IsFresh source.schedule fails

abbrev pub SinkFailsAt : List ℕ → MemorySink → Type 0
SinkFailsAt fails sink = IsFresh sink.schedule fails

abbrev pub LinkFailsAt : List ℕ → MemoryLink → Type 0
LinkFailsAt fails link = IsFresh link.schedule fails

-- a read of a source
pub record ReadsSource (got : Got) (old new : MemorySource) : Type 0 where
  pub schedule : Counted old.schedule new.schedule
  pub input : ReadsInput (is_due old.schedule) got old.input new.input

-- a write to a sink
pub record WritesSink (result : Result Unit Refusal) (old new : MemorySink) : Type 0 where
  pub schedule : Counted old.schedule new.schedule
  pub output : WritesOutput (is_due old.schedule) result old.output new.output

-- a read of a link leaves its output
pub record ReadsLink (got : Got) (old new : MemoryLink) : Type 0 where
  pub schedule : Counted old.schedule new.schedule
  pub input : ReadsInput (is_due old.schedule) got old.input new.input
  pub output : new.output ≡ old.output

-- a write to a link leaves its input
pub record WritesLink (result : Result Unit Refusal) (old new : MemoryLink) : Type 0 where
  pub schedule : Counted old.schedule new.schedule
  pub output : WritesOutput (is_due old.schedule) result old.output new.output
  pub input : new.input ≡ old.input
