-- What the answers of readers and writers mean, at any reader and writer.
use Rattle.std.specs.Prelude.{ℕ, ◌≤◌, ◌==◌, if◌then◌else◌, List, [], length, take, Result, Ok, Err, MatchResult}
use Rattle.std.specs.declared.option.Option.{Option}
use Rattle.std.specs.declared.io.Error.{Error}
use Rattle.std.specs.Io.KnownBytes.{Appends, Consumes, Keeps, IsAtEnd}
use Rattle.xs_outside.specs.declared.streams.Got.{Got}
use Rattle.xs_outside.specs.declared.streams.Got.TheVariants.{Bytes, End, Failed}

-- what a reader's answer means: no bytes are the end, and an error is a failure
abbrev pub got_of : Result ℕ Error → Got
got_of (Ok count) = if count == 0 then End else Bytes count
got_of (Err error) = Failed

-- the next bytes of the reader were taken, at least one and no more than there was room for; or it stands at its end; or
-- nothing was taken
abbrev pub ReadsFrom : Got → List ℕ → Option (List ℕ) → Option (List ℕ) → Type 0
ReadsFrom (Bytes n) into before now = (1 ≤ n) × (n ≤ length into) × Consumes before now (take n into)
ReadsFrom End into before now = Consumes before now [] × IsAtEnd now
ReadsFrom Failed into before now = Keeps before now

-- all bytes went into the writer, or a front part of them where it failed
abbrev pub WritesTo : {E : Type 0} → Result Unit E → List ℕ → Option (List ℕ) → Option (List ℕ) → Type 0
WritesTo result bytes before now = MatchResult result (λ _. Appends before now bytes) (λ _. (n : ℕ) × Appends before now (take n bytes))
