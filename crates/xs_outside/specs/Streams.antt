-- What a call does to the bytes that a source has left and to those that a sink holds, where they are told.
use Rattle.std.specs.Prelude.{◌≡◌, ℕ, ◌≤◌, List, length, take, Result, MatchResult}
use Rattle.std.specs.Io.KnownBytes.{prepend_known, append_known, IsAtEnd}
use Rattle.std.specs.declared.option.Option.{Option}
use Rattle.xs_outside.specs.declared.streams.Got.{Got}
use Rattle.xs_outside.specs.declared.streams.Got.TheVariants.{Bytes, End, Failed}
use Rattle.xs_outside.specs.declared.streams.Failed.{Failed as Refusal}
use Rattle.xs_outside.specs.Counts.{Rose}

-- how many bytes an answer hands out
abbrev pub bytes_given : Got → ℕ
bytes_given (Bytes n) = n
bytes_given End = 0
bytes_given Failed = 0

-- a read filled the front of `into` with the next bytes, at least one; or nothing is left; or it failed and took nothing
abbrev pub ReadGives : Got → List ℕ → Option (List ℕ) → Option (List ℕ) → Type 0
ReadGives (Bytes n) into before now = (1 ≤ n) × (n ≤ length into) × (before ≡ prepend_known (take n into) now)
ReadGives End into before now = (now ≡ before) × IsAtEnd before
ReadGives Failed into before now = now ≡ before

-- the count of faults rose where the read failed, and stayed where it didn't
abbrev pub CountsReadFailure : Got → ℕ → ℕ → Type 0
CountsReadFailure (Bytes n) before now = now ≡ before
CountsReadFailure End before now = now ≡ before
CountsReadFailure Failed before now = Rose before now

-- a write appended all bytes, or a front part of them where it failed
abbrev pub WriteAdds : Result Unit Refusal → List ℕ → Option (List ℕ) → Option (List ℕ) → Type 0
WriteAdds result bytes before now = MatchResult result (λ _. now ≡ append_known before bytes) (λ _. (n : ℕ) × (now ≡ append_known before (take n bytes)))
