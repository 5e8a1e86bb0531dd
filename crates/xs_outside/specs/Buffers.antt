-- The input and the output of an object in memory, and what a call does to them.
use Rattle.std.specs.Prelude.{◌≡◌, ◌↔◌, ℕ, Bool, not, List, [], drop, Result, is_ok, is_err, IsTrue, Some}
use Rattle.std.specs.declared.option.Option.{Option}
use Rattle.xs_outside.specs.declared.memory.buffers.InputBuffer.{InputBuffer}
use Rattle.xs_outside.specs.declared.memory.buffers.OutputBuffer.{OutputBuffer}
use Rattle.xs_outside.specs.declared.streams.Failed.{Failed as Refusal}
use Rattle.xs_outside.specs.declared.streams.Got.{Got}
use Rattle.xs_outside.specs.declared.streams.Got.TheVariants.{Failed}
use Rattle.xs_outside.specs.Schedule.{faults_after}

-- the bytes that weren't handed out
abbrev pub left_of : InputBuffer → List ℕ
left_of input = drop input.place input.bytes.items

-- all of these bytes are left of an input, none was taken, and no fault was counted
pub record IsFreshInput (bytes : List ℕ) (left : Option (List ℕ)) (taken faults : ℕ) : Type 0 where
  pub whole : left ≡ Some bytes
  pub none_taken : taken ≡ 0
  pub no_fault : faults ≡ 0

-- nothing was written, and no fault was counted
pub record IsFreshOutput (written : Option (List ℕ)) (faults : ℕ) : Type 0 where
  pub empty : written ≡ Some []
  pub no_fault : faults ≡ 0

-- a read fails where it is to fail, and only there; it counts that, and leaves the input then
pub record ReadsInput (fails : Bool) (got : Got) (old new : InputBuffer) : Type 0 where
  pub failed : (got ≡ Failed) ↔ IsTrue fails
  pub faults : new.faults ≡ faults_after (not fails) old.faults
  pub bytes : new.bytes ≡ old.bytes
  pub place : IsTrue fails → new.place ≡ old.place

-- a write fails where it is to fail; one that fails, there or for want of memory, counts that and writes nothing
pub record WritesOutput (fails : Bool) (result : Result Unit Refusal) (old new : OutputBuffer) : Type 0 where
  pub failed : IsTrue fails → IsTrue (is_err result)
  pub faults : new.faults ≡ faults_after (is_ok result) old.faults
  pub bytes : IsTrue (is_err result) → new.bytes.items ≡ old.bytes.items
