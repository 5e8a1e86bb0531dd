-- A side that holds one record behind a gate, and what a run of calls leaves of it.
use Rattle.std.specs.Prelude.{◌≡◌, ◌⊎◌, List, ℕ, [], ◌∷◌, if◌then◌else◌, ◌==◌, Some, None, Result}
use Rattle.std.specs.declared.option.Option.{Option}
use Rattle.gated_record.specs.declared.record.TheConstants.{OPEN}
use Rattle.xs_outside.specs.Counts.{CountsFailure}
use Rattle.xs_outside.specs.Disk.{DiskState, Sides, Later, on, other}
use Rattle.xs_outside.specs.declared.Side.{Side}
use Rattle.xs_outside.specs.declared.streams.Failed.{Failed as Refusal}

-- what stands behind an open gate
abbrev pub payload_of : List ℕ → Option (List ℕ)
payload_of [] = None
payload_of (gate ∷ payload) = if gate == OPEN then Some payload else None

-- the side holds no record or the whole one, and the other side what it held before
pub record IsAllOrNothing (side : Side) (payload : List ℕ) (before image : Sides) : Type 0 where
  pub recorded : (payload_of (on side image) ≡ None) ⊎ (payload_of (on side image) ≡ Some payload)
  pub beside : on (other side) image ≡ on (other side) before

-- What a run of calls keeps to, whatever it answers: honesty stays, the count of faults rises where the run failed and only
-- there, and time goes on.
pub record IsDiskRun (result : Result Unit Refusal) (old new : DiskState) : Type 0 where
  pub honest : new.honest ≡ old.honest
  pub faults : CountsFailure result old.faults new.faults
  pub time : Later old new
