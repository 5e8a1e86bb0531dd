-- The exit status of each end of a run, and whom it blames.
use Rattle.std.specs.Prelude.{◌≡◌, ◌⊎◌, ℕ, Option, None, Some}
use Rattle.xs_outside.specs.Counts.{Rose}
use Rattle.office_run.specs.declared.status.Status.{Status}
use Rattle.office_run.specs.declared.status.Status.TheVariants.{Done, Usage, Refused, ReadFault, WriteFault, Memory, InputLong}
use Rattle.office_run.specs.declared.status.TheConstants.{EXIT_DONE, EXIT_USAGE, EXIT_REFUSED, EXIT_READ_FAULT, EXIT_WRITE_FAULT, EXIT_MEMORY, EXIT_INPUT_LONG}

-- the number of each end
abbrev pub code_of : Status → ℕ
code_of Done = EXIT_DONE
code_of Usage = EXIT_USAGE
code_of Refused = EXIT_REFUSED
code_of ReadFault = EXIT_READ_FAULT
code_of WriteFault = EXIT_WRITE_FAULT
code_of Memory = EXIT_MEMORY
code_of InputLong = EXIT_INPUT_LONG

-- the counts of faults of a station: of its input and of its output
pub record StationFaults : Type 0 where
  pub reads : ℕ
  pub writes : ℕ

-- the count that an end blames rose, and no other moved
abbrev pub CountsFaults : Status → StationFaults → StationFaults → Type 0
CountsFaults ReadFault old new = Rose old.reads new.reads × (new.writes ≡ old.writes)
CountsFaults WriteFault old new = (new.reads ≡ old.reads) × Rose old.writes new.writes
CountsFaults Done old new = new ≡ old
CountsFaults Usage old new = new ≡ old
CountsFaults Refused old new = new ≡ old
CountsFaults Memory old new = new ≡ old
CountsFaults InputLong old new = new ≡ old

-- where the run goes on no count moved
abbrev pub CountsStep : Option Status → StationFaults → StationFaults → Type 0
CountsStep None old new = new ≡ old
CountsStep (Some status) old new = CountsFaults status old new

-- the counts of faults of a run: of the source of the definitions, and of the station
pub record RunFaults : Type 0 where
  pub definitions : ℕ
  pub station : StationFaults

-- the same of a run: where something couldn't be read, it was the definitions or the input
abbrev pub CountsRun : Status → RunFaults → RunFaults → Type 0
CountsRun status old new =
    ((status ≡ ReadFault) × Rose old.definitions new.definitions × (new.station ≡ old.station))
    ⊎ ((new.definitions ≡ old.definitions) × CountsFaults status old.station new.station)
