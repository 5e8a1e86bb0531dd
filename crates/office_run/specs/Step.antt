-- One step of a run: the next line is taken and answered, or the run ends.
use Rattle.std.specs.Prelude.{◌≡◌, ◌⊎◌, ℕ, ◌+◌, ◌≤◌, true, List, take, Option, None, Some}
use Rattle.std.specs.Io.KnownBytes.{append_known, IsAtEnd}
use Rattle.flat_core.specs.declared.flat.FlatMachine.{FlatMachine}
use Rattle.flat_core.specs.Office.{Office}
use Rattle.office_run.specs.declared.input.TheConstants.{MAX_INPUT}
use Rattle.office_run.specs.declared.program.TheConstants.{TOO_LONG}
use Rattle.office_run.specs.declared.script.Line.{Line}
use Rattle.office_run.specs.declared.status.Status.{Status}
use Rattle.office_run.specs.declared.status.Status.TheVariants.{Done, Usage, Refused, ReadFault, WriteFault, Memory, InputLong}
use Rattle.office_run.specs.Input.{Inflow, taken_count, stream, KeepsCount, IsNextLine, IsCutOff, IsTooMuch}
use Rattle.office_run.specs.Script.{IsLine}
use Rattle.office_run.specs.Replies.{answer_line, office_after}

-- the office and its outside before and after a step
pub record RunState : Type 0 where
  pub office : Office
  pub inflow : Inflow
  pub written : Option (List ℕ)

-- this line came next, as what it was read
pub record TakesLine (old new : RunState) (bytes : List ℕ) (line : Line) : Type 0 where
  pub next : IsNextLine old.inflow new.inflow bytes
  pub is_line : IsLine bytes line
  pub counted : KeepsCount old.inflow new.inflow
  pub limited : taken_count new.inflow.input ≤ MAX_INPUT

-- the line that came next is answered, and its answer written
pub record AnswersLine (machines : List FlatMachine) (old new : RunState) : Type 0 where
  pub bytes : List ℕ
  pub line : Line
  pub takes : TakesLine old new bytes line
  pub office : new.office ≡ office_after machines old.office line
  pub written : new.written ≡ append_known old.written (answer_line machines old.office line)

-- a front part of the answer to the line that came next is written
pub record AnswersPart (machines : List FlatMachine) (old new : RunState) : Type 0 where
  pub bytes : List ℕ
  pub line : Line
  pub takes : TakesLine old new bytes line
  pub count : ℕ
  pub written : new.written ≡ append_known old.written (take count (answer_line machines old.office line))

-- a front part of what is said of an input that is too long is written
pub record RefusesPart (old new : RunState) : Type 0 where
  pub too_much : IsTooMuch old.inflow new.inflow
  pub count : ℕ
  pub written : new.written ≡ append_known old.written (take count TOO_LONG.now)

-- so many bytes were handed out as wait or were used up, or one more
abbrev pub IsBounded : Inflow → Inflow → Type 0
IsBounded old new = new.taken + taken_count old.input ≤ old.taken + (MAX_INPUT + 1)

-- A line is answered and the run goes on. Or it ends: at the end of the input; where a line or the rest can't be read, or its
-- answer not be written; or where the input is too long.
abbrev pub Steps : List FlatMachine → Option Status → RunState → RunState → Type 0
Steps machines None old new = AnswersLine machines old new
Steps machines (Some Done) old new =
    (IsAtEnd (stream old.inflow) ⊎ (old.inflow.input.ended ≡ true)) × (new.written ≡ old.written)
Steps machines (Some ReadFault) old new =
    IsCutOff old.inflow new.inflow × KeepsCount old.inflow new.inflow × (new.written ≡ old.written)
Steps machines (Some InputLong) old new =
    IsTooMuch old.inflow new.inflow × (new.written ≡ append_known old.written TOO_LONG.now)
Steps machines (Some WriteFault) old new = AnswersPart machines old new ⊎ RefusesPart old new
Steps machines (Some Memory) old new = new.written ≡ old.written
Steps machines (Some Usage) old new = ⊥
Steps machines (Some Refused) old new = ⊥
