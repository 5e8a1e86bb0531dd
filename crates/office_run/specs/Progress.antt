-- How far a conversation has come.
use Rattle.std.specs.Prelude.{◌≡◌, ◌⊎◌, ℕ, ◌+◌, ◌<◌, ◌≤◌, true, false, List, [], ◌∷◌, ◌++◌, length, Option}
use Rattle.std.specs.Io.KnownBytes.{prepend_known, append_known, IsAtEnd}
use Rattle.flat_core.specs.declared.flat.FlatMachine.{FlatMachine}
use Rattle.flat_core.specs.Office.{empty_office}
use Rattle.office_run.specs.declared.input.TheConstants.{MAX_INPUT}
use Rattle.office_run.specs.declared.script.Line.{Line}
use Rattle.office_run.specs.Lines.{has_feed, with_feeds}
use Rattle.office_run.specs.Input.{Inflow, stream, taken_count}
use Rattle.office_run.specs.Script.{AreRead}
use Rattle.office_run.specs.Replies.{answers, office_after_all}
use Rattle.office_run.specs.Step.{RunState}

-- no line has a line feed in it
abbrev pub AreFeedless : List (List ℕ) → Type 0
AreFeedless [] = Unit {0}
AreFeedless (line ∷ lines) = (has_feed line ≡ false) × AreFeedless lines

-- these lines were taken, each with its line feed, and the input goes on
pub record AreEndedLines (lines : List (List ℕ)) (first : Option (List ℕ)) (now : Inflow) : Type 0 where
  pub whole : first ≡ prepend_known (with_feeds lines) (stream now)
  pub used : now.input.used ≡ length (with_feeds lines)
  pub ended : now.input.ended ≡ false

-- these lines were taken, the last of them was the rest, and nothing is left
pub record AreAllLines (lines : List (List ℕ)) (first : Option (List ℕ)) (now : Inflow) : Type 0 where
  pub front : List (List ℕ)
  pub last : List ℕ
  pub parts : lines ≡ front ++ last ∷ []
  pub whole : first ≡ prepend_known (with_feeds front ++ last) now.left
  pub at_end : IsAtEnd now.left
  pub some : 0 < length last
  pub used : now.input.used ≡ length (with_feeds front ++ last)
  pub ended : now.input.ended ≡ true

-- these lines were taken of what was left first
abbrev pub AreTakenLines : List (List ℕ) → Option (List ℕ) → Inflow → Type 0
AreTakenLines lines first now = AreEndedLines lines first now ⊎ AreAllLines lines first now

-- these lines were taken and answered
pub record IsUnderWay (machines : List FlatMachine) (start now : RunState) : Type 0 where
  pub lines : List (List ℕ)
  pub read : List Line
  pub each : AreRead lines read
  pub feedless : AreFeedless lines
  pub reached : now.office ≡ office_after_all machines empty_office read
  pub told : now.written ≡ append_known start.written (answers machines empty_office read)
  pub taken_lines : AreTakenLines lines start.inflow.left now.inflow
  pub counted : now.inflow.taken ≡ start.inflow.taken + taken_count now.inflow.input
  pub limited : taken_count now.inflow.input ≤ MAX_INPUT
