-- How a run ends, and what it prints.
use Rattle.std.specs.Prelude.{◌≡◌, ◌⊎◌, ℕ, ◌<◌, ◌≤◌, List, [], ◌++◌, length, take, Option, None, Some, ⊤}
use Rattle.action_table.specs.declared.definitions.Defs.{Defs}
use Rattle.action_table.specs.declared.defs_fault.DefsFault.{DefsFault}
use Rattle.action_table.specs.DefsText.{IsRefusedDefs, MeansDefs}
use Rattle.flat_core.specs.declared.flat.FlatMachine.{FlatMachine}
use Rattle.flat_core.specs.Office.{empty_office}
use Rattle.office_run.specs.declared.command.Command.{Command}
use Rattle.office_run.specs.declared.command.Command.TheVariants.{Check, Run}
use Rattle.office_run.specs.declared.input.TheConstants.{MAX_INPUT}
use Rattle.office_run.specs.declared.program.TheConstants.{USAGE, UNHOSTED, TOO_LONG}
use Rattle.office_run.specs.declared.script.Line.{Line}
use Rattle.office_run.specs.declared.status.Status.{Status}
use Rattle.office_run.specs.declared.status.Status.TheVariants.{Done, Usage, Refused, ReadFault, WriteFault, Memory, InputLong}
use Rattle.office_run.specs.Lines.{ended_lines, all_lines}
use Rattle.office_run.specs.Command.{command_of}
use Rattle.office_run.specs.Printing.{IsPart}
use Rattle.office_run.specs.Definitions.{IsHosted, IsUnhosted}
use Rattle.office_run.specs.DefinitionsLines.{counts_line, refusal_line}
use Rattle.office_run.specs.Script.{AreRead}
use Rattle.office_run.specs.Replies.{answers}

-- what passes between a run and its station: what the input had left, how many bytes of it were taken, and what was written
-- before and after
pub record Exchange : Type 0 where
  pub input : Option (List ℕ)
  pub taken : ℕ
  pub before : Option (List ℕ)
  pub after : Option (List ℕ)

-- the same, where the station tells its bytes: the input, how many bytes of it were taken, and what was written
pub record Transcript : Type 0 where
  pub input : List ℕ
  pub taken : ℕ
  pub printed : List ℕ

-- a whole run: its words, the bytes of the definitions, and what passes between it and its station
pub record WholeRun : Type 0 where
  pub words : List (List ℕ)
  pub definitions : Option (List ℕ)
  pub exchange : Exchange

-- the bytes are the office's answers to the lines, from the empty office on
pub record Answered (machines : List FlatMachine) (lines : List (List ℕ)) (bytes : List ℕ) : Type 0 where
  pub read : List Line
  pub each : AreRead lines read
  pub told : bytes ≡ answers machines empty_office read

-- a part of the answers to the first lines of the input, and of the line behind them where the input is too long
pub record IsCutShort (machines : List FlatMachine) (input printed : List ℕ) : Type 0 where
  pub count : ℕ
  pub told : List ℕ
  pub answered : Answered machines (take count (all_lines input)) told
  pub part : IsPart told printed ⊎ ((MAX_INPUT < length input) × IsPart (told ++ TOO_LONG.now) printed)

-- the answers to the lines that ended within the bytes that a run takes, and the line behind them
pub record IsRefusedInput (machines : List FlatMachine) (transcript : Transcript) : Type 0 where
  pub long : MAX_INPUT < length transcript.input
  pub told : List ℕ
  pub answered : Answered machines (ended_lines (take MAX_INPUT transcript.input)) told
  pub printed : transcript.printed ≡ told ++ TOO_LONG.now

-- what the office tells in a conversation that ends so
abbrev pub Tells : Status → List FlatMachine → Transcript → Type 0
Tells Done machines t = (length t.input ≤ MAX_INPUT) × Answered machines (all_lines t.input) t.printed
Tells ReadFault machines t = Answered machines (ended_lines (take t.taken t.input)) t.printed
Tells InputLong machines t = IsRefusedInput machines t
Tells WriteFault machines t = IsCutShort machines t.input t.printed
Tells Memory machines t = IsCutShort machines t.input t.printed
Tells Usage machines t = ⊥
Tells Refused machines t = ⊥

-- the same, where input and output are told
abbrev pub Converses : Status → List FlatMachine → Exchange → Type 0
Converses status machines exchange =
    (input before : List ℕ) → exchange.input ≡ Some input → exchange.before ≡ Some before →
    (printed : List ℕ) × (exchange.after ≡ Some (before ++ printed))
    × Tells status machines (record { input = input; taken = exchange.taken; printed = printed })

-- ---- the lines that tell what became of the definitions

-- the text is refused for a fault, and this is the line of that fault
pub record IsRefusalLine (text line : List ℕ) : Type 0 where
  pub fault : DefsFault
  pub refused : IsRefusedDefs text fault
  pub told : line ≡ refusal_line fault

-- the text means definitions, and this is the line that counts what they have
pub record IsCountsLine (text line : List ℕ) : Type 0 where
  pub defs : Defs
  pub means : MeansDefs text defs
  pub told : line ≡ counts_line defs

-- the line of a text that no run hosts: that of its fault, or where it means definitions the one of those that aren't hosted
abbrev pub IsNotHostedLine : List ℕ → List ℕ → Type 0
IsNotHostedLine text line = IsRefusalLine text line ⊎ (IsUnhosted text × (line ≡ UNHOSTED.now))

-- a front part of a line of this kind, or all
abbrev pub IsPartOfLine : (List ℕ → Type 0) → List ℕ → Type 0
IsPartOfLine IsOne part = (line : List ℕ) × IsOne line × IsPart line part

-- ---- what is printed, by the command

-- the definitions are hosted, and the conversation over them tells this
abbrev pub TellsByText : Status → List ℕ → Transcript → Type 0
TellsByText status text t =
    (machines : List FlatMachine) × IsHosted text machines × Tells status machines t

-- where `run` ends so over this text of the definitions: it isn't hosted, or the office tells this, or neither came about yet
abbrev pub PrintsRun : Status → List ℕ → Transcript → Type 0
PrintsRun Usage text t = ⊥
PrintsRun Refused text t = IsNotHostedLine text t.printed
PrintsRun Done text t = TellsByText Done text t
PrintsRun InputLong text t = TellsByText InputLong text t
PrintsRun ReadFault text t = ((t.printed ≡ []) × (t.taken ≡ 0)) ⊎ TellsByText ReadFault text t
PrintsRun WriteFault text t =
    IsPartOfLine (IsNotHostedLine text) t.printed ⊎ TellsByText WriteFault text t
PrintsRun Memory text t = (t.printed ≡ []) ⊎ TellsByText Memory text t

-- where `check` ends so over it: the text means definitions or is refused, or neither came about yet
abbrev pub PrintsCheck : Status → List ℕ → List ℕ → Type 0
PrintsCheck Usage text printed = ⊥
PrintsCheck Refused text printed = IsRefusalLine text printed
PrintsCheck Done text printed = IsCountsLine text printed
PrintsCheck InputLong text printed = ⊥
PrintsCheck ReadFault text printed = printed ≡ []
PrintsCheck WriteFault text printed =
    IsPartOfLine (IsCountsLine text) printed ⊎ IsPartOfLine (IsRefusalLine text) printed
PrintsCheck Memory text printed = printed ≡ []

-- where a command ends so over this text of its definitions
abbrev pub PrintsInForm : Command → Status → List ℕ → Transcript → Type 0
PrintsInForm (Check defs) status text t = PrintsCheck status text t.printed
PrintsInForm (Run defs journal) status text t = PrintsRun status text t

-- where words in no form end so
abbrev pub PrintsUsage : Status → List ℕ → Type 0
PrintsUsage Usage printed = printed ≡ USAGE.now
PrintsUsage WriteFault printed = IsPart USAGE.now printed
PrintsUsage Done printed = ⊥
PrintsUsage Refused printed = ⊥
PrintsUsage ReadFault printed = ⊥
PrintsUsage Memory printed = ⊥
PrintsUsage InputLong printed = ⊥

-- where words end so that are this command, or none
abbrev pub PrintsAsAsked : Option Command → Status → List ℕ → Transcript → Type 0
PrintsAsAsked None status text t = PrintsUsage status t.printed
PrintsAsAsked (Some command) status text t = PrintsInForm command status text t

-- What is printed at each end of a run, and when that end comes: the words are looked at first, then the definitions, then the
-- lines.
abbrev pub Prints : Status → List (List ℕ) → List ℕ → Transcript → Type 0
Prints status words text t = PrintsAsAsked (command_of words) status text t

-- the same of a command, where its station tells its bytes
abbrev pub ServesText : Status → Command → List ℕ → Exchange → Type 0
ServesText status command text exchange =
    (input before : List ℕ) → exchange.input ≡ Some input → exchange.before ≡ Some before →
    (printed : List ℕ) × (exchange.after ≡ Some (before ++ printed))
    × PrintsInForm command status text
    (record { input = input; taken = exchange.taken; printed = printed })

-- the same, where the source of the definitions tells its bytes
abbrev pub ServesCommand : Status → Command → Option (List ℕ) → Exchange → Type 0
ServesCommand status command definitions exchange =
    (text : List ℕ) → definitions ≡ Some text → ServesText status command text exchange

-- the same of `run`, over a text that means definitions
abbrev pub Hosts : Status → List ℕ → Exchange → Type 0
Hosts status text exchange =
    (input before : List ℕ) → exchange.input ≡ Some input → exchange.before ≡ Some before →
    (printed : List ℕ) × (exchange.after ≡ Some (before ++ printed))
    × PrintsRun status text
    (record { input = input; taken = exchange.taken; printed = printed })

-- the same of words, where the sources and the sink tell their bytes
abbrev pub Serves : Status → WholeRun → Type 0
Serves status run =
    (text input before : List ℕ) → run.definitions ≡ Some text →
    run.exchange.input ≡ Some input → run.exchange.before ≡ Some before →
    (printed : List ℕ) × (run.exchange.after ≡ Some (before ++ printed))
    × Prints status run.words text
    (record { input = input; taken = run.exchange.taken; printed = printed })

-- ---- the ends of a station

-- what an input tells of itself: what it has left, how many bytes of it were taken, and its count of faults
pub record InputState : Type 0 where
  pub left : Option (List ℕ)
  pub taken : ℕ
  pub faults : ℕ

-- only `run` touches the input
abbrev pub LeavesInput : Option Command → InputState → InputState → Type 0
LeavesInput (Some (Run defs journal)) old new = ⊤
LeavesInput (Some (Check defs)) old new = new ≡ old
LeavesInput None old new = new ≡ old
