-- The words of the command line.
use Rattle.std.specs.Prelude.{◌≡◌, Result, Ok, Err, ℕ, Bool, false, not, ◌&&◌, ◌==◌, List, [], ◌∷◌, Option, None, Some, IsSome, codes, if◌then◌else◌}
use Rattle.std.specs.Str.{bytes_eq}
use Rattle.xs_data.specs.Ascii.{hyphen}
use Rattle.office_run.specs.declared.command.Command.{Command}
use Rattle.office_run.specs.declared.command.Command.TheVariants.{Check, Run}
use Rattle.office_run.specs.declared.command.WordsFault.{WordsFault}
use Rattle.office_run.specs.declared.command.WordsFault.TheVariants.{NoForm, Memory}

-- a word of a form isn't empty, and doesn't begin with `-`
abbrev pub is_word : List ℕ → Bool
is_word [] = false
is_word (b ∷ bs) = not (b == hyphen)

-- the command that the words are: `check DEFS`, `run DEFS JOURNAL`, or none
abbrev pub command_of : List (List ℕ) → Option Command
command_of (check ∷ defs ∷ []) =
    if bytes_eq check (codes "check") && is_word defs then Some (Check defs) else None
command_of (run ∷ defs ∷ journal ∷ []) =
    if bytes_eq run (codes "run") && (is_word defs && is_word journal)
    then Some (Run defs journal)
    else None
command_of _ = None

-- the words are this command, or none; memory may run out where they are one
abbrev pub IsCommand : List (List ℕ) → Result Command WordsFault → Type 0
IsCommand words (Ok command) = command_of words ≡ Some command
IsCommand words (Err NoForm) = command_of words ≡ None
IsCommand words (Err Memory) = IsSome (command_of words)
