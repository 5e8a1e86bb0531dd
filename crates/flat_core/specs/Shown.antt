-- What a lent value shows.
use Rattle.std.specs.Prelude.{IsUtf8}
use Rattle.flat_core.specs.declared.office.FlatValue.{FlatValue}
use Rattle.flat_core.specs.declared.office.FlatValue.TheVariants.{Never, Waiting, Key}
use Rattle.flat_core.specs.Office.{Shown, never, waiting, key}

-- what the value shows
abbrev pub shown_as : FlatValue → Shown
shown_as Never = never
shown_as Waiting = waiting
shown_as (Key bytes) = key bytes.now

-- a key that is shown is text
abbrev pub IsTextShown : FlatValue → Type 0
IsTextShown Never = Unit {0}
IsTextShown Waiting = Unit {0}
IsTextShown (Key bytes) = IsUtf8 bytes.now
