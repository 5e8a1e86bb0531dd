-- A journal that knows its last record stands for an open side.
use Rattle.std.proofs.Common.{◌≡◌, refl, subst}
use Rattle.std.specs.Prelude.{Some, None, IsSome}
use Rattle.std.specs.declared.option.Option.{Option}
use Rattle.std.specs.Option.{option_and_then}
use Rattle.xs_outside.specs.Disk.{DiskState}
use Rattle.gate_journal.specs.declared.held.Held.{Held}
use Rattle.gate_journal.specs.declared.journal.Current.{Current}
use Rattle.gate_journal.specs.declared.journal.Journal.{Journal}
use Rattle.gate_journal.specs.Journal.{Knows, Stands, last_of}

some_held : (held : Option Held) (current : Option Current) → Knows held current → IsSome (option_and_then (λ (c : Current). c.last) current) → (one : Held) × (held ≡ Some one)
some_held (Some one) current knows some = (one, refl)
some_held None None knows some = absurd (cc some)
some_held None (Some current) knows some = absurd knows

pub stands_for_one : {D : Type 0} (held : Option Held) (disk : DiskState) (journal : Journal D) → Stands held disk journal → IsSome (last_of journal) → (one : Held) × Stands (Some one) disk journal
stands_for_one held disk journal stands some =
    let one = some_held held journal.current stands.knows some in (one.0, subst (λ h. Stands h disk journal) one.1 stands)
