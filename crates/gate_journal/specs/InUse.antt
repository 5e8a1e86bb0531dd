-- A journal that calls may be made of.
use Rattle.std.specs.Prelude.{IsTrue}
use Rattle.std.specs.declared.option.Option.{Option}
use Rattle.xs_outside.specs.Disk.{DiskState}
use Rattle.gate_journal.specs.declared.held.Held.{Held}
use Rattle.gate_journal.specs.declared.journal.Journal.{Journal}
use Rattle.gate_journal.specs.Journal.{CanSwitch, Stands}

-- it isn't shut, and an honest disk stands for it with something, or with nothing where both sides are closed
pub record IsInUse {D : Type 0} (disk : DiskState) (journal : Journal D) : Type 0 where
  pub usable : CanSwitch journal
  pub stands : IsTrue disk.honest → (held : Option Held) × Stands held disk journal
