use Rattle.std.proofs.Common.{◌≡◌, ◌+◌, ◌≤◌, IsTrue, length, take, drop}
use Rattle.xs_outside.specs.Disk.{on}
use Rattle.gate_journal.specs.Reading.{ReadsOn, Shows, left_behind}
use Rattle.gate_journal.proofs.reading.read_base.Given as goal

abbrev pub invariant-pieces : goal.invariant-pieces
invariant-pieces g l =
    let old = g.D.Disk.state l.initial.disk in
    let text = on l.initial.window.side old.content in record {
      small : length l.base.items ≤ l.size;
      place : l.window.place ≡ l.initial.window.place + length l.base.items;
      base : IsTrue old.honest → l.base.items ≡ take (length l.base.items) (drop l.initial.window.place text);
      shows : IsTrue old.honest → Shows text l.window;
      reads : ReadsOn old (g.D.Disk.state l.disk) l.initial.window l.window;
      faults : (g.D.Disk.state l.disk).faults ≡ old.faults;
    }

abbrev pub decreases-pieces : goal.decreases-pieces
decreases-pieces g l = left_behind l.window
