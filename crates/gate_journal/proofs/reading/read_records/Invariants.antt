use Rattle.std.proofs.Common.{◌≡◌, IsTrue, length}
use Rattle.xs_outside.specs.Disk.{on}
use Rattle.gate_journal.specs.Reading.{AddsBetween, ReadsOn, Shows, left_behind}
use Rattle.gate_journal.proofs.reading.read_records.Given as goal

abbrev pub invariant-pieces : goal.invariant-pieces
invariant-pieces g l =
    let old = g.D.Disk.state l.initial.disk in
    let text = on l.initial.window.side old.content in record {
      added : IsTrue old.honest → AddsBetween text l.initial.window.place l.window.place l.initial.records l.records l.initial.places.items l.places.items;
      shows : IsTrue old.honest → Shows text l.window;
      reads : ReadsOn old (g.D.Disk.state l.disk) l.initial.window l.window;
      indexed : length l.initial.places.items ≡ length l.initial.records → length l.places.items ≡ length l.records;
      faults : (g.D.Disk.state l.disk).faults ≡ old.faults;
    }

abbrev pub decreases-pieces : goal.decreases-pieces
decreases-pieces g l = left_behind l.window
