use Rattle.std.proofs.Common.{◌-◌, ◌≤◌, List, ℕ, length, take}
use Rattle.gate_journal.specs.Reading.{Adds}
use Rattle.gate_journal.proofs.scan.take_records.Given as goal

abbrev pub invariant-records : goal.invariant-records
invariant-records l = record {
  inside : l.at ≤ length l.text;
  added : (added : List (List ℕ)) × Adds l.place (take l.at l.text) added l.initial.records l.records l.initial.places.items l.places.items;
}

abbrev pub decreases-records : goal.decreases-records
decreases-records l = length l.text - l.at
