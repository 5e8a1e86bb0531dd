use Rattle.std.proofs.Common.{◌≡◌, ℕ, drop}
use Rattle.step_sets.specs.Goals.{record_of}
use Rattle.step_sets.specs.History.{RecordsNodes}
use Rattle.step_sets.proofs.history.copies.Given as goal

-- the records from here on
abbrev pub invariant-loop-i : goal.invariant-loop-i
invariant-loop-i l = record {
  same : (h : ℕ) → record_of l.records.entries h ≡ record_of (drop l.i l.list) h;
  named : RecordsNodes l.tree l.records.entries;
}
