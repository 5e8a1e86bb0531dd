use Rattle.gate_journal.specs.InUse.{IsInUse}
use Rattle.gate_journal.specs.Journal.{disk_of}
use Rattle.gate_journal_tests.proofs.tests.script.run.Given as goal

abbrev pub invariant-loop-step : goal.invariant-loop-step
invariant-loop-step g l = IsInUse (g.D.Disk.state (disk_of l.journal)) l.journal
