use Rattle.std.proofs.Common.{◌≡◌, ◌-◌}
use Rattle.office_run.specs.declared.input.TheConstants.{MAX_INPUT}
use Rattle.office_run.specs.Input.{IsReading, taken_count}
use Rattle.office_run.proofs.input.Input.next_line.Given as goal

abbrev pub invariant-pieces : goal.invariant-pieces
invariant-pieces g l = record {
  reading : IsReading
      (record { input = l.fn.self; left = g.S.Source.left l.fn.source; taken = g.S.Source.taken l.fn.source })
      (record { input = l.self; left = g.S.Source.left l.source; taken = g.S.Source.taken l.source })
      l.line;
  written : g.S.Sink.written l.source ≡ g.S.Sink.written l.fn.source;
  write_faults : g.S.Sink.write_faults l.source ≡ g.S.Sink.write_faults l.fn.source;
  read_faults : g.S.Source.read_faults l.source ≡ g.S.Source.read_faults l.fn.source;
}

abbrev pub decreases-pieces : goal.decreases-pieces
decreases-pieces g l = MAX_INPUT - taken_count l.self
