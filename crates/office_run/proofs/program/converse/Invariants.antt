use Rattle.std.proofs.Common.{◌≡◌, ◌+◌, ◌-◌, [], false}
use Rattle.office_run.specs.declared.input.TheConstants.{MAX_INPUT}
use Rattle.office_run.specs.Status.{StationFaults}
use Rattle.office_run.specs.Step.{RunState}
use Rattle.office_run.specs.Progress.{IsUnderWay}
use Rattle.office_run.proofs.program.converse.Given as goal

abbrev pub invariant-lines : goal.invariant-lines
invariant-lines g l =
    let start : RunState = record {
      office = l.fn.core.office;
      inflow = record {
        input = record { used = 0; pending = []; ended = false };
        left = g.W.Source.left l.fn.station;
        taken = g.W.Source.taken l.fn.station;
      };
      written = g.W.Sink.written l.fn.station;
    } in
    let now : RunState = record {
      office = l.core.office;
      inflow = record { input = l.input; left = g.W.Source.left l.station; taken = g.W.Source.taken l.station };
      written = g.W.Sink.written l.station;
    } in
    let faults : StationFaults = record { reads = g.W.Source.read_faults l.fn.station; writes = g.W.Sink.write_faults l.fn.station } in
    record {
      way : IsUnderWay l.fn.core.machines start now;
      machines : l.core.machines ≡ l.fn.core.machines;
      faults : ◌≡◌ {A = StationFaults} (record { reads = g.W.Source.read_faults l.station; writes = g.W.Sink.write_faults l.station }) faults;
    }

abbrev pub decreases-lines : goal.decreases-lines
decreases-lines g l = MAX_INPUT + 1 - l.input.used
