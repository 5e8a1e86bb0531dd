use Rattle.std.proofs.Common.{List, [], Some, refl, subst, sym, ap, ◌∙◌}
use Rattle.std.proofs.lemmas.List.{append-nil}
use Rattle.flat_core.specs.declared.flat.FlatMachine.{FlatMachine}
use Rattle.office_run.specs.declared.status.Status.{Status}
use Rattle.office_run.specs.Status.{StationFaults, CountsFaults}
use Rattle.office_run.specs.Step.{RunState, Steps}
use Rattle.office_run.proofs.ProgressLemmas.{under_way-start, under_way-line, ends, ends-at_once}
use Rattle.office_run.proofs.program.converse.Goals as goal

pub lines-init : goal.lines-init
lines-init g c = record {
  way = under_way-start _ _ _ c.requires refl refl refl c.in-Ok.ensures;
  machines = refl;
  faults = refl;
}

pub lines-preserved : goal.lines-preserved
lines-preserved g c =
    let before = c.lines.invariant in
    let taken = c.in_default-take_line.ensures in
    record {
      way = under_way-line _ _ _ _ before.way (rw before.machines at taken.steps);
      machines = taken.machines ∙ before.machines;
      faults = taken.faults ∙ before.faults;
    }

pub returns-in_default-clause-converses : goal.returns-in_default-clause-converses
returns-in_default-clause-converses g c = λ input before told known.
    ([], known ∙ ap Some (sym (append-nil before)), ends-at_once c.args.core.now.machines input)

pub returns-in-Some-clause-converses : goal.returns-in-Some-clause-converses
returns-in-Some-clause-converses g c = λ input before told known.
    let way = c.lines.invariant in
    let old : RunState = record {
      office = c.lines.core.office;
      inflow = record { input = c.lines.input; left = g.W.Source.left c.lines.station; taken = g.W.Source.taken c.lines.station };
      written = g.W.Sink.written c.lines.station;
    } in
    let new : RunState = record {
      office = c.take_line.new.core.office;
      inflow = record {
        input = c.take_line.new.input;
        left = g.W.Source.left c.take_line.new.station;
        taken = g.W.Source.taken c.take_line.new.station;
      };
      written = g.W.Sink.written c.take_line.new.station;
    } in
    ends _ _ old new _ input before told known way.way (subst (λ (m : List FlatMachine). Steps m (Some c.in-Some.status) old new) way.machines c.in-Some.ensures.steps)

pub returns-in-Some-clause-form : goal.returns-in-Some-clause-form
returns-in-Some-clause-form g c = λ usage.
    let old : RunState = record {
      office = c.lines.core.office;
      inflow = record { input = c.lines.input; left = g.W.Source.left c.lines.station; taken = g.W.Source.taken c.lines.station };
      written = g.W.Sink.written c.lines.station;
    } in
    let new : RunState = record {
      office = c.take_line.new.core.office;
      inflow = record {
        input = c.take_line.new.input;
        left = g.W.Source.left c.take_line.new.station;
        taken = g.W.Source.taken c.take_line.new.station;
      };
      written = g.W.Sink.written c.take_line.new.station;
    } in
    subst (λ (s : Status). Steps c.lines.core.machines (Some s) old new) usage c.in-Some.ensures.steps

pub returns-in-Some-clause-faults : goal.returns-in-Some-clause-faults
returns-in-Some-clause-faults g c =
    let new : StationFaults = record {
      reads = g.W.Source.read_faults c.take_line.new.station;
      writes = g.W.Sink.write_faults c.take_line.new.station;
    } in
    subst (λ (old : StationFaults). CountsFaults c.in-Some.status old new) c.lines.invariant.faults c.in-Some.ensures.faults
