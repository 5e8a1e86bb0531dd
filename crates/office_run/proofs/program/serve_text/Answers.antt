use Rattle.std.proofs.Common.{◌-◌, subst, sym}
use Rattle.office_run.specs.declared.command.Command.{Command}
use Rattle.office_run.specs.Run.{Exchange, ServesText}
use Rattle.office_run.proofs.ServeLemmas.{serves-counts, serves-refusal}
use Rattle.office_run.proofs.program.serve_text.Goals as goal

pub returns-in-Err-clause-served : goal.returns-in-Err-clause-served
returns-in-Err-clause-served g c =
    let exchange : Exchange = record {
      input = g.W.Source.left c.args.station.now;
      taken = g.W.Source.taken c.print_line.new.station - g.W.Source.taken c.args.station.now;
      before = g.W.Sink.written c.args.station.now;
      after = g.W.Sink.written c.print_line.new.station;
    } in
    serves-refusal c.refusal_line.result c.in-Err.fault c.args.command.now c.args.text.now c.print_line.result exchange _ _
    c.in-Err.ensures.reading c.refusal_line.ensures c.print_line.ensures.written

pub returns-in-Check-clause-served : goal.returns-in-Check-clause-served
returns-in-Check-clause-served g c =
    let exchange : Exchange = record {
      input = g.W.Source.left c.args.station.now;
      taken = g.W.Source.taken c.print_line-in-Check.new.station - g.W.Source.taken c.args.station.now;
      before = g.W.Sink.written c.args.station.now;
      after = g.W.Sink.written c.print_line-in-Check.new.station;
    } in
    subst (λ (command : Command). ServesText c.print_line-in-Check.result command c.args.text.now exchange) (sym c.in-Check.is)
    (serves-counts c.counts_line.result c.in-Ok.defs c.in-Check.defs c.args.text.now c.print_line-in-Check.result exchange _ _
    c.in-Ok.ensures.reading c.counts_line.ensures c.print_line-in-Check.ensures.written)

pub returns-in-Run-clause-served : goal.returns-in-Run-clause-served
returns-in-Run-clause-served g c =
    let exchange : Exchange = record {
      input = g.W.Source.left c.args.station.now;
      taken = g.W.Source.taken c.host.new.station - g.W.Source.taken c.args.station.now;
      before = g.W.Sink.written c.args.station.now;
      after = g.W.Sink.written c.host.new.station;
    } in
    subst (λ (command : Command). ServesText c.host.result command c.args.text.now exchange) (sym c.in-Run.is) c.host.ensures.hosts
