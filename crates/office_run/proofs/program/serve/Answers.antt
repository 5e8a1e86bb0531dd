use Rattle.std.proofs.Common.{◌-◌, map}
use Rattle.std.specs.Rc.{rc_str_bytes}
use Rattle.office_run.specs.Run.{WholeRun}
use Rattle.office_run.proofs.ServeLemmas.{serves-words}
use Rattle.office_run.proofs.program.serve.Goals as goal

pub returns-in-Ok-clause-served : goal.returns-in-Ok-clause-served
returns-in-Ok-clause-served g c =
    let run : WholeRun = record {
      words = map rc_str_bytes c.args.words.now;
      definitions = g.S.Source.left c.args.defs.now;
      exchange = record {
        input = g.W.Source.left c.args.station.now;
        taken = g.W.Source.taken c.serve_command.new.station - g.W.Source.taken c.args.station.now;
        before = g.W.Sink.written c.args.station.now;
        after = g.W.Sink.written c.serve_command.new.station;
      };
    } in
    serves-words c.serve_command.result c.in-Ok.command run c.in-Ok.ensures c.serve_command.ensures.served
