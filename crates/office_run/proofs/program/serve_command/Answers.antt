use Rattle.std.proofs.Common.{◌-◌, List, ℕ, subst}
use Rattle.office_run.specs.Run.{Exchange, ServesText}
use Rattle.office_run.proofs.DefinitionsLemmas.{serves-taken}
use Rattle.office_run.proofs.program.serve_command.Goals as goal

pub returns-in-Ok-clause-served : goal.returns-in-Ok-clause-served
returns-in-Ok-clause-served g c =
    let exchange : Exchange = record {
      input = g.W.Source.left c.args.station.now;
      taken = g.W.Source.taken c.serve_text.new.station - g.W.Source.taken c.args.station.now;
      before = g.W.Sink.written c.args.station.now;
      after = g.W.Sink.written c.serve_text.new.station;
    } in
    serves-taken c.serve_text.result c.args.command.now c.in-Ok.text.items (g.S.Source.left c.args.defs.now) _ exchange c.in-Ok.ensures.text
    (subst (λ (bytes : List ℕ). ServesText c.serve_text.result c.args.command.now bytes exchange) c.as_slice.ensures.value c.serve_text.ensures.served)
