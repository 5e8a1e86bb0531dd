use Rattle.std.proofs.Common.{◌-◌, List, subst}
use Rattle.flat_core.specs.declared.flat.FlatMachine.{FlatMachine}
use Rattle.office_run.specs.Definitions.{IsHosted}
use Rattle.office_run.specs.Run.{Converses, Exchange}
use Rattle.office_run.proofs.ServeLemmas.{hosts-answers}
use Rattle.office_run.proofs.program.host.Goals as goal

pub returns-in-Ok-clause-hosts : goal.returns-in-Ok-clause-hosts
returns-in-Ok-clause-hosts g c =
    let exchange : Exchange = record {
      input = g.W.Source.left c.args.station.now;
      taken = g.W.Source.taken c.converse.new.station - g.W.Source.taken c.args.station.now;
      before = g.W.Sink.written c.args.station.now;
      after = g.W.Sink.written c.converse.new.station;
    } in
    let hosted : IsHosted c.args.text.now c.in-Ok.machines = record { defs = c.requires.0; means = c.requires.1; flat = c.in-Ok.ensures } in
    hosts-answers c.converse.result c.in-Ok.machines c.args.text.now exchange hosted
    (subst (λ (m : List FlatMachine). Converses c.converse.result m exchange) c.new-core.ensures.machines c.converse.ensures.converses)
