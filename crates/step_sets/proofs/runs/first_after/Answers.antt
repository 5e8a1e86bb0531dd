use Rattle.std.proofs.Common.{arith}
use Rattle.std.specs.Prelude.{Ok, Err}
use Rattle.std.proofs.lemmas.List.Sorted.{searched}
use Rattle.step_sets.proofs.RunLemmas.{rises, rises_upto}
use Rattle.step_sets.proofs.runs.first_after.Goals as goal

pub returns-in-Ok-clause-before : goal.returns-in-Ok-clause-before
returns-in-Ok-clause-before c = λ k less.
    let at = searched c.args.nodes.now c.args.node (Ok c.in-Ok.place) c.in-Ok.ensures.position (rises_upto c.args.nodes.now c.requires) in
    let upto = rises_upto c.args.nodes.now c.requires k c.in-Ok.place (omega arith) at.0 in
    omega (arith, at.1)

pub returns-in-Ok-clause-after : goal.returns-in-Ok-clause-after
returns-in-Ok-clause-after c = λ k from inside.
    let at = searched c.args.nodes.now c.args.node (Ok c.in-Ok.place) c.in-Ok.ensures.position (rises_upto c.args.nodes.now c.requires) in
    let less = rises c.args.nodes.now c.requires c.in-Ok.place k (omega arith) inside in
    omega (arith, at.1)

pub returns-in-Err-clause-before : goal.returns-in-Err-clause-before
returns-in-Err-clause-before c = λ k less.
    let at = searched c.args.nodes.now c.args.node (Err c.in-Err.place) c.in-Err.ensures.position (rises_upto c.args.nodes.now c.requires) in
    omega (arith, at.1 k less)

pub returns-in-Err-clause-after : goal.returns-in-Err-clause-after
returns-in-Err-clause-after c =
    (searched c.args.nodes.now c.args.node (Err c.in-Err.place) c.in-Err.ensures.position (rises_upto c.args.nodes.now c.requires)).2
