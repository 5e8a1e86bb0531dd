use Rattle.std.proofs.Common.{rules}
use Rattle.office_types.specs.Effects.{fresh_own}
use Rattle.macrostep.specs.Macro.{IsFirstMacrostep, outcome_of}
use Rattle.macrostep.specs.Trails.{MayFail, run_with}
use Rattle.macrostep.proofs.OutcomeLemmas.{first_begun, first_fault, first_has_output, first_many, first_outcome, first_run_of, first_within}
use Rattle.macrostep.proofs.completion.first_run.Goals as goal

pub returns-in_err-micro : goal.returns-in_err-micro
returns-in_err-micro c =
    let known : MayFail (λ ended. IsFirstMacrostep c.args.def.now c.args.number c.args.input.now (outcome_of (fresh_own c.args.number) ended)) c.in_err-micro.field-0.0 =
    first_fault c.args.def.now c.args.number c.args.input.now c.in_ok-event.event c.in_err-micro.field-0.0 c.in_ok-event.ensures c.in_err-micro.ensures.gives in
    search (rules, known)

pub returns-in_err-made : goal.returns-in_err-made
returns-in_err-made c =
    let known : MayFail (λ ended. IsFirstMacrostep c.args.def.now c.args.number c.args.input.now (outcome_of (fresh_own c.args.number) ended)) c.in_err-made.field-0.0 =
    first_many c.args.def.now c.args.number c.args.input.now c.in_ok-event.event c.in_ok-micro.micro c.new-trail.result c.in_err-made.field-0.0
    c.in_ok-event.ensures c.new-trail.ensures c.in_ok-micro.ensures.gives c.in_err-made.ensures.fault in
    search (rules, known)

pub follow-requires-clause-begun : goal.follow-requires-clause-begun
follow-requires-clause-begun c =
    let first = first_run_of c.args.def.now c.args.number c.args.input.now c.in_ok-event.event c.in_ok-micro.micro c.new-trail.result c.add.new.self c.in_ok-made.made
    c.in_ok-event.ensures c.new-trail.ensures c.in_ok-micro.ensures.gives c.in_ok-micro.ensures.leaves c.in_ok-made.ensures.added in
    first_begun c.args.def.now c.args.number c.args.input.now c.in_ok-micro.micro (run_with c.in_ok-made.made.own c.in_ok-event.event c.add.new.self) c.in_ok-made.made.finished c.requires first

pub follow-requires-clause-output : goal.follow-requires-clause-output
follow-requires-clause-output c =
    let first = first_run_of c.args.def.now c.args.number c.args.input.now c.in_ok-event.event c.in_ok-micro.micro c.new-trail.result c.add.new.self c.in_ok-made.made
    c.in_ok-event.ensures c.new-trail.ensures c.in_ok-micro.ensures.gives c.in_ok-micro.ensures.leaves c.in_ok-made.ensures.added in
    first_has_output c.args.def.now c.args.number c.args.input.now c.in_ok-micro.micro (run_with c.in_ok-made.made.own c.in_ok-event.event c.add.new.self) c.in_ok-made.made.finished first

pub follow-requires-clause-within : goal.follow-requires-clause-within
follow-requires-clause-within c =
    let first = first_run_of c.args.def.now c.args.number c.args.input.now c.in_ok-event.event c.in_ok-micro.micro c.new-trail.result c.add.new.self c.in_ok-made.made
    c.in_ok-event.ensures c.new-trail.ensures c.in_ok-micro.ensures.gives c.in_ok-micro.ensures.leaves c.in_ok-made.ensures.added in
    first_within c.args.def.now c.args.number c.args.input.now c.in_ok-micro.micro (run_with c.in_ok-made.made.own c.in_ok-event.event c.add.new.self) c.in_ok-made.made.finished first

pub returns : goal.returns
returns c =
    let first = first_run_of c.args.def.now c.args.number c.args.input.now c.in_ok-event.event c.in_ok-micro.micro c.new-trail.result c.add.new.self c.in_ok-made.made
    c.in_ok-event.ensures c.new-trail.ensures c.in_ok-micro.ensures.gives c.in_ok-micro.ensures.leaves c.in_ok-made.ensures.added in
    first_outcome c.args.def.now c.args.number c.args.input.now c.in_ok-micro.micro (run_with c.in_ok-made.made.own c.in_ok-event.event c.add.new.self) c.in_ok-made.made.finished
    first c.follow.result c.follow.ensures.settles c.follow.ensures.allowed c.follow.ensures.within c.follow.ensures.begun
