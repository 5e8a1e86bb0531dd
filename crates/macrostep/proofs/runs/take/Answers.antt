use Rattle.std.proofs.Common.{rules, refl, sym, ◌∙◌}
use Rattle.macrostep.specs.Macro.{Takes, run_of}
use Rattle.macrostep.specs.Trails.{MayFail, run_with}
use Rattle.macrostep.proofs.RunLemmas.{event_fault, made_allowed, start_allowed, start_within, take_fault, take_none, take_some}
use Rattle.macrostep.proofs.runs.take.Goals as goal

pub returns-in_err-picked-clause-settles : goal.returns-in_err-picked-clause-settles
returns-in_err-picked-clause-settles c =
    let run = run_of c.args.own c.args.event.now in
    let known : MayFail (Takes c.args.def.now run) c.in_err-picked.field-0.0 =
    event_fault c.args.def.now run c.args.event.now c.in_err-picked.field-0.0 refl c.in_err-picked.ensures.selected in
    search (rules, known)

pub follow-requires-clause-within : goal.follow-requires-clause-within
follow-requires-clause-within c = start_within c.args.own c.args.event.now c.new-trail.result (c.new-trail.ensures c.args.own c.args.event.now)

pub returns-then-is_empty-clause-settles : goal.returns-then-is_empty-clause-settles
returns-then-is_empty-clause-settles c =
    take_none c.args.def.now c.args.own c.args.event.now c.new-trail.result c.in_ok-picked.picked (c.new-trail.ensures c.args.own c.args.event.now)
    c.in_ok-picked.ensures.selected (sym c.is_empty.ensures ∙ c.if-is_empty.true) c.follow.result c.follow.ensures.settles

pub returns-then-is_empty-clause-allowed : goal.returns-then-is_empty-clause-allowed
returns-then-is_empty-clause-allowed c =
    start_allowed c.args.def.now _ _ c.follow.result (c.new-trail.ensures c.args.own c.args.event.now) c.follow.ensures.allowed

pub make-requires-clause-within : goal.make-requires-clause-within
make-requires-clause-within c = start_within c.args.own c.args.event.now c.new-trail.result (c.new-trail.ensures c.args.own c.args.event.now)

pub returns-in_err-made-clause-settles : goal.returns-in_err-made-clause-settles
returns-in_err-made-clause-settles c =
    let known : MayFail (Takes c.args.def.now (run_of c.args.own c.args.event.now)) c.in_err-made.field-0.0 =
    take_fault c.args.def.now c.args.own c.args.event.now c.new-trail.result c.in_ok-picked.picked c.in_err-made.field-0.0 (c.new-trail.ensures c.args.own c.args.event.now)
    c.in_ok-picked.ensures.selected (sym c.is_empty.ensures ∙ c.if-is_empty.false) c.in_err-made.ensures in
    search (rules, known)

pub returns-clause-settles : goal.returns-clause-settles
returns-clause-settles c =
    take_some c.args.def.now c.args.own c.args.event.now c.new-trail.result c.in_ok-picked.picked (run_with c.in_ok-made.made.own c.args.event.now c.make.new.trail) c.in_ok-made.made.finished
    (c.new-trail.ensures c.args.own c.args.event.now) c.in_ok-picked.ensures.selected (sym c.is_empty.ensures ∙ c.if-is_empty.false) c.in_ok-made.ensures c.follow-2.result c.follow-2.ensures.settles

pub returns-clause-allowed : goal.returns-clause-allowed
returns-clause-allowed c =
    start_allowed c.args.def.now _ (run_with c.args.own c.args.event.now c.new-trail.result) c.follow-2.result (c.new-trail.ensures c.args.own c.args.event.now)
    (made_allowed c.args.def.now _ (run_with c.in_ok-made.made.own c.args.event.now c.make.new.trail) c.follow-2.result c.in_ok-made.ensures.keeps c.follow-2.ensures.allowed)
