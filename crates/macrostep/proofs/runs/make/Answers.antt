use Rattle.std.proofs.Common.{rules, length}
use Rattle.microstep.specs.Taking.{transitions_at}
use Rattle.macrostep.specs.Macro.{Makes, one_too_many}
use Rattle.macrostep.specs.Trails.{MayFail, run_with}
use Rattle.macrostep.proofs.RunLemmas.{added_all, at_bound, below_bound, made_fault}
use Rattle.macrostep.proofs.runs.make.Goals as goal

pub returns-then-is_full : goal.returns-then-is_full
returns-then-is_full c = one_too_many (at_bound (length c.args.trail.now.read.items) c.is_full.result c.is_full.ensures c.if-is_full.true)

pub returns-in_err-micro : goal.returns-in_err-micro
returns-in_err-micro c =
    let run = run_with c.args.own c.args.first.now c.args.trail.now in
    let transitions = transitions_at c.args.def.now c.args.picked.now in
    let below = below_bound (length c.args.trail.now.read.items) c.is_full.result c.is_full.ensures c.if-is_full.false c.requires.within in
    let known : MayFail (Makes c.args.def.now run transitions) c.in_err-micro.field-0.0 =
    made_fault c.args.def.now transitions run c.in_err-micro.field-0.0 _ c.event.ensures below c.in_err-micro.ensures.gives in
    search (rules, known)

pub returns : goal.returns
returns c =
    let below = below_bound (length c.args.trail.now.read.items) c.is_full.result c.is_full.ensures c.if-is_full.false c.requires.within in
    added_all c.args.def.now (transitions_at c.args.def.now c.args.picked.now) c.args.own c.args.first.now c.args.trail.now c.add.new.self c.in_ok-micro.micro _ c.add.result
    c.requires.well_formed c.event.ensures below c.in_ok-micro.ensures.gives c.in_ok-micro.ensures.leaves c.add.ensures.added c.add.ensures.fault
