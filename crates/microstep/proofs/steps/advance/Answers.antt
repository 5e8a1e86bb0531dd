use Rattle.std.proofs.Common.{Err, inr, refl, rules}
use Rattle.std.proofs.lemmas.List.Elements.{Contains-get_or}
use Rattle.guard_eval.proofs.LawLemmas.{is_statechart}
use Rattle.microstep.specs.Micro.{IsMicrostep}
use Rattle.microstep.specs.Taking.{IsAnswered, transitions_at}
use Rattle.microstep.proofs.EndLemmas.{answered-fault}
use Rattle.microstep.proofs.KeptLemmas.{leaves-of}
use Rattle.microstep.proofs.MovedLemmas.{configuration-after, entered-left}
use Rattle.microstep.proofs.StepLemmas.{microstep-by, microstep-fault}
use Rattle.microstep.proofs.steps.advance.Goals as goal

pub act-requires-clause-statechart : goal.act-requires-clause-statechart
act-requires-clause-statechart c = is_statechart c.requires.well_formed.0 c.args.def.now c.requires.well_formed.1

pub act-requires-clause-configuration : goal.act-requires-clause-configuration
act-requires-clause-configuration c =
    configuration-after c.requires.well_formed.0 c.args.def.now c.len-nodes.ensures.tree c.requires.well_formed.1 c.args.own c.requires.begun c.args.picked.now c.requires.picked c.in_ok-made.made c.in_ok-made.ensures.moves

pub act-requires-clause-entered : goal.act-requires-clause-entered
act-requires-clause-entered c = c.in_ok-made.ensures.moves.entered.in_order

pub act-requires-clause-active : goal.act-requires-clause-active
act-requires-clause-active c = λ k d inside. (c.in_ok-made.ensures.moves.configuration.exact _).1 (inr (Contains-get_or c.in_ok-made.made.entered k d inside))

pub ended-requires-clause-statechart : goal.ended-requires-clause-statechart
ended-requires-clause-statechart c = is_statechart c.requires.well_formed.0 c.args.def.now c.requires.well_formed.1

pub ended-requires-clause-configuration : goal.ended-requires-clause-configuration
ended-requires-clause-configuration c =
    configuration-after c.requires.well_formed.0 c.args.def.now c.len-nodes.ensures.tree c.requires.well_formed.1 c.args.own c.requires.begun c.args.picked.now c.requires.picked c.in_ok-made.made c.in_ok-made.ensures.moves

pub returns-in_err-act-clause-gives : goal.returns-in_err-act-clause-gives
returns-in_err-act-clause-gives c =
    let def = c.args.def.now in
    let actors = c.requires.well_formed.0 in
    let formed = c.requires.well_formed.1 in
    let legal = (configuration-after actors def c.len-nodes.ensures.tree formed c.args.own c.requires.begun c.args.picked.now c.requires.picked c.in_ok-made.made c.in_ok-made.ensures.moves).legal in
    let known : IsAnswered (IsMicrostep def c.args.own (transitions_at def c.args.picked.now) c.args.event.now) (Err c.in_err-act.field-0.0) =
    answered-fault (IsMicrostep def c.args.own (transitions_at def c.args.picked.now) c.args.event.now) c.in_err-act.field-0.0
    (λ name is. microstep-fault def c.args.own (transitions_at def c.args.picked.now) c.args.event.now c.in_ok-made.made c.in_ok-made.ensures.moves
    (entered-left actors def c.len-nodes.ensures.tree formed c.args.own c.requires.begun c.args.picked.now c.requires.picked c.in_ok-made.made c.in_ok-made.ensures.moves)
    c.len-nodes.ensures.tree (is_statechart actors def formed) legal name (rw c.in_ok-made.ensures.progress at c.in_err-act.ensures name is)) in
    search (rules, known)

pub returns-clause-gives : goal.returns-clause-gives
returns-clause-gives c =
    let def = c.args.def.now in
    let actors = c.requires.well_formed.0 in
    let formed = c.requires.well_formed.1 in
    microstep-by def c.args.own (transitions_at def c.args.picked.now) c.args.event.now c.in_ok-made.made c.in_ok-made.ensures.moves
    (entered-left actors def c.len-nodes.ensures.tree formed c.args.own c.requires.begun c.args.picked.now c.requires.picked c.in_ok-made.made c.in_ok-made.ensures.moves)
    _ c.ended.result (rw c.in_ok-made.ensures.progress at c.in_ok-act.ensures) (c.ended.ensures c.args.own refl)

pub returns-clause-leaves : goal.returns-clause-leaves
returns-clause-leaves c =
    let def = c.args.def.now in
    let actors = c.requires.well_formed.0 in
    let formed = c.requires.well_formed.1 in
    leaves-of def c.len-nodes.ensures.tree c.args.own c.requires.begun c.args.picked.now c.requires.picked c.args.event.now c.ended.result
    (microstep-by def c.args.own (transitions_at def c.args.picked.now) c.args.event.now c.in_ok-made.made c.in_ok-made.ensures.moves
    (entered-left actors def c.len-nodes.ensures.tree formed c.args.own c.requires.begun c.args.picked.now c.requires.picked c.in_ok-made.made c.in_ok-made.ensures.moves)
    _ c.ended.result (rw c.in_ok-made.ensures.progress at c.in_ok-act.ensures) (c.ended.ensures c.args.own refl))
