use Rattle.std.proofs.Common.{rules, sym, ◌∙◌}
use Rattle.macrostep.specs.Macro.{Runs}
use Rattle.macrostep.specs.Trails.{MayFail, run_with}
use Rattle.macrostep.proofs.RunLemmas.{eventless_fault, eventless_next, none_now, oldest_fault, oldest_next, oldest_none, rests_now, selected_now}
use Rattle.macrostep.proofs.runs.next_transitions.Goals as goal

pub returns-in_err-eventless : goal.returns-in_err-eventless
returns-in_err-eventless c =
    let before = run_with c.args.own.now c.args.first.now c.args.trail.now in
    let run = run_with c.args.own.now c.args.first.now c.loop-eventless.trail in
    let known : MayFail (Runs c.args.def.now before) c.in_err-eventless.field-0.0 =
    eventless_fault c.args.def.now before run _ c.in_err-eventless.field-0.0 c.loop-eventless.invariant c.event.ensures c.in_err-eventless.ensures.selected in
    search (rules, known)

pub returns-then-not-is_empty : goal.returns-then-not-is_empty
returns-then-not-is_empty c =
    let before = run_with c.args.own.now c.args.first.now c.args.trail.now in
    let run = run_with c.args.own.now c.args.first.now c.loop-eventless.trail in
    let now = selected_now c.args.def.now run _ c.in_ok-eventless.eventless _ c.event.ensures c.in_ok-eventless.ensures.selected in
    eventless_next c.args.def.now before run c.in_ok-eventless.eventless c.loop-eventless.invariant now.0 now.1 (sym c.is_empty.ensures ∙ c.if-not-is_empty.true) c.in_ok-eventless.ensures.taken

pub returns-then-not-take_oldest : goal.returns-then-not-take_oldest
returns-then-not-take_oldest c =
    let before = run_with c.args.own.now c.args.first.now c.args.trail.now in
    let run = run_with c.args.own.now c.args.first.now c.loop-eventless.trail in
    let waits = c.take_oldest.ensures.none c.if-not-take_oldest.true in
    rests_now c.args.def.now before run _ c.loop-eventless.invariant
    (none_now c.args.def.now run _ c.in_ok-eventless.eventless _ c.event.ensures c.in_ok-eventless.ensures.selected (sym c.is_empty.ensures ∙ c.if-not-is_empty.false))
    waits.none (waits.run c.args.own.now c.args.first.now)

pub returns-in_err-picked : goal.returns-in_err-picked
returns-in_err-picked c =
    let before = run_with c.args.own.now c.args.first.now c.args.trail.now in
    let run = run_with c.args.own.now c.args.first.now c.loop-eventless.trail in
    let none = none_now c.args.def.now run _ c.in_ok-eventless.eventless _ c.event.ensures c.in_ok-eventless.ensures.selected (sym c.is_empty.ensures ∙ c.if-not-is_empty.false) in
    let known : MayFail (Runs c.args.def.now before) c.in_err-picked.field-0.0 =
    oldest_fault c.args.def.now before c.args.own.now c.args.first.now c.loop-eventless.trail c.take_oldest.new.self _ c.in_err-picked.field-0.0
    c.loop-eventless.invariant none (c.take_oldest.ensures.taken c.if-not-take_oldest.false) c.event-in-loop-eventless.ensures c.in_err-picked.ensures.selected in
    search (rules, known)

pub returns-then-not-is_empty-2 : goal.returns-then-not-is_empty-2
returns-then-not-is_empty-2 c =
    let before = run_with c.args.own.now c.args.first.now c.args.trail.now in
    let run = run_with c.args.own.now c.args.first.now c.loop-eventless.trail in
    let none = none_now c.args.def.now run _ c.in_ok-eventless.eventless _ c.event.ensures c.in_ok-eventless.ensures.selected (sym c.is_empty.ensures ∙ c.if-not-is_empty.false) in
    oldest_next c.args.def.now before c.args.own.now c.args.first.now c.loop-eventless.trail c.take_oldest.new.self _ c.in_ok-picked.picked
    c.loop-eventless.invariant none (c.take_oldest.ensures.taken c.if-not-take_oldest.false) c.event-in-loop-eventless.ensures c.in_ok-picked.ensures.selected
    (sym c.is_empty-in-loop-eventless.ensures ∙ c.if-not-is_empty-2.true) c.in_ok-picked.ensures.taken

pub loop-eventless-preserved : goal.loop-eventless-preserved
loop-eventless-preserved c =
    let before = run_with c.args.own.now c.args.first.now c.args.trail.now in
    let run = run_with c.args.own.now c.args.first.now c.loop-eventless.trail in
    let none = none_now c.args.def.now run _ c.in_ok-eventless.eventless _ c.event.ensures c.in_ok-eventless.ensures.selected (sym c.is_empty.ensures ∙ c.if-not-is_empty.false) in
    oldest_none c.args.def.now before c.args.own.now c.args.first.now c.loop-eventless.trail c.take_oldest.new.self _ c.in_ok-picked.picked
    c.loop-eventless.invariant none (c.take_oldest.ensures.taken c.if-not-take_oldest.false) c.event-in-loop-eventless.ensures c.in_ok-picked.ensures.selected
    (sym c.is_empty-in-loop-eventless.ensures ∙ c.if-not-is_empty-2.false)
