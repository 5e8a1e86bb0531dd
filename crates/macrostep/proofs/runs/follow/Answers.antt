use Rattle.std.proofs.Common.{rules}
use Rattle.macrostep.specs.Trails.{Follows, MayFail, run_with}
use Rattle.macrostep.proofs.RunLemmas.{done_allowed, done_begun, done_settles, followed_more, output_fault, rest_allowed, rest_begun, rest_settles}
use Rattle.macrostep.proofs.runs.follow.Goals as goal

pub returns-in_default-clause-settles : goal.returns-in_default-clause-settles
returns-in_default-clause-settles c =
    let before = run_with c.args.made.own c.args.first.now c.args.trail in
    let old = run_with c.loop-made.made.own c.args.first.now c.loop-made.trail in
    rest_settles c.args.def.now before old (run_with c.loop-made.made.own c.args.first.now c.next_transitions.new.trail) c.args.made.finished c.loop-made.made.finished
    c.loop-made-test.true c.loop-made.invariant (rw c.in_default.is at c.in_ok-picked.ensures) _ c.into_outcome.ensures

pub returns-in_default-clause-allowed : goal.returns-in_default-clause-allowed
returns-in_default-clause-allowed c =
    let before = run_with c.args.made.own c.args.first.now c.args.trail in
    let old = run_with c.loop-made.made.own c.args.first.now c.loop-made.trail in
    rest_allowed c.args.def.now before old (run_with c.loop-made.made.own c.args.first.now c.next_transitions.new.trail) c.args.made.finished c.loop-made.made.finished
    c.loop-made.invariant (rw c.in_default.is at c.in_ok-picked.ensures) _ c.into_outcome.ensures

pub loop-made-preserved : goal.loop-made-preserved
loop-made-preserved c =
    let before = run_with c.args.made.own c.args.first.now c.args.trail in
    let old = run_with c.loop-made.made.own c.args.first.now c.loop-made.trail in
    let mid = run_with c.loop-made.made.own c.args.first.now c.next_transitions.new.trail in
    followed_more c.args.def.now before old mid (run_with c.in_ok-made.made.own c.args.first.now c.make.new.trail) c.args.made.finished c.loop-made.made.finished c.in_ok-made.made.finished
    c.in-Some.picked c.loop-made-test.true c.loop-made.invariant (rw c.in-Some.is at c.in_ok-picked.ensures) c.in_ok-made.ensures

pub returns-in_err-output-clause-settles : goal.returns-in_err-output-clause-settles
returns-in_err-output-clause-settles c =
    let before = run_with c.args.made.own c.args.first.now c.args.trail in
    let after = run_with c.loop-made.made.own c.args.first.now c.loop-made.trail in
    let known : MayFail (Follows c.args.def.now before c.args.made.finished) c.in_err-output.field-0.0 =
    output_fault c.args.def.now before after c.args.made.finished c.loop-made.made.finished c.in_err-output.field-0.0 _ c.loop-made-test.false c.loop-made.invariant c.event.ensures c.in_err-output.ensures in
    search (rules, known)

pub returns-clause-settles : goal.returns-clause-settles
returns-clause-settles c =
    let before = run_with c.args.made.own c.args.first.now c.args.trail in
    let after = run_with c.loop-made.made.own c.args.first.now c.loop-made.trail in
    done_settles c.args.def.now before after c.args.made.finished c.loop-made.made.finished c.in_ok-output.output _ c.loop-made-test.false c.loop-made.invariant c.event.ensures c.in_ok-output.ensures _ c.into_outcome-2.ensures

pub returns-clause-allowed : goal.returns-clause-allowed
returns-clause-allowed c =
    let before = run_with c.args.made.own c.args.first.now c.args.trail in
    let after = run_with c.loop-made.made.own c.args.first.now c.loop-made.trail in
    done_allowed c.args.def.now before after c.args.made.finished c.loop-made.made.finished c.in_ok-output.output _ c.loop-made.invariant c.event.ensures c.in_ok-output.ensures _ c.into_outcome-2.ensures

pub returns-in_default-clause-begun : goal.returns-in_default-clause-begun
returns-in_default-clause-begun c =
    let before = run_with c.args.made.own c.args.first.now c.args.trail in
    let old = run_with c.loop-made.made.own c.args.first.now c.loop-made.trail in
    rest_begun c.args.def.now before old (run_with c.loop-made.made.own c.args.first.now c.next_transitions.new.trail) c.args.made.finished c.loop-made.made.finished
    c.loop-made.invariant (rw c.in_default.is at c.in_ok-picked.ensures) _ c.into_outcome.ensures

pub returns-clause-begun : goal.returns-clause-begun
returns-clause-begun c =
    let before = run_with c.args.made.own c.args.first.now c.args.trail in
    let after = run_with c.loop-made.made.own c.args.first.now c.loop-made.trail in
    done_begun c.args.def.now before after c.args.made.finished c.loop-made.made.finished c.in_ok-output.output c.loop-made.invariant _ c.into_outcome-2.ensures
