use Rattle.std.proofs.Common.{◌-◌, ◌∙◌, ℕ, arith, reverse, rules}
use Rattle.std.specs.List.{flat_map}
use Rattle.microstep.specs.Acts.{after_act, after_acts, exit_acts}
use Rattle.microstep.specs.Progressing.{IsNamed}
use Rattle.microstep.proofs.ActLemmas.{back-end, back-more, back-start, back-stops, turn-flat_map}
use Rattle.microstep.proofs.acts.leave_all.Goals as goal

pub loop-i-init : goal.loop-i-init
loop-i-init c =
    turn-flat_map (after_act c.args.event.now) (exit_acts c.args.def.now) (reverse c.args.nodes.now) c.args.progress.now
    ∙ back-start (λ (n : ℕ). after_acts c.args.event.now (exit_acts c.args.def.now n)) c.args.nodes.now c.args.progress.now

pub loop-i-preserved : goal.loop-i-preserved
loop-i-preserved c =
    let first = c.loop-i-test.true in
    let within = c.loop-i.auto.i in
    c.loop-i.invariant
    ∙ back-more (λ (n : ℕ). after_acts c.args.event.now (exit_acts c.args.def.now n)) c.args.nodes.now c.loop-i.i (c.loop-i.i - 1) 0 c.loop-i.progress _ (omega arith) (omega arith) c.in_ok-leave.ensures

pub returns-in_err-leave : goal.returns-in_err-leave
returns-in_err-leave c =
    let first = c.loop-i-test.true in
    let within = c.loop-i.auto.i in
    let known : IsNamed c.in_err-leave.field-0.0 (after_acts c.args.event.now (flat_map (exit_acts c.args.def.now) (reverse c.args.nodes.now)) c.args.progress.now) =
    λ name is. c.loop-i.invariant
    ∙ back-stops (λ (n : ℕ). after_acts c.args.event.now (exit_acts c.args.def.now n)) c.args.nodes.now c.loop-i.i (c.loop-i.i - 1) 0 c.loop-i.progress name (omega arith) (omega arith) (c.in_err-leave.ensures name is) in
    search (rules, known)

pub returns : goal.returns
returns c =
    let last = c.loop-i-test.false in
    c.loop-i.invariant ∙ back-end (λ (n : ℕ). after_acts c.args.event.now (exit_acts c.args.def.now n)) c.args.nodes.now c.loop-i.i c.loop-i.progress (omega arith)
