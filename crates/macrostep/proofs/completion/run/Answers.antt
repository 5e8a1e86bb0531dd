use Rattle.std.proofs.Common.{Bool, rules, subst}
use Rattle.macrostep.specs.Macro.{IsMacrostep, outcome_of}
use Rattle.macrostep.specs.Trails.{IsUnhandled, MayFail}
use Rattle.macrostep.proofs.OutcomeLemmas.{copy_outcome, unhandled_fault, unhandled_outcome}
use Rattle.macrostep.proofs.completion.run.Goals as goal

pub returns-in_err-is_unhandled : goal.returns-in_err-is_unhandled
returns-in_err-is_unhandled c =
    let known : MayFail (λ ended. IsMacrostep c.args.def.now c.args.own.now c.args.event.now (outcome_of c.args.own.now ended)) c.in_err-is_unhandled.field-0.0 =
    unhandled_fault c.args.def.now c.args.own.now c.args.event.now c.in_err-is_unhandled.field-0.0 c.in_err-is_unhandled.ensures in
    search (rules, known)

pub returns-then-branch : goal.returns-then-branch
returns-then-branch c =
    let So : Bool → Type 0 = λ b. IsUnhandled c.args.def.now c.args.own.now c.args.event.now b in
    unhandled_outcome c.args.def.now c.args.own.now c.in_ok-copy_own.field-0 c.args.event.now c.in_ok-error.error _ c.requires.begun
    (subst So c.if-branch.true c.in_ok-is_unhandled.ensures) c.in_ok-copy_own.ensures c.in_ok-error.ensures c.error_outcome.ensures

pub returns : goal.returns
returns c =
    let So : Bool → Type 0 = λ b. IsUnhandled c.args.def.now c.args.own.now c.args.event.now b in
    copy_outcome c.args.def.now c.args.own.now c.in_ok-copy_own-2.field-0 c.args.event.now c.take.result c.in_ok-copy_own-2.ensures c.requires.begun
    (subst So c.if-branch.false c.in_ok-is_unhandled.ensures) c.take.ensures.settles c.take.ensures.allowed c.take.ensures.within c.take.ensures.begun
