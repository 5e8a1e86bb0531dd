use Rattle.std.proofs.Common.{◌≢◌, ◌-◌, Err, reverse, arith, rules}
use Rattle.xs_model.specs.declared.env.EvalFault.TheVariants.{Memory}
use Rattle.microstep.specs.Readings.{looking_of}
use Rattle.microstep.specs.Selection.{Selects}
use Rattle.microstep.proofs.WalkLemmas.{here-active, picks-inside, reversed-push, step-fault, step-none, step-some, walked-end}
use Rattle.microstep.proofs.picks.picks.Goals as goal

pub pick-requires-clause-picked : goal.pick-requires-clause-picked
pick-requires-clause-picked c =
    rw c.deref.ensures.value
    (picks-inside (looking_of c.args.reading.now) c.requires.begun.configuration.legal.of_tree c.loop-i.picked.items (λ place has. (c.loop-i.invariant.picked place has).1))

pub pick-requires-clause-node : goal.pick-requires-clause-node
pick-requires-clause-node c =
    let first = c.loop-i-test.true in
    let within = c.loop-i.auto.i in
    c.requires.begun.configuration.legal.of_tree _
    (here-active (looking_of c.args.reading.now) c.len-nodes.ensures.tree c.requires.begun.configuration.in_order c.as_slice-nodes.result.now c.as_slice-nodes.ensures
    c.loop-i.i (c.loop-i.i - 1) (omega arith) (omega arith) (reverse c.loop-i.picked.items) c.loop-i.invariant)

pub returns-in_err-place : goal.returns-in_err-place
returns-in_err-place c =
    let first = c.loop-i-test.true in
    let within = c.loop-i.auto.i in
    let known : c.in_err-place.field-0.0 ≢ Memory → Selects (looking_of c.args.reading.now) (Err c.in_err-place.field-0.0) =
    λ apart. step-fault (looking_of c.args.reading.now) c.len-nodes.ensures.tree c.requires.begun.configuration.in_order c.as_slice-nodes.result.now c.as_slice-nodes.ensures
    c.loop-i.i (c.loop-i.i - 1) (omega arith) (omega arith) (reverse c.loop-i.picked.items) c.loop-i.invariant _ (rw c.deref.ensures.value at (c.in_err-place.ensures apart)) in
    search (rules, known)

pub loop-i-preserved-in-Continue-branch-3 : goal.loop-i-preserved-in-Continue-branch-3
loop-i-preserved-in-Continue-branch-3 c =
    let first = c.loop-i-test.true in
    let within = c.loop-i.auto.i in
    let some = rw (c.in-Some.is, c.deref.ensures.value) at c.in_ok-place.ensures in
    rw (c.in_ok-push.ensures.items, reversed-push c.loop-i.picked.items)
    (step-some (looking_of c.args.reading.now) c.len-nodes.ensures.tree c.requires.begun.configuration.in_order c.as_slice-nodes.result.now c.as_slice-nodes.ensures
    c.loop-i.i (c.loop-i.i - 1) (omega arith) (omega arith) (reverse c.loop-i.picked.items) c.loop-i.invariant c.in-Some.place some)

pub loop-i-preserved : goal.loop-i-preserved
loop-i-preserved c =
    let first = c.loop-i-test.true in
    let within = c.loop-i.auto.i in
    let none = rw (c.in_default.is, c.deref.ensures.value) at c.in_ok-place.ensures in
    step-none (looking_of c.args.reading.now) c.len-nodes.ensures.tree c.requires.begun.configuration.in_order c.as_slice-nodes.result.now c.as_slice-nodes.ensures
    c.loop-i.i (c.loop-i.i - 1) (omega arith) (omega arith) (reverse c.loop-i.picked.items) c.loop-i.invariant none

pub returns : goal.returns
returns c =
    walked-end (looking_of c.args.reading.now) c.as_slice-nodes.result.now c.as_slice-nodes.ensures c.loop-i.i c.loop-i-test.false (reverse c.loop-i.picked.items) c.reverse.new.self.items c.reverse.ensures.items c.loop-i.invariant
