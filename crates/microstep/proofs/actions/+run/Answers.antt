use Rattle.std.proofs.Common.{◌≤◌, arith}
use Rattle.std.proofs.lemmas.List.Elements.{All-nil}
use Rattle.microstep.specs.Actions.{scope_at}
use Rattle.microstep.specs.Choices.{action_depth, items_depth}
use Rattle.microstep.specs.Progressing.{given_of}
use Rattle.microstep.proofs.ChoiceLemmas.{enqueued-start, no-deeper-at}
use Rattle.microstep.proofs.actions.+run.Goals as goal

pub enqueue-run-requires : goal.enqueue-run-requires
enqueue-run-requires t c =
    let depth = items_depth c.args.items.now in
    let same : depth ≤ depth = omega arith in
    let kept = c.in_ok-choose_all.ensures.inside depth same (rw c.new-actions.ensures.items (All-nil _)) in
    let lower : action_depth c.action-item.result.now ≤ depth =
    no-deeper-at depth c.choose_all.new.actions.items c.deref-action-items.result.now c.loop-action.action-index c.action-item.result c.deref-action-items.ensures.value kept c.loop-action-test.true c.action-item.is in
    (omega (arith, lower, c.decreases), tt)

pub enqueue-loop-action-init : goal.enqueue-loop-action-init
enqueue-loop-action-init t c =
    let given = given_of c.args.lent.now in
    enqueued-start (scope_at given c.args.progress.now) given c.args.progress.now c.args.items.now c.new-actions.result.items c.deref-action-items.result.now c.new-actions.ensures.items
    (rw c.deref-action-items.ensures.value c.in_ok-choose_all.ensures.chosen)
