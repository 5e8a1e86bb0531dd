use Rattle.std.proofs.Common.{◌≡◌, ◌*◌, map, suc}
use Rattle.std.specs.Borrow.{Bor}
use Rattle.xs_model.specs.declared.action.Action.{Action}
use Rattle.microstep.specs.Actions.{enqueued, scope_at}
use Rattle.microstep.specs.Choices.{action_depth, choice, does, items_depth}
use Rattle.microstep.specs.Progressing.{given_of}
use Rattle.microstep.proofs.TurnLemmas.{turn_from}
use Rattle.microstep.proofs.actions.+run.Given as goal

-- what the actions so far have left, and the actions to come
abbrev pub invariant-enqueue-loop-action : goal.invariant-enqueue-loop-action
invariant-enqueue-loop-action l =
    enqueued (scope_at (given_of l.lent) l.fn.progress) (map choice l.items) (given_of l.lent) l.fn.progress
    ≡ turn_from (λ (action : Bor Action). does action (given_of l.lent)) l.action-items l.action-index l.progress

abbrev pub decreases-run : goal.decreases-run
decreases-run l = 2 * action_depth l.action.now

abbrev pub decreases-enqueue : goal.decreases-enqueue
decreases-enqueue l = suc (2 * items_depth l.items.now)
