use Rattle.std.proofs.Common.{length}
use Rattle.guard_eval.specs.Definitions.{StartsActors}
use Rattle.office_types.specs.declared.outcome.Own.{Own}
use Rattle.office_types.specs.Definitions.{OfficeDefinitions}
use Rattle.microstep.specs.Actions.{after_action}
use Rattle.microstep.specs.Allowed.{IsAllowedSoFar}
use Rattle.microstep.proofs.ActionLemmas.{action-kept, after-ok}
use Rattle.microstep.proofs.actions.run_action.Goals as goal

pub returns-clause-allowed : goal.returns-clause-allowed
returns-clause-allowed c =
    let event = c.args.event.now in
    let action_use = c.args.action_use.now in
    let before = c.args.progress.now in
    let after = c.run.new.progress in
    after-ok
    ((definitions : OfficeDefinitions) (own : Own) → StartsActors (length definitions.actors) action_use → IsAllowedSoFar definitions own before → IsAllowedSoFar definitions own after)
    c.run.result after (after_action event action_use before) c.run.ensures
    (λ is definitions own starts allowed. action-kept definitions own event action_use before after starts allowed is)
