use Rattle.guard_eval.specs.declared.transition.ActionUse.{ActionUse}
use Rattle.microstep.specs.Acts.{Act, after_act, after_acts, runs}
use Rattle.std.proofs.Common.{◌≡◌}
use Rattle.microstep.proofs.TurnLemmas.{turn_from}
use Rattle.microstep.proofs.acts.run_all.Given as goal

-- what is done so far, and what is left to do
abbrev pub invariant-loop-action_use : goal.invariant-loop-action_use
invariant-loop-action_use l = after_acts l.event (runs l.actions) l.fn.progress ≡ turn_from (λ (action_use : ActionUse). after_act l.event (Act.Run action_use)) l.actions l.action_use-index l.progress
