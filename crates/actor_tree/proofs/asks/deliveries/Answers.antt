use Rattle.std.proofs.Common.{◌++◌, ◌∙◌, List, ap}
use Rattle.std.specs.Prelude.{option_to_list}
use Rattle.actor_tree.specs.declared.part.Part.{Part}
use Rattle.actor_tree.specs.Asks.{delivery}
use Rattle.actor_tree.proofs.GrantLemmas.{one_delivery_more}
use Rattle.actor_tree.proofs.asks.deliveries.Goals as goal

pub loop-timer-preserved : goal.loop-timer-preserved
loop-timer-preserved c =
    rw (one_delivery_more c.args.held.now.office c.loop-timer.yielded c.in-Some.timer)
    (c.in_ok-push_delivery.ensures ∙ ap (λ (front : List Part). front ++ option_to_list (delivery c.args.held.now.office c.in-Some.timer)) c.loop-timer.invariant)
