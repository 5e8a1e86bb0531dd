use Rattle.std.proofs.Common.{◌≡◌, ℕ, Option, List, sym, subst}
use Rattle.std.specs.List.{All}
use Rattle.actor_tree.proofs.FollowingLemmas.{earlier_below}
use Rattle.actor_tree.proofs.NumberedLemmas.{Lower}
use Rattle.actor_tree.proofs.following.heads_of.Goals as goal

pub add-requires-clause-newer : goal.add-requires-clause-newer
add-requires-clause-newer c =
    let actor = c.actor-item.result in
    subst (λ (items : List (ℕ × Option ℕ)). All (Lower {X = Option ℕ} actor.number) items) (sym c.loop-actor.invariant.0)
    (earlier_below c.args.actors.now c.loop-actor.actor-index actor c.requires c.loop-actor-test.true c.actor-item.is)
