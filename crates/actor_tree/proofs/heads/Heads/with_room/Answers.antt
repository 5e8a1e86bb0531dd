use Rattle.std.proofs.Common.{ℕ, List, replicate, Option, None, sym, subst, ap, ◌∙◌}
use Rattle.office_books.specs.NumberedItems.{NumberedItems}
use Rattle.actor_tree.specs.declared.heads.Spot.{Spot}
use Rattle.actor_tree.specs.declared.tournament.Entrant.{Entrant}
use Rattle.actor_tree.specs.Heads.{HaveSpots}
use Rattle.actor_tree.proofs.SpotLemmas.{nobody_placed}
use Rattle.actor_tree.proofs.heads.Heads.with_room.Goals as goal

pub invariant_of-result-2 : goal.invariant_of-result-2
invariant_of-result-2 c =
    let none = ap (λ (n : NumberedItems Spot). n.items) c.spots.view_is ∙ (c.reserve.ensures.items ∙ c.new-spots.ensures) in
    rw c.in_ok-new.ensures
    (subst (λ (spots : List (ℕ × Spot)). HaveSpots 0 spots (replicate {A = Option Entrant} c.args.room None)) (sym none) (nobody_placed c.args.room))
