use Rattle.std.proofs.Common.{◌≡◌, ℕ, Option, List, ◌∷◌, ◌++◌, sym, ap, ◌∙◌, subst}
use Rattle.office_books.specs.NumberedItems.{NumbersRise}
use Rattle.actor_tree.specs.declared.heads.Spot.{Spot}
use Rattle.actor_tree.specs.Heads.{letters_of_spots}
use Rattle.actor_tree.proofs.NumberedLemmas.{lower_before}
use Rattle.actor_tree.proofs.SpotLemmas.{letters_rise}
use Rattle.actor_tree.proofs.heads.Heads.with_more_room.Goals as goal

pub add-requires-clause-newer : goal.add-requires-clause-newer
add-requires-clause-newer c =
    let inside = c.self.inside in
    let made = c.loop-actor.made.items in
    let here : c.loop-actor.actor-iterator ≡ (c.in-Some.actor, c.in-Some.spot.now) ∷ c.next.new.self = c.in-Some.ensures.steps in
    let all : made ++ (c.in-Some.actor, c.in-Some.spot.now.letter) ∷ letters_of_spots c.next.new.self ≡ letters_of_spots inside.spots.items =
    ap (λ (pairs : List (ℕ × Spot)). made ++ letters_of_spots pairs) (sym here) ∙ (c.loop-actor.invariant.0 ∙ sym (ap (λ n. n.items) c.self.view_is)) in
    lower_before made (c.in-Some.actor, c.in-Some.spot.now.letter) (letters_of_spots c.next.new.self)
    (subst (NumbersRise {X = Option ℕ}) (sym all) (letters_rise inside.next inside.spots.items inside.tournament c.self.invariant))
