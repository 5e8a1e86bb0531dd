use Rattle.std.proofs.Common.{sym, subst, List, ℕ}
use Rattle.office_books.proofs.SlotLemmas.{none_kept}
use Rattle.actor_tree.specs.declared.heads.Spot.{Spot}
use Rattle.actor_tree.specs.Heads.{HaveSpots}
use Rattle.actor_tree.proofs.NumberedLemmas.{without_mapped}
use Rattle.actor_tree.proofs.SpotLemmas.{one_left, spot_within}
use Rattle.actor_tree.proofs.heads.Heads.remove.Goals as goal

pub set-requires : goal.set-requires
set-requires c = spot_within c.self.inside.next c.self.inside.spots.items c.self.inside.tournament c.self.invariant c.args.actor c.in-Some.spot (sym c.in-Some.ensures.item)

pub invariant_of-self : goal.invariant_of-self
invariant_of-self c =
    let inside = c.self.inside in
    rw (c.take.ensures.items, c.set.ensures.places) (one_left inside.next inside.spots.items inside.tournament c.self.invariant c.args.actor c.in-Some.spot (sym c.in-Some.ensures.item))

pub invariant_of-self-in_default : goal.invariant_of-self-in_default
invariant_of-self-in_default c =
    let inside = c.self.inside in
    rw c.take.ensures.items
    (subst (λ (spots : List (ℕ × Spot)). HaveSpots inside.next spots inside.tournament) (none_kept c.args.actor inside.spots.items (sym c.in_default.ensures.item)) c.self.invariant)

pub returns-in-Some-clause-items : goal.returns-in-Some-clause-items
returns-in-Some-clause-items c = rw (c.take.ensures.items, ← c.self.view_is) (without_mapped (λ (spot : Spot). spot.letter) c.args.actor c.self.inside.spots.items)

pub returns-in_default-clause-items : goal.returns-in_default-clause-items
returns-in_default-clause-items c = rw (c.take.ensures.items, ← c.self.view_is) (without_mapped (λ (spot : Spot). spot.letter) c.args.actor c.self.inside.spots.items)
