use Rattle.std.proofs.Common.{◌<◌, length, subst, ℕ}
use Rattle.actor_tree.specs.Heads.{letters_of_spots}
use Rattle.actor_tree.proofs.NumberedLemmas.{rises_with}
use Rattle.actor_tree.proofs.SpotLemmas.{letter_changed, letters_rise, letters_with, spot_of, spot_within}
use Rattle.actor_tree.proofs.heads.Heads.set.Goals as goal

pub set-requires : goal.set-requires
set-requires c =
    let inside = c.self.inside in
    let spot = spot_of c.args.actor c.in-Some.place inside.spots.items c.in-Some.ensures.place in
    subst (λ (n : ℕ). n < length inside.tournament) spot.2 (spot_within inside.next inside.spots.items inside.tournament c.self.invariant c.args.actor spot.0 spot.1)

pub invariant_of-self : goal.invariant_of-self
invariant_of-self c =
    let inside = c.self.inside in
    rw (c.set_letter.ensures.items, c.set.ensures.places, c.entrant_of.ensures)
    (letter_changed inside.next inside.spots.items inside.tournament c.self.invariant c.args.actor c.in-Some.place c.args.letter c.in-Some.ensures.place)

pub returns-in-Some-clause-items : goal.returns-in-Some-clause-items
returns-in-Some-clause-items c = rw (c.set_letter.ensures.items, ← c.self.view_is) (letters_with c.args.actor c.args.letter c.self.inside.spots.items)

pub returns-in_default-clause-items : goal.returns-in_default-clause-items
returns-in_default-clause-items c = rw (c.set_letter.ensures.items, ← c.self.view_is) (letters_with c.args.actor c.args.letter c.self.inside.spots.items)

pub returns-in-Some-clause-by_number : goal.returns-in-Some-clause-by_number
returns-in-Some-clause-by_number c =
    let inside = c.self.inside in
    rw (c.set_letter.ensures.items, letters_with c.args.actor c.args.letter inside.spots.items)
    (rises_with c.args.actor c.args.letter (letters_of_spots inside.spots.items) (letters_rise inside.next inside.spots.items inside.tournament c.self.invariant))

pub returns-in_default-clause-by_number : goal.returns-in_default-clause-by_number
returns-in_default-clause-by_number c =
    let inside = c.self.inside in
    rw (c.set_letter.ensures.items, letters_with c.args.actor c.args.letter inside.spots.items)
    (rises_with c.args.actor c.args.letter (letters_of_spots inside.spots.items) (letters_rise inside.next inside.spots.items inside.tournament c.self.invariant))
