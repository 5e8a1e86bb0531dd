use Rattle.std.proofs.Common.{◌≡◌, true, List, [], ◌∷◌, filter, refl, ap, ◌∙◌, Some, None}
use Rattle.office_types.specs.Ready.{Head, first_of}
use Rattle.actor_tree.specs.Heads.{HaveOwnLetters, heads_among, letters_of_spots}
use Rattle.actor_tree.proofs.SpotLemmas.{first_among}
use Rattle.actor_tree.proofs.heads.Heads.first.Goals as goal

all_kept : (heads : List Head) → filter (λ (_ : Head). true) heads ≡ heads
all_kept [] = refl
all_kept (head ∷ heads) = ap (λ l. head ∷ l) (all_kept heads)

pub returns-in-Some : goal.returns-in-Some
returns-in-Some c =
    let inside = c.self.inside in
    let own : HaveOwnLetters (letters_of_spots inside.spots.items) = rw (← c.self.view_is) at c.requires in
    rw (← c.self.view_is)
    (first_among inside.next inside.spots.items inside.tournament c.self.invariant own (λ _. true) (λ _. true) (λ _. refl) (Some c.in-Some.first) (c.in-Some.ensures) ∙ ap first_of (all_kept (heads_among (letters_of_spots inside.spots.items))))

pub returns-in-None : goal.returns-in-None
returns-in-None c =
    let inside = c.self.inside in
    let own : HaveOwnLetters (letters_of_spots inside.spots.items) = rw (← c.self.view_is) at c.requires in
    rw (← c.self.view_is)
    (first_among inside.next inside.spots.items inside.tournament c.self.invariant own (λ _. true) (λ _. true) (λ _. refl) None (c.in-None.ensures) ∙ ap first_of (all_kept (heads_among (letters_of_spots inside.spots.items))))
