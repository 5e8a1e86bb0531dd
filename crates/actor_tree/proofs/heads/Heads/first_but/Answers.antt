use Rattle.std.proofs.Common.{ℕ, not, refl, ap, ◌∙◌, Option, Some, None}
use Rattle.std.specs.Option.{option_or}
use Rattle.office_types.specs.Ready.{Head, first_of, is_busy}
use Rattle.actor_tree.specs.declared.tournament.Entrant.{Entrant}
use Rattle.actor_tree.specs.Heads.{HaveOwnLetters, heads_among, letters_of_spots}
use Rattle.actor_tree.specs.Tournament.{is_listed}
use Rattle.actor_tree.proofs.SpotLemmas.{first_among}
use Rattle.actor_tree.proofs.heads.Heads.first_but.Goals as goal

pub returns-in-Some : goal.returns-in-Some
returns-in-Some c =
    let inside = c.self.inside in
    let busy = c.args.busy.now in
    let own : HaveOwnLetters (letters_of_spots inside.spots.items) = rw (← c.self.view_is) at c.requires in
    let first = first_among inside.next inside.spots.items inside.tournament c.self.invariant own (λ (entrant : Entrant). not (is_listed busy entrant)) (λ (head : Head). not (is_busy busy head)) (λ _. refl) (Some c.in-Some.first) (c.in-Some.ensures) in
    rw (← c.self.view_is) (ap (λ (o : Option ℕ). option_or o (first_of (heads_among (letters_of_spots inside.spots.items)))) first)

pub returns-in-None : goal.returns-in-None
returns-in-None c =
    let inside = c.self.inside in
    let busy = c.args.busy.now in
    let own : HaveOwnLetters (letters_of_spots inside.spots.items) = rw (← c.self.view_is) at c.requires in
    let first = first_among inside.next inside.spots.items inside.tournament c.self.invariant own (λ (entrant : Entrant). not (is_listed busy entrant)) (λ (head : Head). not (is_busy busy head)) (λ _. refl) None (c.in-None.ensures) in
    c.first.ensures ∙ rw (← c.self.view_is) (ap (λ (o : Option ℕ). option_or o (first_of (heads_among (letters_of_spots inside.spots.items)))) first)
