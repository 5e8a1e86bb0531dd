use Rattle.std.proofs.Common.{not}
use Rattle.actor_tree.specs.declared.tournament.Entrant.{Entrant}
use Rattle.actor_tree.specs.Tournament.{IsFirstBelow, is_listed}
use Rattle.actor_tree.proofs.TournamentLemmas.{first_of_all}
use Rattle.actor_tree.proofs.tournament.Tournament.first_but.Goals as goal

pub returns : goal.returns
returns c =
    let winners = c.self.inside.winners.items in
    let places = c.self.inside.places.items in
    let plays = λ (entrant : Entrant). not (is_listed c.args.listed.now entrant) in
    let below : IsFirstBelow plays 1 winners places c.first_below.result = rw (c.as_slice.ensures.value, c.as_slice-2.ensures.value) at c.first_below.ensures in
    rw (← c.self.view_is) (first_of_all winners places c.self.invariant plays c.first_below.result below)
