use Rattle.std.proofs.Common.{◌≡◌, true, Option, None, Some, IfSome, refl, sym, ◌∙◌, arith, vec_len, ◌≢◌}
use Rattle.std.proofs.lemmas.Bool.{eqb-false}
use Rattle.actor_tree.specs.declared.tournament.Entrant.{Entrant}
use Rattle.actor_tree.specs.Tournament.{node_at}
use Rattle.actor_tree.proofs.TournamentLemmas.{first_here, first_of_all}
use Rattle.actor_tree.proofs.tournament.Tournament.first.Goals as goal

all_play : (first : Option Entrant) → IfSome first (λ (entrant : Entrant). true ≡ true)
all_play None = tt
all_play (Some entrant) = refl

pub returns : goal.returns
returns c =
    let winners = c.self.inside.winners.items in
    let places = c.self.inside.places.items in
    let here : node_at winners places 1 ≡ c.node_at.result = sym (rw (c.as_slice.ensures.value, c.as_slice-2.ensures.value) at c.node_at.ensures) in
    let some : vec_len c.self.inside.places ≢ 0 = eqb-false (vec_len c.self.inside.places) 0 (sym c.is_empty.ensures ∙ c.if-is_empty.false) in
    rw (← c.self.view_is)
    (first_of_all winners places c.self.invariant (λ _. true) c.node_at.result (first_here winners places c.self.invariant (λ _. true) 1 c.node_at.result (omega arith) (omega arith) here (all_play c.node_at.result)))
