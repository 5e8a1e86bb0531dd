use Rattle.std.proofs.Common.{◌≡◌, not, Some, None, sym, ap, ◌∙◌}
use Rattle.actor_tree.specs.declared.tournament.Entrant.{Entrant}
use Rattle.actor_tree.specs.Tournament.{is_listed, node_at}
use Rattle.actor_tree.proofs.TournamentLemmas.{first_here, first_of_two, none_here}
use Rattle.actor_tree.proofs.tournament.+first_below.Goals as goal

pub returns-in_err-first : goal.returns-in_err-first
returns-in_err-first t c =
    let here : node_at c.args.winners.now c.args.places.now c.args.node ≡ None = sym c.node_at.ensures ∙ c.in_err-first.was in
    rw c.from_residual.ensures
    (first_here c.args.winners.now c.args.places.now c.requires.played (λ (entrant : Entrant). not (is_listed c.args.listed.now entrant)) c.args.node None c.requires.above c.requires.within here tt)

pub returns-then-not-is_listed : goal.returns-then-not-is_listed
returns-then-not-is_listed t c =
    let here : node_at c.args.winners.now c.args.places.now c.args.node ≡ Some c.in_ok-first.first = sym c.node_at.ensures ∙ c.in_ok-first.was in
    first_here c.args.winners.now c.args.places.now c.requires.played (λ (entrant : Entrant). not (is_listed c.args.listed.now entrant)) c.args.node (Some c.in_ok-first.first) c.requires.above c.requires.within here (ap not (sym c.is_listed.ensures ∙ c.if-not-is_listed.true))

pub returns-then-node-winners : goal.returns-then-node-winners
returns-then-node-winners t c =
    let here : node_at c.args.winners.now c.args.places.now c.args.node ≡ Some c.in_ok-first.first = sym c.node_at.ensures ∙ c.in_ok-first.was in
    none_here c.args.winners.now c.args.places.now c.requires.played (λ (entrant : Entrant). not (is_listed c.args.listed.now entrant)) c.args.node c.in_ok-first.first c.if-node-winners.true here (ap not (sym c.is_listed.ensures ∙ c.if-not-is_listed.false))

pub returns : goal.returns
returns t c =
    let here : node_at c.args.winners.now c.args.places.now c.args.node ≡ Some c.in_ok-first.first = sym c.node_at.ensures ∙ c.in_ok-first.was in
    rw c.earlier_entrant.ensures
    (first_of_two c.args.winners.now c.args.places.now c.requires.played (λ (entrant : Entrant). not (is_listed c.args.listed.now entrant)) c.args.node c.in_ok-first.first _ _ here (ap not (sym c.is_listed.ensures ∙ c.if-not-is_listed.false)) c.first_below-left.ensures c.first_below-right.ensures)
