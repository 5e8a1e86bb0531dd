use Rattle.std.proofs.Common.{◌≡◌, ◌+◌, ◌*◌, ◌/◌, set, refl, arith, length-set}
use Rattle.actor_tree.specs.Tournament.{IsPlayedBut, earlier_entrant, node_at}
use Rattle.actor_tree.proofs.TournamentLemmas.{played_up}
use Rattle.actor_tree.proofs.tournament.play_up.Goals as goal

pub loop-at-preserved : goal.loop-at-preserved
loop-at-preserved c =
    let winners = c.loop-at.winners in
    let places = c.args.places.now in
    let at = c.loop-at.at in
    let winner : c.earlier_entrant.result ≡ earlier_entrant (node_at winners places (2 * at)) (node_at winners places (2 * at + 1)) =
    rw (c.earlier_entrant.ensures, c.node_at-left.ensures, c.node_at-right.ensures) refl in
    let played : IsPlayedBut (at / 2) (set winners at c.earlier_entrant.result) places = rw winner (played_up winners places at c.loop-at.invariant.0 c.loop-at-test.true c.loop-at.invariant.1) in
    (played, omega (arith, length-set winners at c.earlier_entrant.result))
