use Rattle.std.proofs.Common.{◌<◌, length}
use Rattle.actor_tree.specs.Tournament.{IsPlayedBut}
use Rattle.actor_tree.proofs.tournament.play_up.Given as goal

abbrev pub invariant-loop-at : goal.invariant-loop-at
invariant-loop-at l = IsPlayedBut l.at l.winners l.places × (l.at < length l.winners)

abbrev pub decreases-loop-at : goal.decreases-loop-at
decreases-loop-at l = l.at
