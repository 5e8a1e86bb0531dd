use Rattle.std.proofs.Common.{◌*◌, ◌-◌, length}
use Rattle.actor_tree.proofs.tournament.+first_below.Given as goal

-- how many nodes are left behind this one
abbrev pub decreases-first_below : goal.decreases-first_below
decreases-first_below l = 2 * length l.places.now - l.node
