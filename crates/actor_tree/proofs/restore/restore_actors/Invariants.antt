use Rattle.std.proofs.Common.{◌≡◌, take}
use Rattle.actor_tree.specs.Actors.{records_of}
use Rattle.actor_tree.proofs.restore.restore_actors.Given as goal

abbrev pub invariant-loop-actor : goal.invariant-loop-actor
invariant-loop-actor l = records_of l.made.items ≡ take l.actor-index l.actors
