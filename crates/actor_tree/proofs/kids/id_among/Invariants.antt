use Rattle.std.proofs.Common.{◌≡◌, drop}
use Rattle.actor_tree.specs.Kids.{id_among}
use Rattle.actor_tree.proofs.kids.id_among.Given as goal

abbrev pub invariant-loop-id : goal.invariant-loop-id
invariant-loop-id l = id_among (drop l.id-index l.kids) l.number ≡ id_among l.kids l.number
