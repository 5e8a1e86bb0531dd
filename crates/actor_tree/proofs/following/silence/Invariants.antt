use Rattle.std.proofs.Common.{◌≡◌, drop}
use Rattle.actor_tree.specs.Following.{silenced}
use Rattle.actor_tree.proofs.following.silence.Given as goal

abbrev pub invariant-loop-number : goal.invariant-loop-number
invariant-loop-number l = (silenced (drop l.number-index l.numbers) l.heads.items ≡ silenced l.numbers l.initial.heads.items) × (l.heads.spare ≡ l.initial.heads.spare)
