use Rattle.std.proofs.Common.{◌≡◌, take}
use Rattle.actor_tree.proofs.records.copy_pairs.Given as goal

abbrev pub invariant-loop-text : goal.invariant-loop-text
invariant-loop-text l = l.copies.items ≡ take l.text-index l.pairs
