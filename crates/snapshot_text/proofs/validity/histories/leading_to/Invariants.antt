use Rattle.std.proofs.Common.{◌↔◌, ℕ, take}
use Rattle.std.specs.List.{Contains}
use Rattle.snapshot_text.specs.Histories.{LeadsToSome}
use Rattle.snapshot_text.proofs.validity.histories.leading_to.Given as goal

abbrev pub invariant-loop-leaf : goal.invariant-loop-leaf
invariant-loop-leaf l = (n : ℕ) → Contains l.nodes.items n ↔ LeadsToSome l.tree (take l.leaf-index l.leaves) l.top n
