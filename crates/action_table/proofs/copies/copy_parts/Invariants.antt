use Rattle.std.proofs.Common.{◌≡◌, take}
use Rattle.action_table.proofs.copies.copy_parts.Given as goal

abbrev pub invariant-loop-key : goal.invariant-loop-key
invariant-loop-key l = l.copies.items ≡ take l.key-index l.key-items
