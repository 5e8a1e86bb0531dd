use Rattle.std.proofs.Common.{◌≡◌, take}
use Rattle.xs_model.proofs.action_copies.+copy_action.Given as goal

abbrev pub invariant-copy_items-loop-item : goal.invariant-copy_items-loop-item
invariant-copy_items-loop-item l = l.copies.items ≡ take l.item-index l.item-items
