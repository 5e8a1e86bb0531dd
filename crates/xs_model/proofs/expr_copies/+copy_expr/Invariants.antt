use Rattle.std.proofs.Common.{◌≡◌, take}
use Rattle.xs_model.proofs.expr_copies.+copy_expr.Given as goal

abbrev pub invariant-copy_exprs-loop-part : goal.invariant-copy_exprs-loop-part
invariant-copy_exprs-loop-part l = l.copies.items ≡ take l.part-index l.part-items

abbrev pub invariant-copy_parts-loop-key : goal.invariant-copy_parts-loop-key
invariant-copy_parts-loop-key l = l.copies.items ≡ take l.key-index l.key-items
