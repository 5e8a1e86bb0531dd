use Rattle.std.proofs.Common.{◌≡◌, take}
use Rattle.xs_model.proofs.copies.+copy.Given as goal

abbrev pub invariant-loop-member : goal.invariant-loop-member
invariant-loop-member l = l.copies.items ≡ take l.member-index l.member-items

abbrev pub invariant-loop-key : goal.invariant-loop-key
invariant-loop-key l = l.copies.items ≡ take l.key-index l.key-items
