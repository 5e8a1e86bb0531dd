use Rattle.std.proofs.Common.{◌≡◌, take}
use Rattle.office_types.proofs.copies.copy_kids.Given as goal

abbrev pub invariant-loop-id : goal.invariant-loop-id
invariant-loop-id l = l.copies.items ≡ take l.id-index l.kids
