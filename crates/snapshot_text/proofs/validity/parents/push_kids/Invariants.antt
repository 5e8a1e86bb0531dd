use Rattle.std.proofs.Common.{◌≡◌, ◌++◌, take}
use Rattle.snapshot_text.specs.Validity.{kid_numbers}
use Rattle.snapshot_text.proofs.validity.parents.push_kids.Given as goal

abbrev pub invariant-loop-number : goal.invariant-loop-number
invariant-loop-number l = l.listed.items ≡ l.initial.listed.items ++ kid_numbers (take l.number-index l.kids)
