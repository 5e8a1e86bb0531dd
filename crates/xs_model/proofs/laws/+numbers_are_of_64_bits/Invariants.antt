use Rattle.std.proofs.Common.{All, take}
use Rattle.xs_model.proofs.NumberLemmas.{MemberNumbers}
use Rattle.xs_model.specs.Laws.{HasNumbersOf64Bits}
use Rattle.xs_model.proofs.laws.+numbers_are_of_64_bits.Given as goal

abbrev pub invariant-loop-member : goal.invariant-loop-member
invariant-loop-member l = All HasNumbersOf64Bits (take l.member-index l.member-items)

abbrev pub invariant-loop-member-2 : goal.invariant-loop-member-2
invariant-loop-member-2 l = All MemberNumbers (take l.member-index l.member-items)
