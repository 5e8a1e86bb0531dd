use Rattle.std.proofs.Common.{◌≤◌, length, All, FitsSigned, w64, subst, arith, rules}
use Rattle.std.proofs.lemmas.List.{take_all}
use Rattle.std.proofs.lemmas.List.Elements.{All-more}
use Rattle.xs_model.proofs.NumberLemmas.{numbers-Int, numbers-List, numbers-Map, numbers_none, MemberNumbers}
use Rattle.xs_model.specs.Laws.{HasNumbersOf64Bits}
use Rattle.xs_model.proofs.laws.+numbers_are_of_64_bits.Goals as goal

pub loop-member-preserved : goal.loop-member-preserved
loop-member-preserved t c =
    All-more HasNumbersOf64Bits c.as_slice-member-items.result.now c.loop-member.member-index c.member-item.result (omega arith) c.loop-member.invariant
    (subst HasNumbersOf64Bits c.member-item.is c.numbers_are_of_64_bits.ensures)

pub loop-member-2-preserved : goal.loop-member-2-preserved
loop-member-2-preserved t c =
    All-more MemberNumbers c.as_slice-member-items-in-Map.result.now c.loop-member-2.member-index c.loop-member-2-item.result (omega arith) c.loop-member-2.invariant
    (subst MemberNumbers c.loop-member-2-item.is c.numbers_are_of_64_bits-in-loop-member-2.ensures)

pub returns-in-Int : goal.returns-in-Int
returns-in-Int t c = let fits : FitsSigned w64 c.in-Int.number = search rules in rw c.in-Int.is (numbers-Int c.in-Int.number fits)

pub returns-after-loop-member : goal.returns-after-loop-member
returns-after-loop-member t c =
    let items = c.as_slice-member-items.result.now in
    let ended : length items ≤ c.loop-member.member-index = omega arith in
    let all : All HasNumbersOf64Bits items = subst (All HasNumbersOf64Bits) (take_all c.loop-member.member-index items ended) c.loop-member.invariant in
    rw c.in-List.is (numbers-List c.in-List.members (subst (All HasNumbersOf64Bits) c.as_slice-member-items.ensures all))

pub returns-after-loop-member-2 : goal.returns-after-loop-member-2
returns-after-loop-member-2 t c =
    let items = c.as_slice-member-items-in-Map.result.now in
    let ended : length items ≤ c.loop-member-2.member-index = omega arith in
    let all : All MemberNumbers items = subst (All MemberNumbers) (take_all c.loop-member-2.member-index items ended) c.loop-member-2.invariant in
    rw c.in-Map.is (numbers-Map c.in-Map.members (subst (All MemberNumbers) c.as_slice-member-items-in-Map.ensures.pairs all))

pub returns-in_default : goal.returns-in_default
returns-in_default t c = numbers_none c.args.value.now c.in_default.not-Int c.in_default.not-List c.in_default.not-Map
