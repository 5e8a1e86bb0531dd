use Rattle.std.proofs.Common.{◌≡◌, ◌≢◌, true, false, length, sym, arith, rules}
use Rattle.std.proofs.lemmas.Grind.{common_steps}
use Rattle.xs_model.proofs.EqualityLemmas.{decided}
use Rattle.xs_model.proofs.SameLemmas.{same-List, same-Map, pass-lengths, member_same}
use Rattle.xs_model.specs.Equality.{same}
use Rattle.xs_model.proofs.equality.+same.Goals as goal

pub returns-then-len-ys-clause-test : goal.returns-then-len-ys-clause-test
returns-then-len-ys-clause-test t c =
    let other : length c.in-List-List.xs ≢ length c.in-List-List.ys = search rules in
    rw (c.in-List-List.is-0, c.in-List-List.is-1, same-List) (sym (pass-lengths same c.in-List-List.xs c.in-List-List.ys other))

pub returns-then-len-ys-clause-decides : goal.returns-then-len-ys-clause-decides
returns-then-len-ys-clause-decides t c = decided false c.args.a.now c.args.b.now (returns-then-len-ys-clause-test t c)

pub returns-then-len-ys-2-clause-test : goal.returns-then-len-ys-2-clause-test
returns-then-len-ys-2-clause-test t c =
    let other : length c.in-Map-Map.xs ≢ length c.in-Map-Map.ys = search rules in
    rw (c.in-Map-Map.is-0, c.in-Map-Map.is-1, same-Map) (sym (pass-lengths member_same c.in-Map-Map.xs c.in-Map-Map.ys other))

pub returns-then-len-ys-2-clause-decides : goal.returns-then-len-ys-2-clause-decides
returns-then-len-ys-2-clause-decides t c = decided false c.args.a.now c.args.b.now (returns-then-len-ys-2-clause-test t c)

pub returns-after-loop-place-clause-decides : goal.returns-after-loop-place-clause-decides
returns-after-loop-place-clause-decides t c = decided true c.args.a.now c.args.b.now (grind (arith, common_steps))

pub returns-after-loop-place-2-clause-decides : goal.returns-after-loop-place-2-clause-decides
returns-after-loop-place-2-clause-decides t c = decided true c.args.a.now c.args.b.now (grind (arith, common_steps))

pub loop-place-2-init : goal.loop-place-2-init
loop-place-2-init t c =
    let same_length : length c.in-Map-Map.xs ≡ length c.in-Map-Map.ys = search rules in
    rw (c.as_slice-key-items.ensures.pairs, c.as_slice-ys-in-Map-Map.ensures.pairs, c.in-Map-Map.is-0, c.in-Map-Map.is-1) (same-Map _ _, same_length)
