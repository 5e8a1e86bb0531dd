use Rattle.std.proofs.Common.{arith, refl, ◌/◌}
use Rattle.std.proofs.lemmas.Fmt.{decimal_nonempty, length-decimal-le}
use Rattle.xs_model.proofs.SizeLemmas.{length-decimal_digit, length-decimal_step}
use Rattle.xs_model.proofs.size.decimal_len.Goals as goal

pub loop-rest-init : goal.loop-rest-init
loop-rest-init c = (refl, decimal_nonempty c.args.number (omega (arith, c.ranges.number)))

pub overflow_add-len : goal.overflow_add-len
overflow_add-len c =
    omega (arith, c.loop-rest.invariant, length-decimal-le 20 c.args.number (omega arith) (omega (arith, c.ranges.number)) (omega (arith, c.ranges.number)))

pub loop-rest-preserved : goal.loop-rest-preserved
loop-rest-preserved c =
    let rest = c.loop-rest.rest in
    let step = length-decimal_step rest c.loop-rest-test.true (omega (arith, c.loop-rest.auto.rest-fits)) in
    let some = decimal_nonempty (rest / 10) (omega (arith, c.loop-rest.auto.rest-fits)) in
    (omega (arith, c.loop-rest.invariant.0, step), some)

pub returns-clause-exact : goal.returns-clause-exact
returns-clause-exact c = omega (arith, c.loop-rest.invariant.0, length-decimal_digit c.loop-rest.rest c.loop-rest-test.false)

pub returns-clause-small : goal.returns-clause-small
returns-clause-small c =
    omega (arith, c.loop-rest.invariant, length-decimal-le 20 c.args.number (omega arith) (omega (arith, c.ranges.number)) (omega (arith, c.ranges.number)))
