use Rattle.std.proofs.Common.{◌≡◌, false, nat_le, refl, sym, arith}
use Rattle.ordered_json.specs.Meaning.{magnitude}
use Rattle.machine_json.specs.declared.key.TheConstants.{MAX_DELAY}
use Rattle.machine_json.proofs.KeyLemmas.{past}
use Rattle.machine_json.proofs.key.delay_value.Goals as goal

pub returns-then-delay-gt-MAX_DELAY : goal.returns-then-delay-gt-MAX_DELAY
returns-then-delay-gt-MAX_DELAY c =
    let gone : nat_le (magnitude c.args.digits.now) MAX_DELAY ≡ false =
    sym (past c.args.digits.now c.loop-digit.digit-index c.loop-digit.delay MAX_DELAY c.loop-digit.invariant.so_far c.loop-digit-test.true (omega (arith, c.if-delay-gt-MAX_DELAY.true))) in
    record { value = rw gone refl; bound = tt }
