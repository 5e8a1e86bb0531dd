use Rattle.std.proofs.Common.{◌<◌, length, arith}
use Rattle.microstep.proofs.ExitLemmas.{kept-pass, kept-push}
use Rattle.microstep.proofs.selection.kept.Goals as goal
use Rattle.microstep.proofs.selection.kept.Goals.{then-flags-i+in_ok-push, else-flags-i}

pub loop-i-preserved : goal.loop-i-preserved
loop-i-preserved c =
    let flags = c.args.flags.now in
    let picked = c.args.picked.now in
    let inside : c.loop-i.i < length flags = omega (arith, c.requires, c.loop-i-test.true) in
    elim c.if-flags-i.branch [
      | then-flags-i+in_ok-push w ↦ rw (w.taken-is, w.in_ok-push.ensures.items) (kept-push c.loop-i.taken.items flags picked c.loop-i.i _ _ _ inside c.loop-i-test.true w.if-flags-i.true c.loop-i.invariant)
      | else-flags-i w ↦ rw w.taken-is (kept-pass c.loop-i.taken.items flags picked c.loop-i.i _ (0, 0) _ inside c.loop-i-test.true w.if-flags-i.false c.loop-i.invariant)
    ]
