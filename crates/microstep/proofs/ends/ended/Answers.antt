use Rattle.std.proofs.Common.{◌≡◌, Err, Ok, rules}
use Rattle.microstep.specs.Micro.{Ends}
use Rattle.microstep.proofs.EndLemmas.{answered-fault, ended-last, ended-on, ends-wrong}
use Rattle.microstep.proofs.ends.ended.Goals as goal
use Rattle.microstep.proofs.ends.ended.Goals.{then-finished+in_ok-finish, else-finished}

pub returns-in_err-finish : goal.returns-in_err-finish
returns-in_err-finish c =
    let over = rw c.as_slice.ensures at (c.is_root_done-finished.ensures.0 c.if-finished.true) in
    let same : c.from_residual.result ≡ Err c.in_err-finish.field-0.0 = search rules in
    λ own is.
    rw same
    (answered-fault (Ends c.args.def.now own c.args.made c.args.event.now (Ok c.args.progress)) c.in_err-finish.field-0.0
    (λ name at. ends-wrong c.args.def.now own c.args.made c.args.event.now c.args.progress name over (rw c.as_slice-then-finished.ensures at (c.in_err-finish.ensures name at))))

pub returns : goal.returns
returns c =
    elim c.if-finished.branch [
      | then-finished+in_ok-finish w ↦ λ own is.
          ended-last c.args.def.now own c.args.made c.args.event.now c.args.number c.is_root_done-finished.result c.args.progress w.finish.new.progress c.if-finished.progress is w.if-finished.true w.progress-is
          (rw c.as_slice.ensures at (c.is_root_done-finished.ensures.0 w.if-finished.true)) (rw w.as_slice-then-finished.ensures at w.in_ok-finish.ensures)
      | else-finished w ↦ λ own is.
          ended-on c.args.def.now own c.args.made c.args.event.now c.args.number c.is_root_done-finished.result c.args.progress c.if-finished.progress is w.if-finished.false w.progress-is
          (λ over. let sure = c.is_root_done-finished.ensures.1 (rw c.as_slice.ensures over) in cc)
    ]
