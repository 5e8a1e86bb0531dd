use Rattle.std.proofs.Common.{sym, ap, ◌∙◌, inr, arith}
use Rattle.office_run.proofs.InputLemmas.{read-on, read-piece, gives-fed, gives-last, gives-end, gives-too_much, gives-failed}
use Rattle.office_run.proofs.input.Input.next_line.Goals as goal

pub returns-then-self-clause-gives : goal.returns-then-self-clause-gives
returns-then-self-clause-gives g c = record {
  gives = inr (sym (ap (λ t. t.ended) c.self.view_is) ∙ c.if-self.true);
  counted = omega arith;
  limited = c.requires;
}

pub returns-in-Ok-true-clause-gives : goal.returns-in-Ok-true-clause-gives
returns-in-Ok-true-clause-gives g c =
    let moved = rw c.in-Ok-true.field-0-test at c.in-Ok-true.ensures.ok in
    gives-fed _ _ _ _ _ _ c.pieces.invariant.reading moved.1 moved.2

pub pieces-preserved : goal.pieces-preserved
pieces-preserved g c =
    let moved = rw c.in-Ok-false.field-0-test at c.in-Ok-false.ensures.ok in
    let on = read-on _ _ _ _ _ _ c.pieces.invariant.reading moved.1 moved.2 in
    record {
      reading = read-piece _ _ _ _ on.0 on.1 c.in-More.ensures.fills;
      written = c.in-More.ensures.written ∙ c.pieces.invariant.written;
      write_faults = c.in-More.ensures.write_faults ∙ c.pieces.invariant.write_faults;
      read_faults = c.in-More.ensures.not_failed (λ is. cc) ∙ c.pieces.invariant.read_faults;
    }

pub returns-in-End-2-clause-gives : goal.returns-in-End-2-clause-gives
returns-in-End-2-clause-gives g c =
    let moved = rw c.in-Ok-false.field-0-test at c.in-Ok-false.ensures.ok in
    let on = read-on _ _ _ _ _ _ c.pieces.invariant.reading moved.1 moved.2 in
    gives-last _ _ _ _ on.0 on.1 c.in-End-2.ensures.fills (omega arith)

pub returns-in-End-clause-gives : goal.returns-in-End-clause-gives
returns-in-End-clause-gives g c =
    let moved = rw c.in-Ok-false.field-0-test at c.in-Ok-false.ensures.ok in
    let on = read-on _ _ _ _ _ _ c.pieces.invariant.reading moved.1 moved.2 in
    gives-end _ _ _ _ on.0 on.1 c.in-End.ensures.fills (omega arith)

pub returns-in-TooMuch-clause-gives : goal.returns-in-TooMuch-clause-gives
returns-in-TooMuch-clause-gives g c =
    let moved = rw c.in-Ok-false.field-0-test at c.in-Ok-false.ensures.ok in
    let on = read-on _ _ _ _ _ _ c.pieces.invariant.reading moved.1 moved.2 in
    gives-too_much _ _ _ _ on.0 on.1 c.in-TooMuch.ensures.fills

pub returns-in-Failed-clause-gives : goal.returns-in-Failed-clause-gives
returns-in-Failed-clause-gives g c =
    let moved = rw c.in-Ok-false.field-0-test at c.in-Ok-false.ensures.ok in
    let on = read-on _ _ _ _ _ _ c.pieces.invariant.reading moved.1 moved.2 in
    gives-failed _ _ _ _ on.0 on.1 c.in-Failed.ensures.fills
