use Rattle.snapshot_text.proofs.ListLemmas.{if_ok_weaker}
use Rattle.snapshot_text.proofs.validity.stand_once.Goals as goal

pub returns-then-not-branch-2 : goal.returns-then-not-branch-2
returns-then-not-branch-2 c = ((λ holds. absurd cc), (λ once. absurd (let good = c.in_ok-are_timer_ids_once.ensures.1 (rw c.as_slice-timers.ensures once.timer_ids) in let bad = c.if-not-branch-2.true in cc)))

pub returns-then-not-branch-3 : goal.returns-then-not-branch-3
returns-then-not-branch-3 c = ((λ holds. absurd cc), (λ once. absurd (let good = c.in_ok-are_names_once.ensures.1 (rw c.as_slice-names.ensures once.names) in let bad = c.if-not-branch-3.true in cc)))

pub returns : goal.returns
returns c =
    if_ok_weaker c.are_callers_once.result c.are_callers_once.ensures
    (λ valid tells. (
      (λ holds. record {
        letters = c.in_ok-are_letters_once.ensures.0 c.if-not-branch.false;
        timer_ids = rw c.as_slice-timers.ensures at (c.in_ok-are_timer_ids_once.ensures.0 c.if-not-branch-2.false);
        names = rw c.as_slice-names.ensures at (c.in_ok-are_names_once.ensures.0 c.if-not-branch-3.false);
        callers = rw c.as_slice-callers.ensures at (tells.0 holds);
      }),
      (λ once. tells.1 (rw c.as_slice-callers.ensures once.callers)),
    ))
