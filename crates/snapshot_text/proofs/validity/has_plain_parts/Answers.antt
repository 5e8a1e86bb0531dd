use Rattle.snapshot_text.proofs.validity.has_plain_parts.Goals as goal

pub returns-then-not-do_timers_rise : goal.returns-then-not-do_timers_rise
returns-then-not-do_timers_rise c = ((λ holds. absurd cc), (λ valid. absurd (let good = c.do_timers_rise.ensures.1 (rw c.as_slice-timers.ensures valid.timers_rise) in let bad = c.if-not-do_timers_rise.true in cc)))

pub returns-then-not-are_names_of : goal.returns-then-not-are_names_of
returns-then-not-are_names_of c = ((λ holds. absurd cc), (λ valid. absurd (let good = c.are_names_of.ensures.1 (rw (c.as_slice-actors.ensures, c.as_slice-names.ensures) valid.names) in let bad = c.if-not-are_names_of.true in cc)))

pub returns : goal.returns
returns c = (
  (λ holds. record {
    numbers = c.has_numbers_left.ensures.0 c.if-not-has_numbers_left.false;
    limits = c.is_within_limits.ensures.0 c.if-not-is_within_limits.false;
    letters = c.are_all_letters.ensures.0 c.if-not-are_all_letters.false;
    timers = c.are_timers.ensures.0 c.if-not-are_timers.false;
    timers_rise = rw c.as_slice-timers.ensures at (c.do_timers_rise.ensures.0 c.if-not-do_timers_rise.false);
    names = rw (c.as_slice-actors.ensures, c.as_slice-names.ensures) at (c.are_names_of.ensures.0 c.if-not-are_names_of.false);
    callers = rw c.as_slice-callers.ensures at (c.are_callers.ensures.0 holds);
  }),
  (λ valid. c.are_callers.ensures.1 (rw c.as_slice-callers.ensures valid.callers)),
)
