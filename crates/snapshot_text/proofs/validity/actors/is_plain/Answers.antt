use Rattle.snapshot_text.proofs.validity.actors.is_plain.Goals as goal

pub returns : goal.returns
returns c = (
  (λ holds. record {
    ended = c.has_ended_if_it_has.ensures.0 c.if-not-has_ended_if_it_has.false;
    system = c.is_name_if_some.ensures.0 c.if-not-is_name_if_some.false;
    values = c.has_its_values.ensures.0 c.if-not-has_its_values.false;
    mailbox = rw c.as_slice-letters.ensures at (c.do_letters_rise.ensures.0 holds);
  }),
  (λ plain. c.do_letters_rise.ensures.1 (rw c.as_slice-letters.ensures plain.mailbox)),
)
