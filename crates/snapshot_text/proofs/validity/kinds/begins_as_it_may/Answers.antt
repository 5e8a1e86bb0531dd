use Rattle.std.proofs.Common.{sym, ◌∙◌}
use Rattle.snapshot_text.proofs.validity.kinds.begins_as_it_may.Goals as goal

pub returns : goal.returns
returns c = (
  (λ holds active. rw c.as_slice.ensures at (c.has_its_init.ensures.0 holds)),
  (λ may. c.has_its_init.ensures.1 (rw c.as_slice.ensures (may (sym c.is_active.ensures ∙ c.if-not-is_active.false)))),
)
