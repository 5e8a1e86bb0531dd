use Rattle.std.proofs.Common.{rules}
use Rattle.snapshot_text.proofs.validity.callers.is_kept_caller.Goals as goal

pub returns : goal.returns
returns c = (
  (λ yes. record { name = search rules; some = search rules; replies = rw c.as_slice.ensures at (c.are_decided.ensures.0 yes) }),
  (λ valid. c.are_decided.ensures.1 (rw c.as_slice.ensures valid.replies)),
)
