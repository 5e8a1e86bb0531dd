use Rattle.std.proofs.Common.{◌≡◌, ◌+◌, length, sum_by, take}
use Rattle.office_types.specs.declared.limits.TheConstants.{MAX_REPLIES}
use Rattle.office_types.specs.declared.office.Caller.{Caller}
use Rattle.snapshot_text.proofs.validity.limits.has_few_replies.Given as goal

abbrev pub invariant-loop-caller : goal.invariant-loop-caller
invariant-loop-caller l = sum_by (λ (caller : Caller). length caller.replies) (take l.caller-index l.callers) + l.left ≡ MAX_REPLIES
