use Rattle.std.proofs.Common.{take}
use Rattle.std.specs.List.{All}
use Rattle.office_types.specs.ValidOffice.{IsDecidedReply}
use Rattle.snapshot_text.proofs.validity.callers.are_decided.Given as goal

abbrev pub invariant-loop-reply : goal.invariant-loop-reply
invariant-loop-reply l = All IsDecidedReply (take l.reply-index l.replies)
