use Rattle.std.proofs.Common.{refl, arith}
use Rattle.std.proofs.lemmas.List.Elements.{All-more}
use Rattle.office_types.specs.ValidOffice.{IsDecidedReply}
use Rattle.snapshot_text.proofs.ListLemmas.{whole_in}
use Rattle.snapshot_text.proofs.validity.callers.are_decided.Goals as goal

pub returns-then-not-is_decided : goal.returns-then-not-is_decided
returns-then-not-is_decided c = ((λ yes. absurd cc), (λ all. absurd (let no = c.is_decided.ensures.1 (all c.loop-reply.reply-index _ (omega arith)) in cc)))

pub loop-reply-preserved : goal.loop-reply-preserved
loop-reply-preserved c = All-more IsDecidedReply c.args.replies.now c.loop-reply.reply-index _ (omega arith) c.loop-reply.invariant (c.is_decided.ensures.0 c.if-not-is_decided.false)

pub returns : goal.returns
returns c = ((λ yes. whole_in IsDecidedReply c.args.replies.now c.args.replies.now refl c.loop-reply.reply-index (omega arith) c.loop-reply.invariant), (λ all. refl))
